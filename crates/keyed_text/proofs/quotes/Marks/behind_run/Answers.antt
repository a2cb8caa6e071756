use Rattle.std.proofs.Common.{sym}
use Rattle.keyed_text.proofs.QuoteLemmas.{quoted-run}
use Rattle.keyed_text.proofs.quotes.Marks.behind_run.Goals as goal

pub returns-in-Quoted : goal.returns-in-Quoted
returns-in-Quoted c = rw c.in-Quoted.is (sym (quoted-run c.args.self c.args.run.now c.requires))
