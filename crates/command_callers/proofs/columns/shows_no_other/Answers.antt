use Rattle.std.proofs.Common.{ap, nat_eq, true≢false}
use Rattle.std.specs.Cmp.Lexicographic.{pointwise}
use Rattle.std.specs.Prelude.{codes}
use Rattle.command_callers.proofs.columns.shows_no_other.Goals as goal

pub returns : goal.returns
returns c = λ shown. true≢false (ap (pointwise nat_eq (codes "x")) (c.law_shown_apart.ensures (codes "x") (codes "y") c.args.text.now c.requires shown))
