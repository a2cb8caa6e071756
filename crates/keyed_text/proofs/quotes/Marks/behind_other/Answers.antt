use Rattle.std.proofs.Common.{◌∙◌, ap, sym, Some}
use Rattle.keyed_text.proofs.QuoteLemmas.{plain-run}
use Rattle.keyed_text.proofs.quotes.Marks.behind_other.Goals as goal

pub returns-then-is_outside : goal.returns-then-is_outside
returns-then-is_outside c =
    ap Some c.behind_plain.ensures
    ∙ sym (plain-run c.args.self c.args.place c.args.run.now (c.is_outside.ensures.0 c.if-is_outside.true) c.requires)
