use Rattle.std.proofs.Common.{sym, ◌∙◌}
use Rattle.keyed_faults.proofs.ShownLemmas.{shown_bare}
use Rattle.keyed_faults.proofs.shown.show_in_any.Goals as goal

pub returns-else-is_escaped : goal.returns-else-is_escaped
returns-else-is_escaped g c plain ok =
    shown_bare _ _ _ c.args.c c.ranges.c.0 (sym c.is_escaped.ensures ∙ c.if-is_escaped.false) (c.write_char.ensures.writes plain ok)
