use Rattle.keyed_faults.proofs.ShownLemmas.{shown_as_code, shown_by_letter}
use Rattle.keyed_faults.proofs.shown.show_escaped.Goals as goal

pub returns-in-Some : goal.returns-in-Some
returns-in-Some g c plain ok =
    shown_by_letter _ _ _ c.args.c c.in-Some.letter c.ranges.c.0 c.in-Some.ensures.0 c.in-Some.ensures.1 (c.show_letter.ensures plain ok)

pub returns-in-None : goal.returns-in-None
returns-in-None g c plain ok = shown_as_code _ _ _ c.args.c c.ranges.c.0 (c.show_code.ensures plain ok)
