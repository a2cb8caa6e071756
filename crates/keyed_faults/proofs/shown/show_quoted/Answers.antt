use Rattle.std.proofs.Common.{[], ◌∷◌, ◌++◌, refl}
use Rattle.std.proofs.Output.{has_written_append, has_written_of_eq}
use Rattle.keyed_faults.proofs.ShownLemmas.{encodes_quoted}
use Rattle.keyed_faults.proofs.shown.show_quoted.Goals as goal

pub returns : goal.returns
returns g c plain ok =
    let first = c.in_ok-write_char.ensures.writes plain refl in
    let inner = c.in_ok-show_inner.ensures first.plain refl in
    let last = c.write_char-2.ensures.writes inner.wrote.plain ok in (
      34 ∷ (inner.shown ++ 34 ∷ []),
      has_written_of_eq _ _ _ _ _ (encodes_quoted inner.shown) (has_written_append _ _ _ _ _ _ first (has_written_append _ _ _ _ _ _ inner.wrote last)),
      (inner.shown, inner.each, refl),
    )
