-- What the held value of an `Either` has and shows, and what becomes of it.
use Rattle.eob_both.specs.Places.{MapsPlace}
use Rattle.either_or_both.specs.declared.either.Either.{Either}
use Rattle.either_or_both.specs.declared.either.Either.TheVariants.{Left, Right}
use Rattle.either_or_both.specs.Either.{left_place, right_place}

-- f of a left value, g of a right one
abbrev pub of_held : {L R T : Type 0} → (L → T) → (R → T) → Either L R → T
of_held f g (Left l) = f l
of_held f g (Right r) = g r

-- P holds of a left value, Q of a right one
abbrev pub HoldsOfHeld : {L R : Type 0} → (L → Type 0) → (R → Type 0) → Either L R → Type 0
HoldsOfHeld P Q (Left l) = P l
HoldsOfHeld P Q (Right r) = Q r

-- the same variant, with P from the old left value to the new one, Q from the old right value to the new one
abbrev pub HeldBecomes : {L R : Type 0} → (L → L → Type 0) → (R → R → Type 0) → Either L R → Either L R
    → Type 0
HeldBecomes P Q v w = MapsPlace P (left_place v) (left_place w) × MapsPlace Q (right_place v) (right_place w)
