-- Results that are read as `Either` values.
use Rattle.std.proofs.Common.{◌≡◌, List, [], ◌∷◌, map, Result, Ok, Err, refl, ap}
use Rattle.std.specs.List.{filter_map}
use Rattle.std.specs.Result.{result_ok, result_err}
use Rattle.either_or_both.specs.Either.{either_of, lefts, rights}

-- the left values are the errors
pub errors : {L R : Type 0} → (rs : List (Result R L)) → lefts (map either_of rs) ≡ filter_map result_err rs
errors [] = refl
errors (Ok r ∷ rs) = errors rs
errors (Err l ∷ rs) = ap (λ xs. l ∷ xs) (errors rs)

-- the right values are the successes
pub successes : {L R : Type 0} → (rs : List (Result R L)) → rights (map either_of rs) ≡ filter_map result_ok rs
successes [] = refl
successes (Ok r ∷ rs) = ap (λ ys. r ∷ ys) (successes rs)
successes (Err l ∷ rs) = successes rs
