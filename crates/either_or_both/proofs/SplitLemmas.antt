-- The counts of a list that is split into its sides.
use Rattle.std.proofs.Common.{◌≡◌, ◌+◌, List, [], ◌∷◌, Ok, Err, Result, length, refl, arith}
use Rattle.std.specs.List.{filter_map}
use Rattle.std.specs.Result.{result_err, result_ok}
use Rattle.either_or_both.specs.declared.either.Either.{Either}
use Rattle.either_or_both.specs.declared.either.Either.TheVariants.{Left, Right}
use Rattle.either_or_both.specs.Either.{lefts, rights}

pub split_counts : {L R : Type 0} (xs : List (Either L R)) → length (lefts xs) + length (rights xs) ≡ length xs
split_counts [] = refl
split_counts (Left l ∷ xs) = let e = split_counts xs in omega (arith, e)
split_counts (Right r ∷ xs) = let e = split_counts xs in omega (arith, e)

pub result_counts : {T E : Type 0} (rs : List (Result T E)) → length (filter_map result_ok rs) + length (filter_map result_err rs) ≡ length rs
result_counts [] = refl
result_counts (Ok x ∷ rs) = let e = result_counts rs in omega (arith, e)
result_counts (Err x ∷ rs) = let e = result_counts rs in omega (arith, e)
