-- A run of a walk of `Either`, read back to a run of its held side, so that a chain of iterators over the walk needs no proof file.
use Rattle.std.specs.Prelude.{◌≡◌, Option}
use Rattle.std.specs.Iterator.Runs.{Run, SomeRun, EachRunFrom, IsIdenticalRun, ProjectsRun}
use Rattle.either_or_both.specs.declared.either.Either.{Either}
use Rattle.either_or_both.specs.declared.either.Either.TheVariants.{Left, Right}
use Rattle.either_or_both.specs.declared.iter_either.inner.InnerIterEither.{InnerIterEither}
use Rattle.either_or_both.specs.declared.iter_either.swap.SwapIterEither.{SwapIterEither}
use Rattle.either_or_both.specs.Either.{held, map_places, MatchPlaces}
use Rattle.either_or_both.specs.EitherInner.{inner_held, inner_side, inner_steps}
use Rattle.either_or_both.specs.EitherSwap.{swap_side, held_swap_steps}

-- z is the walk over what the held side of v was made into, in the variant of v, and behind each run of it stands the same run of
-- that
abbrev pub InnerRuns : {X S A : Type 0} → (X → S → Type 0) → (S → Option A → S → Type 0) → Either X X
    → InnerIterEither S → Type 0
InnerRuns {S = S} gives steps v z = (s : S) × gives (held v) s × (inner_held z ≡ s)
    × (inner_side z ≡ map_places (λ _. s) (λ _. s) v)
    × EachRunFrom (inner_steps steps) z (λ p. SomeRun steps s (λ a. IsIdenticalRun p a))

-- p gave the items of a, each as f makes it
abbrev pub IsWrappedRun : {W S A B : Type 0} {steps : W → Option B → W → Type 0}
    {source : S → Option A → S → Type 0} → (A → B) → Run steps → Run source → Type 0
IsWrappedRun f p a = ProjectsRun a p f × (a.whole ≡ p.whole)

-- z is the walk over what the held side of v was made into, and behind each run of it stands a run of that with the items in the held
-- variant
abbrev pub SwapRuns : {X Y S T A B : Type 0} → (X → S → Type 0) → (Y → T → Type 0)
    → (S → Option A → S → Type 0) → (T → Option B → T → Type 0) → Either X Y → SwapIterEither S T → Type 0
SwapRuns {S = S} {T = T} gives others firsts seconds v z = MatchPlaces v
    (λ x. (s : S) × gives x s × (swap_side z ≡ Left s)
    × EachRunFrom (held_swap_steps firsts seconds) z
    (λ p. SomeRun firsts s (λ a. IsWrappedRun (λ i. Left i) p a)))
    (λ y. (t : T) × others y t × (swap_side z ≡ Right t)
    × EachRunFrom (held_swap_steps firsts seconds) z
    (λ p. SomeRun seconds t (λ b. IsWrappedRun (λ i. Right i) p b)))
