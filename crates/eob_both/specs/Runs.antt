-- A run of a walk, read back to runs of its sides, so that a chain of iterators over a walk needs no proof file.
use Rattle.std.specs.Prelude.{◌≡◌, ℕ, ◌+◌, max, true, Option, Some, None, [], ◌++◌}
use Rattle.std.specs.Borrow.{Bor, MutBor}
use Rattle.std.specs.Iterator.Runs.{Run, SomeRun, EachRunFrom}
use Rattle.eob_both.specs.declared.either_or_both.EitherOrBoth.{EitherOrBoth}
use Rattle.eob_both.specs.declared.iter.swap.SwapIterEitherOrBoth.{SwapIterEitherOrBoth}
use Rattle.eob_both.specs.declared.iter.chain.ChainedIterEitherOrBoth.{ChainedIterEitherOrBoth}
use Rattle.eob_both.specs.Places.{item_left, item_right, MatchPlaces}
use Rattle.eob_both.specs.Aligned.{aligned}
use Rattle.eob_both.specs.Swap.{swap_left, swap_right, swap_steps}
use Rattle.eob_both.specs.Chain.{chain_left, chain_right, chain_steps}

module _ {W S T A B : Type 0} {steps : W → Option (EitherOrBoth A B) → W → Type 0}
    {firsts : S → Option A → S → Type 0} {seconds : T → Option B → T → Type 0} where
  -- p gave the items of a and of b side by side, and where it ended both had ended
  abbrev pub IsSwapRun : Run steps → Run firsts → Run seconds → Type 0
  IsSwapRun p a b = (p.len ≡ max a.len b.len) × (p.items ≡ aligned a.items b.items)
      × (p.whole ≡ true → (a.whole ≡ true) × (b.whole ≡ true))
      × ((k : ℕ) → item_left (p.at k) ≡ a.at k) × ((k : ℕ) → item_right (p.at k) ≡ b.at k)

-- the same where the right side is absent
abbrev pub IsLeftRun : {W S A B : Type 0} {steps : W → Option (EitherOrBoth A B) → W → Type 0}
    {firsts : S → Option A → S → Type 0} → Run steps → Run firsts → Type 0
IsLeftRun p a = (p.len ≡ a.len) × (p.items ≡ aligned a.items []) × (p.whole ≡ true → a.whole ≡ true)

-- the same where the left side is absent
abbrev pub IsRightRun : {W T A B : Type 0} {steps : W → Option (EitherOrBoth A B) → W → Type 0}
    {seconds : T → Option B → T → Type 0} → Run steps → Run seconds → Type 0
IsRightRun p b = (p.len ≡ b.len) × (p.items ≡ aligned [] b.items) × (p.whole ≡ true → b.whole ≡ true)

-- what a `&` to x was made into
abbrev pub RefGives : {X S : Type 0} → (Bor X → S → Type 0) → X → S → Type 0
RefGives {X} gives x s = (p : Bor X) × (p.now ≡ x) × gives p s

-- what a `&mut` to x was made into
abbrev pub RefMutGives : {X S : Type 0} → (MutBor X → S → Type 0) → X → S → Type 0
RefMutGives {X} gives x s = (p : MutBor X) × (p.now ≡ x) × gives p s

-- z is the paired walk over what the places of v were made into, and behind each run of it stand runs of those
abbrev pub SwapsRuns : {X Y S T A B : Type 0} → (X → S → Type 0) → (Y → T → Type 0)
    → (S → Option A → S → Type 0) → (T → Option B → T → Type 0) → EitherOrBoth X Y → SwapIterEitherOrBoth S T
    → Type 0
SwapsRuns {S = S} {T = T} gives others firsts seconds v z = MatchPlaces v
    (λ x y. (s : S) × (t : T) × gives x s × others y t × (swap_left z ≡ Some s) × (swap_right z ≡ Some t)
    × EachRunFrom (swap_steps firsts seconds) z
    (λ p. SomeRun firsts s (λ a. SomeRun seconds t (λ b. IsSwapRun p a b))))
    (λ x. (s : S) × gives x s × (swap_left z ≡ Some s) × (swap_right z ≡ None)
    × EachRunFrom (swap_steps firsts seconds) z (λ p. SomeRun firsts s (λ a. IsLeftRun p a)))
    (λ y. (t : T) × others y t × (swap_left z ≡ None) × (swap_right z ≡ Some t)
    × EachRunFrom (swap_steps firsts seconds) z (λ p. SomeRun seconds t (λ b. IsRightRun p b)))

module _ {W S A : Type 0} {steps : W → Option A → W → Type 0} {source : S → Option A → S → Type 0} where
  -- p gave the items of a and then those of b, and where it ended both had ended
  abbrev pub IsInTurnRun : Run steps → Run source → Run source → Type 0
  IsInTurnRun p a b = (p.len ≡ a.len + b.len) × (p.items ≡ a.items ++ b.items)
      × (p.whole ≡ true → (a.whole ≡ true) × (b.whole ≡ true))

  -- the same where one side is absent
  abbrev pub IsLoneRun : Run steps → Run source → Type 0
  IsLoneRun p a = (p.len ≡ a.len) × (p.items ≡ a.items) × (p.whole ≡ true → a.whole ≡ true)

-- z is the chain over what the places of v were made into, and behind each run of it stand runs of those
abbrev pub ChainsRuns : {X S A : Type 0} → (X → S → Type 0) → (S → Option A → S → Type 0) → EitherOrBoth X X
    → ChainedIterEitherOrBoth S → Type 0
ChainsRuns {S = S} gives steps v z = MatchPlaces v
    (λ x y. (s : S) × (t : S) × gives x s × gives y t × (chain_left z ≡ Some s) × (chain_right z ≡ Some t)
    × EachRunFrom (chain_steps steps) z (λ p. SomeRun steps s
    (λ a. SomeRun steps t (λ b. IsInTurnRun p a b))))
    (λ x. (s : S) × gives x s × (chain_left z ≡ Some s) × (chain_right z ≡ None)
    × EachRunFrom (chain_steps steps) z (λ p. SomeRun steps s (λ a. IsLoneRun p a)))
    (λ y. (t : S) × gives y t × (chain_left z ≡ None) × (chain_right z ≡ Some t)
    × EachRunFrom (chain_steps steps) z (λ p. SomeRun steps t (λ b. IsLoneRun p b)))
