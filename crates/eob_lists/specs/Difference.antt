-- Where two lists, or what two iterators give, differ first.
use Rattle.std.specs.Prelude.{◌≡◌, ℕ, ◌<◌, Bool, true, false, Option, Some, None, IfSome, MatchOption}
use Rattle.std.specs.Iterator.Runs.{SomeRun}
use Rattle.eob_both.specs.declared.either_or_both.EitherOrBoth.{EitherOrBoth}
use Rattle.eob_both.specs.declared.either_or_both.EitherOrBoth.TheVariants.{Left, Both, Right}
use Rattle.eob_both.specs.Places.{from_places}

module _ {A : Type 0} (eq : A → A → Bool) where
  -- both items are there, and equal
  abbrev pub agrees : EitherOrBoth A A → Bool
  agrees (Left a) = false
  agrees (Both a b) = eq a b
  agrees (Right b) = false

  -- of what stands at each place on the left and on the right: what stands at place k agrees, where something does
  abbrev pub AgreeAt : (ℕ → Option A) → (ℕ → Option A) → ℕ → Type 0
  AgreeAt left right k = IfSome (from_places (left k) (right k)) (λ v. agrees v ≡ true)

  -- r is the first place at which the two sides do not agree, with what either has there; None where they agree at each place
  abbrev pub IsFirstDifference : (ℕ → Option A) → (ℕ → Option A) → Option (ℕ × EitherOrBoth A A) → Type 0
  IsFirstDifference left right None = (k : ℕ) → AgreeAt left right k
  IsFirstDifference left right (Some d) = (from_places (left d.0) (right d.0) ≡ Some d.1) × (agrees d.1 ≡ false)
      × ((k : ℕ) → k < d.0 → AgreeAt left right k)

  -- r is the first difference of what runs of two iterators gave; a run without an item at the place of r had ended, and where r is
  -- None both had
  abbrev pub FindsFirstDifference : {S T : Type 0} → (S → Option A → S → Type 0) → (T → Option A → T → Type 0) → S → T
      → Option (ℕ × EitherOrBoth A A) → Type 0
  FindsFirstDifference firsts seconds s t r = SomeRun firsts s (λ p. SomeRun seconds t (λ q.
      IsFirstDifference p.at q.at r
      × MatchOption r ((p.whole ≡ true) × (q.whole ≡ true))
      (λ d. (p.at d.0 ≡ None → p.whole ≡ true) × (q.at d.0 ≡ None → q.whole ≡ true))))
