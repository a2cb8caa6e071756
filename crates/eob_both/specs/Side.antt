-- A side of a walk: an iterator that is given up once it has answered `None`.
use Rattle.std.specs.Prelude.{◌≡◌, ℕ, max, false, if◌then◌else◌, Option, Some, None, MatchOption, IsSomeAnd}
use Rattle.std.specs.Iterator.{Count, at_most, size}

-- a side is absent where the place is, and else it is what the value of the place was made into
abbrev pub IsSideOf : {X S : Type 0} → (X → S → Type 0) → Option X → Option S → Type 0
IsSideOf gives place side = MatchOption place (side ≡ None) (λ x. IsSomeAnd side (gives x))

-- a call of a side: one that is there takes the step, and is given up where that gives `None`
abbrev pub side_steps : {S A : Type 0} → (S → Option A → S → Type 0) → Option S → Option A → Option S → Type 0
side_steps steps None r after = (r ≡ None) × (after ≡ None)
side_steps {S} steps (Some s) r after = MatchOption r (((t : S) × steps s None t) × (after ≡ None))
    (λ x. (t : S) × steps s (Some x) t × (after ≡ Some t))

-- how many items a side has left at most: none where it is absent
abbrev pub side_remaining : {S : Type 0} → (S → Count) → Option S → Count
side_remaining left None = at_most 0
side_remaining left (Some s) = left s

-- the number that this is
abbrev pub side_len : {S : Type 0} → (S → Count) → Option S → ℕ
side_len left o = size (side_remaining left o)

-- the greater of two counts
abbrev pub count_max : Count → Count → Count
count_max a b = record { bounded = if a.bounded then b.bounded else false; bound = max a.bound b.bound }
