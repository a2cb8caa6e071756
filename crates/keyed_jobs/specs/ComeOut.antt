-- The order in which rows come out: that of their keys or of the files, and in a group that of their cells or of the files.
use Rattle.std.specs.Prelude.{◌≡◌, ⊤, ℕ, Bool, true, false, List, Option, Some, None, nat_eq}
use Rattle.std.specs.Cmp.Lexicographic.{pointwise}
use Rattle.std.specs.List.{AllZip}
use Rattle.std.specs.List.Sorted.{IsPermutation}
use Rattle.either_or_both.specs.Prelude.{left_place, right_place}
use Rattle.eob_both.specs.declared.either_or_both.EitherOrBoth.{EitherOrBoth}
use Rattle.keyed_tables.specs.Arranged.{AreArranged}
use Rattle.eob_joins.specs.declared.marked.Marked.{Marked}
use Rattle.eob_joins.specs.declared.marked.Marked.TheVariants.{Settled, Unresolved}

-- the same rows in another order
abbrev pub AlikeRows : List (List (List ℕ)) → List (List (List ℕ)) → Type 0
AlikeRows rows others = IsPermutation rows others

-- two places are alike: both are absent, or their values are alike
abbrev pub AlikePlace : {A : Type 0} → (A → A → Type 0) → Option A → Option A → Type 0
AlikePlace P None None = ⊤
AlikePlace P None (Some b) = ⊥
AlikePlace P (Some a) None = ⊥
AlikePlace P (Some a) (Some b) = P a b

-- the same of both places of a value
abbrev pub AlikePlaces : {A B : Type 0} → (A → A → Type 0) → (B → B → Type 0) → EitherOrBoth A B → EitherOrBoth A B → Type 0
AlikePlaces P Q v w = AlikePlace P (left_place v) (left_place w) × AlikePlace Q (right_place v) (right_place w)

-- the same of what a merge makes of a key
abbrev pub AlikeMarked : Marked (List (List (List ℕ))) → Marked (List (List (List ℕ))) → Type 0
AlikeMarked (Settled rows) (Settled others) = AlikeRows rows others
AlikeMarked (Settled rows) (Unresolved others) = ⊥
AlikeMarked (Unresolved rows) (Settled others) = ⊥
AlikeMarked (Unresolved rows) (Unresolved others) = AlikePlaces AlikeRows (AlikePlaces AlikeRows AlikeRows) rows others

-- place by place the same key, and values that are alike
abbrev pub AlikeByKey : {K V : Type 0} → (V → V → Type 0) → List (K × V) → List (K × V) → Type 0
AlikeByKey P xs ys = AllZip (λ x y. (x.0 ≡ y.0) × P x.1 y.1) xs ys

-- ys are the rows xs, with groups as they are where these are in the order of cells, and else with each in another order
abbrev pub HasGroups : {K V : Type 0} → Bool → (V → V → Type 0) → List (K × V) → List (K × V) → Type 0
HasGroups true P xs ys = ys ≡ xs
HasGroups false P xs ys = AlikeByKey P xs ys

-- the same of one value: it is as it was, or alike
abbrev pub AlikeIn : {V : Type 0} → Bool → (V → V → Type 0) → V → V → Type 0
AlikeIn true P v w = w ≡ v
AlikeIn false P v w = P v w

-- rows come out as ys: they are put into the order of the keys that are noted, if any are, and the rows of each group into that of cells or
-- into another one
abbrev pub ComesOut : {V : Type 0} → Option (List (List (List ℕ))) → Bool → (V → V → Type 0)
    → List (List (List ℕ) × V) → List (List (List ℕ) × V) → Type 0
ComesOut {V} noted by_cells P xs ys = (arranged : List (List (List ℕ) × V)) × IsPermutation xs arranged
    × AreArranged (pointwise (pointwise nat_eq)) noted xs arranged × HasGroups by_cells P arranged ys
