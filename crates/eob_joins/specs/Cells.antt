-- A merge of three rows of cells, cell by cell.
use Rattle.std.specs.Prelude.{◌≡◌, ℕ, ◌&&◌, ◌==◌, ◌↔◌, ⊤, Bool, true, false, not, List, length, Option, Some, None, Result, Ok, Err, slice_get, zip}
use Rattle.std.specs.Cmp.Lexicographic.{pointwise}
use Rattle.std.specs.Global.{Vec}
use Rattle.std.specs.List.{list_any}
use Rattle.std.specs.Option.{option_eq}
use Rattle.std.specs.declared.cmp.Ordering.{Ordering}
use Rattle.eob_both.specs.declared.either_or_both.EitherOrBoth.{EitherOrBoth}
use Rattle.eob_both.specs.declared.either_or_both.EitherOrBoth.TheVariants.{Both}
use Rattle.eob_both.specs.Places.{MapsPlace}
use Rattle.eob_lists.specs.Join.{value_under}
use Rattle.eob_joins.specs.declared.versions.Merged.{Merged}
use Rattle.eob_joins.specs.declared.versions.Merged.TheVariants.{Whole, Conflicts}
use Rattle.eob_joins.specs.declared.versions.Verdict.TheVariants.{Ours, Theirs}
use Rattle.eob_joins.specs.Versions.{is_conflict, merged_place, verdict}
use Rattle.eob_joins.specs.Settled.{is_unresolved}

-- whether both sides changed one cell, and not alike
abbrev pub cell_clashes : {C : Type 0} → (C → C → Bool) → C → C → C → Bool
cell_clashes eq b p q = is_conflict (verdict eq (Some b) (Some p) (Some q))

abbrev pub cells_clash : {C : Type 0} → (C → C → Bool) → List C → List C → List C → Bool
cells_clash eq b p q = list_any (λ z. cell_clashes eq z.0 z.1.0 z.1.1) (zip b (zip p q))

-- it is so exactly where the places of some cell are in conflict
abbrev pub CellsClashLaw : {C : Type 0} → (C → C → Bool) → Type 0
CellsClashLaw {C} eq = (b p q : List C) → length b ≡ length p → length p ≡ length q
    → (cells_clash eq b p q ≡ true)
    ↔ ((i : ℕ) × (is_conflict (verdict eq (slice_get b i) (slice_get p i) (slice_get q i)) ≡ true))

-- whether three rows are of the same length
abbrev pub same_length : {C : Type 0} → List C → List C → List C → Bool
same_length b p q = (length p == length b) && (length q == length b)

-- each cell of rs is that of the three rows merged as a row of its own
pub record AreMergedCells {C : Type 0} (eq : C → C → Bool) (b p q rs : List C) : Type 0 where
  pub count : length rs ≡ length p
  pub cells : (i : ℕ) → slice_get rs i ≡ merged_place eq (slice_get b i) (slice_get p i) (slice_get q i)

-- the same up to clones
pub record AreClonesOfMerged {C : Type 0} (eq : C → C → Bool) (clone : C → C → Type 0) (b p q rs : List C) : Type 0 where
  pub count : length rs ≡ length p
  pub cells : (i : ℕ) → MapsPlace clone (merged_place eq (slice_get b i) (slice_get p i) (slice_get q i)) (slice_get rs i)

-- whether two vectors of cells are equal
abbrev pub vec_eq : {C : Type 0} → (C → C → Bool) → Vec C → Vec C → Bool
vec_eq eq v w = pointwise eq v.items w.items

-- the rule by cells settles three rows of the same length of which no cell is in conflict, with the merged cells
abbrev pub can_by_cell : {C : Type 0} → (C → C → Bool) → Option (Vec C) → Option (Vec C) → Option (Vec C) → Bool
can_by_cell eq (Some b) (Some p) (Some q) = same_length b.items p.items q.items
    && not (cells_clash eq b.items p.items q.items)
can_by_cell eq (Some b) (Some p) None = false
can_by_cell eq (Some b) None q = false
can_by_cell eq None p q = false

abbrev pub GivesByCell : {C : Type 0} → (C → C → Bool) → Option (Vec C) → Option (Vec C) → Option (Vec C)
    → Vec C → Type 0
GivesByCell eq (Some b) (Some p) (Some q) w = AreMergedCells eq b.items p.items q.items w.items
GivesByCell eq (Some b) (Some p) None w = ⊥
GivesByCell eq (Some b) None q w = ⊥
GivesByCell eq None p q w = ⊥

-- the row that the rule makes of three, or the three
abbrev pub MergedRow : {C : Type 0} → (C → C → Bool) → Vec C → Vec C → Vec C
    → Result (Vec C) (EitherOrBoth (Vec C) (EitherOrBoth (Vec C) (Vec C))) → Type 0
MergedRow eq b p q (Ok w) = (can_by_cell eq (Some b) (Some p) (Some q) ≡ true)
    × AreMergedCells eq b.items p.items q.items w.items
MergedRow eq b p q (Err same) = (can_by_cell eq (Some b) (Some p) (Some q) ≡ false) × (same ≡ Both b (Both p q))

-- no cell of three rows is in conflict; a cell of rs that one side alone changed is as that side has it; and each counts as equal to the
-- three cells merged as a row of its own
pub record CellsKept {C : Type 0} (eq : C → C → Bool) (b p q rs : List C) : Type 0 where
  pub free : (i : ℕ) → is_conflict (verdict eq (slice_get b i) (slice_get p i) (slice_get q i)) ≡ false
  pub ours : (i : ℕ) → verdict eq (slice_get b i) (slice_get p i) (slice_get q i) ≡ Ours
      → slice_get rs i ≡ slice_get p i
  pub theirs : (i : ℕ) → verdict eq (slice_get b i) (slice_get p i) (slice_get q i) ≡ Theirs
      → slice_get rs i ≡ slice_get q i
  pub merged : (i : ℕ) → option_eq eq (slice_get rs i) (merged_place eq (slice_get b i) (slice_get p i) (slice_get q i)) ≡ true

-- a row that all three versions have at the same length is unresolved exactly where a cell is in conflict; one that a side removed,
-- where the other changed it; one that both sides added, where they are not alike; and no other row is
pub record UnresolvedByCellLaw {C : Type 0} (eq : C → C → Bool) : Type 0 where
  pub cells : (b p q : Vec C) → same_length b.items p.items q.items ≡ true
      → is_unresolved (vec_eq eq) (can_by_cell eq) (Some b) (Some p) (Some q) ≡ cells_clash eq b.items p.items q.items
  pub theirs_removed : (b p : Vec C) → is_unresolved (vec_eq eq) (can_by_cell eq) (Some b) (Some p) None ≡ not (vec_eq eq b p)
  pub ours_removed : (b q : Vec C) → is_unresolved (vec_eq eq) (can_by_cell eq) (Some b) None (Some q) ≡ not (vec_eq eq b q)
  pub both_added : (p q : Vec C) → is_unresolved (vec_eq eq) (can_by_cell eq) None (Some p) (Some q) ≡ not (vec_eq eq p q)
  pub one_added : (m : Option (Vec C)) → (is_unresolved (vec_eq eq) (can_by_cell eq) None m None ≡ false)
      × (is_unresolved (vec_eq eq) (can_by_cell eq) None None m ≡ false)
  pub both_removed : (m : Option (Vec C)) → is_unresolved (vec_eq eq) (can_by_cell eq) m None None ≡ false

-- the same of each row of a merged table that all three versions have
abbrev pub KeepsCells : {K C M : Type 0} → (K → K → Ordering) → (C → C → Bool) → List (K × Vec C) → List (K × Vec C)
    → List (K × Vec C) → Merged K (Vec C) M → Type 0
KeepsCells {K} {C} cmp eq base ours theirs (Whole rs) = (k : K) (b p q : Vec C) → value_under cmp base k ≡ Some b
    → value_under cmp ours k ≡ Some p → value_under cmp theirs k ≡ Some q
    → (w : Vec C) × (value_under cmp rs.items k ≡ Some w) × CellsKept eq b.items p.items q.items w.items
KeepsCells cmp eq base ours theirs (Conflicts cs) = ⊤
