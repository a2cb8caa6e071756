-- Three versions of a table, merged by cell.
use Rattle.std.proofs.Common.{◌≡◌, ◌∙◌, ◌==◌, ℕ, suc, Bool, true, false, List, [], ◌∷◌, length, map, zip, Option, None, Some, ap, ap₂, refl, subst, sym}
use Rattle.std.specs.Prelude.{IfSome, MatchOption, if◌then◌else◌, slice_get, unwrap_or}
use Rattle.std.specs.Cmp.{IsTotalOrder}
use Rattle.std.specs.List.{AllByRecursion}
use Rattle.std.specs.Option.{option_and_then}
use Rattle.std.specs.declared.cmp.Ordering.{Ordering}
use Rattle.std.specs.declared.cmp.Ordering.TheVariants.{Equal}
use Rattle.eob_both.specs.declared.either_or_both.EitherOrBoth.{EitherOrBoth}
use Rattle.eob_both.specs.declared.either_or_both.EitherOrBoth.TheVariants.{Left, Both, Right}
use Rattle.eob_both.specs.Places.{from_places, item_left, item_right, left_place, right_place}
use Rattle.eob_lists.specs.Join.{Rising, value_under}
use Rattle.eob_joins.specs.Settled.{Became, BecameBy, BecameOf, is_unresolved, unresolved_row}
use Rattle.eob_joins.specs.Tables.{kept}
use Rattle.eob_joins.specs.Versions.{clashes, is_conflict, merged, merged_place, verdict}
use Rattle.eob_joins.proofs.SettledLemmas.{no_items}
use Rattle.eob_joins.proofs.TableLemmas.{kept_law, same_table}
use Rattle.keyed_tables.specs.RowsByCell.{GivesRow, MergesRows, cell_of, one_row}
use Rattle.keyed_jobs.specs.Answers.{rows_eq}
use Rattle.command_callers.proofs.KnownJoins.{three, three_tabulated, value_has}

-- a rule that gives one value at most
module _ {V : Type 0} (eq : V → V → Bool) (gives : Option V → Option V → Option V → V → Type 0) (once : (b p q : Option V) (v w : V) → gives b p q v → gives b p q w → v ≡ w) where
  given_once : (b p q m n : Option V) → MatchOption m ⊥ (gives b p q) → MatchOption n ⊥ (gives b p q) → m ≡ n
  given_once b p q None n g h = absurd g
  given_once b p q (Some v) None g h = absurd h
  given_once b p q (Some v) (Some w) g h = ap Some (once b p q v w g h)

  by_conflict : (t : Bool) (b p q value m n : Option V) → BecameBy t (gives b p q) value m → BecameBy t (gives b p q) value n → m ≡ n
  by_conflict true b p q value m n g h = given_once b p q m n g h
  by_conflict false b p q value m n g h = g ∙ sym h

  pub became_once : (b p q m n : Option V) → Became eq gives b p q m → Became eq gives b p q n → m ≡ n
  became_once b p q m n g h = by_conflict (is_conflict (verdict eq b p q)) b p q (merged_place eq b p q) m n g h

  -- what became of three places is what a function of their row says, if that says so of the row
  became_is : (f : EitherOrBoth V (EitherOrBoth V V) → Option V) (b p q m : Option V) → IfSome (from_places b (from_places p q)) (λ v. BecameOf eq gives v (f v))
      → Became eq gives b p q m → m ≡ option_and_then f (from_places b (from_places p q))
  became_is f None None None m h g = g
  became_is f None None (Some t) m h g = became_once None None (Some t) m (f (Right (Right t))) g h
  became_is f None (Some o) None m h g = became_once None (Some o) None m (f (Right (Left o))) g h
  became_is f None (Some o) (Some t) m h g = became_once None (Some o) (Some t) m (f (Right (Both o t))) g h
  became_is f (Some b) None None m h g = became_once (Some b) None None m (f (Left b)) g h
  became_is f (Some b) None (Some t) m h g = became_once (Some b) None (Some t) m (f (Both b (Right t))) g h
  became_is f (Some b) (Some o) None m h g = became_once (Some b) (Some o) None m (f (Both b (Left o))) g h
  became_is f (Some b) (Some o) (Some t) m h g = became_once (Some b) (Some o) (Some t) m (f (Both b (Both o t))) g h

  not_unresolved : (can : Option V → Option V → Option V → Bool) (b p q : Option V) → IfSome (from_places b (from_places p q)) (λ v. unresolved_row eq can v ≡ false) → is_unresolved eq can b p q ≡ false
  not_unresolved can None None None h = refl
  not_unresolved can None None (Some t) h = h
  not_unresolved can None (Some o) None h = h
  not_unresolved can None (Some o) (Some t) h = h
  not_unresolved can (Some b) None None h = h
  not_unresolved can (Some b) None (Some t) h = h
  not_unresolved can (Some b) (Some o) None h = h
  not_unresolved can (Some b) (Some o) (Some t) h = h

  module _ {K : Type 0} (cmp : K → K → Ordering) (o : IsTotalOrder cmp) (exact : (j k : K) → cmp j k ≡ Equal → j ≡ k)
      (b p q : List (K × V)) (first : Rising cmp b) (second : Rising cmp p) (third : Rising cmp q) where
    at_row : (P : EitherOrBoth V (EitherOrBoth V V) → Type 0) → AllByRecursion (λ z. P z.1) (three cmp b p q) → (k : K)
        → IfSome (from_places (value_under cmp b k) (from_places (value_under cmp p k) (value_under cmp q k))) P
    at_row P h k = subst (λ w. IfSome w P) ((three_tabulated cmp o exact eq b p q first second third).values k) (value_has cmp o exact (λ j v. P v) (three cmp b p q) h k)

    pub settled_rows : (f : EitherOrBoth V (EitherOrBoth V V) → Option V) → AllByRecursion (λ z. BecameOf eq gives z.1 (f z.1)) (three cmp b p q)
        → (rows : List (K × V)) → Rising cmp rows → ((k : K) → Became eq gives (value_under cmp b k) (value_under cmp p k) (value_under cmp q k) (value_under cmp rows k))
        → rows ≡ kept f (three cmp b p q)
    settled_rows f h rows rises became =
        let all = three_tabulated cmp o exact eq b p q first second third in
        same_table cmp o V exact (λ k. option_and_then f (value_under cmp (three cmp b p q) k)) rows (kept f (three cmp b p q))
        (record {
          rises = rises;
          values = λ k.
              became_is f (value_under cmp b k) (value_under cmp p k) (value_under cmp q k) (value_under cmp rows k) (at_row (λ v. BecameOf eq gives v (f v)) h k) (became k)
              ∙ ap (option_and_then f) (sym (all.values k));
        })
        (kept_law cmp o (EitherOrBoth V (EitherOrBoth V V)) V f (value_under cmp (three cmp b p q)) (three cmp b p q) (record { rises = all.rises; values = λ k. refl }))

    pub none_unresolved : (can : Option V → Option V → Option V → Bool) → AllByRecursion (λ z. unresolved_row eq can z.1 ≡ false) (three cmp b p q)
        → (k : K) → is_unresolved eq can (value_under cmp b k) (value_under cmp p k) (value_under cmp q k) ≡ false
    none_unresolved can h k = not_unresolved can (value_under cmp b k) (value_under cmp p k) (value_under cmp q k) (at_row (λ v. unresolved_row eq can v ≡ false) h k)

-- the merged row of three is one
some_same : {X : Type 0} (x y : X) → Some x ≡ Some y → x ≡ y
some_same x y e = cc

same_places : {X : Type 0} (xs ys : List X) → ((i : ℕ) → slice_get xs i ≡ slice_get ys i) → xs ≡ ys
same_places [] [] e = refl
same_places [] (y ∷ ys) e = let n : None ≡ Some y = e 0 in absurd (cc)
same_places (x ∷ xs) [] e = let n : Some x ≡ None = e 0 in absurd (cc)
same_places (x ∷ xs) (y ∷ ys) e = ap₂ (λ z zs. z ∷ zs) (some_same x y (e 0)) (same_places xs ys (λ i. e (suc i)))

merges_once : (b p q : Option (List (List ℕ))) (v w : List (List ℕ)) → MergesRows b p q v → MergesRows b p q w → v ≡ w
merges_once (Some b) (Some p) (Some q) v w g h = same_places v w (λ i. g.cells i ∙ sym (h.cells i))
merges_once (Some b) (Some p) None v w g h = absurd g
merges_once (Some b) None q v w g h = absurd g
merges_once None p q v w g h = absurd g

module _ (P : List (List ℕ) → Type 0) where
  only_case : (t : Bool) (row : List (List ℕ)) → MatchOption (if t then Some row else None) ⊥ P → (t ≡ true) × P row
  only_case true row h = (refl, h)
  only_case false row h = absurd h

  one_of : (group : List (List (List ℕ))) → MatchOption (one_row group) ⊥ P → (row : List (List ℕ)) × (group ≡ row ∷ []) × P row
  one_of [] h = absurd h
  one_of (row ∷ rest) h = let only = only_case (length rest == 0) row h in (row, ap (λ l. row ∷ l) (no_items rest only.0), only.1)

  group_once : ((r s : List (List ℕ)) → P r → P s → r ≡ s) → (v w : List (List (List ℕ))) → MatchOption (one_row v) ⊥ P → MatchOption (one_row w) ⊥ P → v ≡ w
  group_once once v w g h =
      let one = one_of v g in
      let other = one_of w h in
      one.1 ∙ ap (λ r. r ∷ []) (once one.0 other.0 one.2 other.2) ∙ sym other.1

pub gives_once : (b p q : Option (List (List (List ℕ)))) (v w : List (List (List ℕ))) → GivesRow b p q v → GivesRow b p q w → v ≡ w
gives_once (Some b) (Some p) (Some q) v w g h =
    group_once (MergesRows (one_row b) (one_row p) (one_row q)) (λ r s. merges_once (one_row b) (one_row p) (one_row q) r s) v w g h
gives_once (Some b) (Some p) None v w g h = absurd g
gives_once (Some b) None q v w g h = absurd g
gives_once None p q v w g h = absurd g

-- the first row under a key, and the merged cells of three such rows; and what a merge by cell makes of a row
abbrev pub first_row : Option (List (List (List ℕ))) → List (List ℕ)
first_row group = unwrap_or (slice_get (unwrap_or group []) 0) []

abbrev pub merged_cells : (base ours theirs : Option (List (List (List ℕ)))) → List (List ℕ)
merged_cells base ours theirs = map cell_of (zip (first_row base) (zip (first_row ours) (first_row theirs)))

abbrev pub merged_by_cell : EitherOrBoth (List (List (List ℕ))) (EitherOrBoth (List (List (List ℕ))) (List (List (List ℕ)))) → Option (List (List (List ℕ)))
merged_by_cell v = if clashes rows_eq v then Some (merged_cells (left_place v) (item_left (right_place v)) (item_right (right_place v)) ∷ []) else merged rows_eq v
