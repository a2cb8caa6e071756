-- Joins of two lists whose keys strictly increase, and what is kept of them: they are what the loop of a join makes.
use Rattle.std.proofs.Common.{◌≡◌, ◌∙◌, Bool, false, List, [], ◌∷◌, Option, Some, None, option_map, ap, refl}
use Rattle.std.specs.Prelude.{IfSome}
use Rattle.std.specs.Cmp.{IsTotalOrder}
use Rattle.std.specs.List.{AllByRecursion}
use Rattle.std.specs.Option.{option_and, option_and_then, option_zip}
use Rattle.std.specs.Ordering.{is_eq}
use Rattle.std.specs.declared.cmp.Ordering.{Ordering}
use Rattle.std.specs.declared.cmp.Ordering.TheVariants.{Equal}
use Rattle.eob_both.specs.declared.either_or_both.EitherOrBoth.{EitherOrBoth}
use Rattle.eob_both.specs.Places.{from_places}
use Rattle.eob_lists.specs.Join.{IsJoin, Rising, value_under}
use Rattle.eob_lists.proofs.MergeLemmas.{IsJoin-merge, is_Equal, merge}
use Rattle.eob_joins.specs.Tables.{IsAntiJoin, IsInnerJoin, IsKeptOfJoin, IsLeftJoin, IsRightJoin, IsSemiJoin, Tabulates, both_places, kept, lone_left, paired_left, paired_right, shared_left, unless}
use Rattle.eob_joins.specs.Versions.{clashes, is_conflict, merged, merged_place, verdict}
use Rattle.eob_joins.proofs.TableLemmas.{anti_join, by_test, inner_join, kept_law, left_join, retabled, right_join, same_table, semi_join}
use Rattle.eob_joins.proofs.VersionLemmas.{versions_law}

-- what three versions have under a key, merged, and whether it is in conflict
merged_is : {V : Type 0} (eq : V → V → Bool) (m n l : Option V) → option_and_then (merged eq) (from_places m (from_places n l)) ≡ merged_place eq m n l
merged_is eq None None None = refl
merged_is eq None None (Some t) = refl
merged_is eq None (Some o) None = refl
merged_is eq None (Some o) (Some t) = refl
merged_is eq (Some b) None None = refl
merged_is eq (Some b) None (Some t) = refl
merged_is eq (Some b) (Some o) None = refl
merged_is eq (Some b) (Some o) (Some t) = refl

settled : {V : Type 0} (eq : V → V → Bool) (m n l : Option V) (w : Option (EitherOrBoth V (EitherOrBoth V V))) → w ≡ from_places m (from_places n l)
    → IfSome w (λ v. clashes eq v ≡ false) → is_conflict (verdict eq m n l) ≡ false
settled eq None None None w e h = refl
settled eq None None (Some t) w e h = rw e at h
settled eq None (Some o) None w e h = rw e at h
settled eq None (Some o) (Some t) w e h = rw e at h
settled eq (Some b) None None w e h = rw e at h
settled eq (Some b) None (Some t) w e h = rw e at h
settled eq (Some b) (Some o) None w e h = rw e at h
settled eq (Some b) (Some o) (Some t) w e h = rw e at h

-- the join of three versions
abbrev pub three : {K V : Type 0} → (K → K → Ordering) → List (K × V) → List (K × V) → List (K × V) → List (K × EitherOrBoth V (EitherOrBoth V V))
three cmp b p q = merge cmp b (merge cmp p q)

module _ {K : Type 0} (cmp : K → K → Ordering) (o : IsTotalOrder cmp) (exact : (j k : K) → cmp j k ≡ Equal → j ≡ k) where
  -- what holds of each value of a list holds of what it has under a key
  pub value_has : {V : Type 0} (P : K → V → Type 0) (zs : List (K × V)) → AllByRecursion (λ z. P z.0 z.1) zs → (k : K) → IfSome (value_under cmp zs k) (P k)
  value_has P [] h k = tt
  value_has P (z ∷ zs) h k =
      by_test (is_eq (cmp k z.0))
      (λ t. rw t (rw (exact k z.0 (is_Equal (cmp k z.0) t)) h.0))
      (λ f. rw f (value_has P zs h.1 k))

  module _ {A B : Type 0} (p : List (K × A)) (q : List (K × B)) (up : Rising cmp p) (rises : Rising cmp q) where
    pub joined : (zs : List (K × EitherOrBoth A B)) → IsJoin cmp p q zs → zs ≡ merge cmp p q
    joined zs h =
        let made = IsJoin-merge cmp o p q up rises in
        same_table cmp o (EitherOrBoth A B) exact (λ k. from_places (value_under cmp p k) (value_under cmp q k)) zs (merge cmp p q)
        (record { rises = h.rises; values = h.values }) (record { rises = made.rises; values = made.values })

    pub kept_joined : {W : Type 0} (f : EitherOrBoth A B → Option W) (rs : List (K × W)) → IsKeptOfJoin cmp f p q rs → rs ≡ kept f (merge cmp p q)
    kept_joined f rs h = h.2 ∙ ap (kept f) (joined h.0 h.1)

    pub inner_joined : (rs : List (K × (A × B))) → IsInnerJoin cmp p q rs → rs ≡ kept both_places (merge cmp p q)
    inner_joined rs h =
        same_table cmp o (A × B) exact (λ k. option_zip (value_under cmp p k) (value_under cmp q k)) rs (kept both_places (merge cmp p q)) h
        (inner_join cmp o A B p q (kept both_places (merge cmp p q)) (merge cmp p q, IsJoin-merge cmp o p q up rises, refl))

    pub left_joined : (rs : List (K × (A × Option B))) → IsLeftJoin cmp p q rs → rs ≡ kept paired_left (merge cmp p q)
    left_joined rs h =
        same_table cmp o (A × Option B) exact (λ k. option_map (λ a. (a, value_under cmp q k)) (value_under cmp p k)) rs (kept paired_left (merge cmp p q)) h
        (left_join cmp o A B p q (kept paired_left (merge cmp p q)) (merge cmp p q, IsJoin-merge cmp o p q up rises, refl))

    pub right_joined : (rs : List (K × (Option A × B))) → IsRightJoin cmp p q rs → rs ≡ kept paired_right (merge cmp p q)
    right_joined rs h =
        same_table cmp o (Option A × B) exact (λ k. option_map (λ b. (value_under cmp p k, b)) (value_under cmp q k)) rs (kept paired_right (merge cmp p q)) h
        (right_join cmp o A B p q (kept paired_right (merge cmp p q)) (merge cmp p q, IsJoin-merge cmp o p q up rises, refl))

    pub semi_joined : (rs : List (K × A)) → IsSemiJoin cmp p q rs → rs ≡ kept shared_left (merge cmp p q)
    semi_joined rs h =
        same_table cmp o A exact (λ k. option_and (value_under cmp q k) (value_under cmp p k)) rs (kept shared_left (merge cmp p q)) h
        (semi_join cmp o A B p q (kept shared_left (merge cmp p q)) (merge cmp p q, IsJoin-merge cmp o p q up rises, refl))

    pub anti_joined : (rs : List (K × A)) → IsAntiJoin cmp p q rs → rs ≡ kept lone_left (merge cmp p q)
    anti_joined rs h =
        same_table cmp o A exact (λ k. unless (value_under cmp p k) (value_under cmp q k)) rs (kept lone_left (merge cmp p q)) h
        (anti_join cmp o A B p q (kept lone_left (merge cmp p q)) (merge cmp p q, IsJoin-merge cmp o p q up rises, refl))

  -- three versions of a table
  module _ {V : Type 0} (eq : V → V → Bool) (b p q : List (K × V)) (first : Rising cmp b) (second : Rising cmp p) (third : Rising cmp q) where
    abbrev triple : K → Option (EitherOrBoth V (EitherOrBoth V V))
    triple k = from_places (value_under cmp b k) (from_places (value_under cmp p k) (value_under cmp q k))

    abbrev merged_at : K → Option V
    merged_at k = merged_place eq (value_under cmp b k) (value_under cmp p k) (value_under cmp q k)

    pub three_tabulated : Tabulates cmp (three cmp b p q) triple
    three_tabulated =
        let sides = IsJoin-merge cmp o p q second third in
        versions_law cmp V b p q (three cmp b p q) (merge cmp p q, sides, IsJoin-merge cmp o b (merge cmp p q) first sides.rises)

    pub merged_rows : (rows : List (K × V)) → Tabulates cmp rows (λ k. merged_place eq (value_under cmp b k) (value_under cmp p k) (value_under cmp q k))
        → rows ≡ kept (merged eq) (three cmp b p q)
    merged_rows rows h =
        same_table cmp o V exact merged_at rows (kept (merged eq) (three cmp b p q)) h
        (retabled cmp (kept (merged eq) (three cmp b p q)) (λ k. option_and_then (merged eq) (triple k)) merged_at (λ k. merged_is eq (value_under cmp b k) (value_under cmp p k) (value_under cmp q k))
        (kept_law cmp o (EitherOrBoth V (EitherOrBoth V V)) V (merged eq) triple (three cmp b p q) three_tabulated))

    -- no key is in conflict where no row of the join of the three is
    pub no_conflict : AllByRecursion (λ z. clashes eq z.1 ≡ false) (three cmp b p q) → (k : K) → is_conflict (verdict eq (value_under cmp b k) (value_under cmp p k) (value_under cmp q k)) ≡ false
    no_conflict h k =
        settled eq (value_under cmp b k) (value_under cmp p k) (value_under cmp q k) (value_under cmp (three cmp b p q) k) (three_tabulated.values k)
        (value_has (λ j v. clashes eq v ≡ false) (three cmp b p q) h k)
