-- Changes that are none, changes that fit, and keys in conflict.
use Rattle.std.proofs.Common.{◌≡◌, ◌∙◌, ◌<◌, ℕ, Bool, true, false, List, [], ◌∷◌, length, map, All, Option, Some, None, option_map, arith, refl, sym, ap, subst, true≢false}
use Rattle.std.specs.Prelude.{IfSome, IsSomeAnd}
use Rattle.std.specs.Cmp.{IsTotalOrder}
use Rattle.std.specs.Cmp.Lexicographic.{bytes_decides, lists_ties, lists_total, nat_list_cmp_total, pointwise_decides, slice_cmp, texts_ties}
use Rattle.std.specs.Iterator.Runs.{AllItems, Run}
use Rattle.std.specs.List.{slice_index_or}
use Rattle.std.specs.Option.{option_and_then, option_eq}
use Rattle.std.specs.Ordering.{is_eq, nat_cmp}
use Rattle.std.specs.declared.cmp.Ordering.{Ordering}
use Rattle.std.specs.declared.cmp.Ordering.TheVariants.{Equal}
use Rattle.std.specs.Borrow.{Bor}
use Rattle.std.proofs.lemmas.List.Elements.{All-head, All-tail}
use Rattle.eob_both.specs.declared.either_or_both.EitherOrBoth.{EitherOrBoth}
use Rattle.eob_both.specs.declared.either_or_both.EitherOrBoth.TheVariants.{Left, Both, Right}
use Rattle.eob_both.specs.Places.{from_places, left_place, map_places, right_place}
use Rattle.eob_lists.specs.Join.{IsJoin, Rising, value_under}
use Rattle.eob_lists.specs.JoinLaws.{deref_joined}
use Rattle.eob_lists.specs.OuterJoin.{ShowsPlaces}
use Rattle.eob_lists.proofs.JoinLemmas.{own_head}
use Rattle.eob_joins.specs.Changes.{changed}
use Rattle.eob_joins.specs.Settled.{is_unresolved, unresolved_place}
use Rattle.eob_joins.specs.Tables.{IsKeptOfJoin, Tabulates}
use Rattle.eob_joins.specs.Versions.{clash_place, is_conflict, verdict}
use Rattle.eob_joins.proofs.TableLemmas.{by_test, kept_join, same_table}
use Rattle.eob_joins.specs.Settled.{IsMergeWith}
use Rattle.eob_joins.specs.Versions.{IsMergeByKey}
use Rattle.eob_joins.specs.declared.versions.Merged.{Merged}
use Rattle.eob_joins.specs.declared.versions.Merged.TheVariants.{Whole, Conflicts}
use Rattle.keyed_requests.specs.declared.request.Form.{Form}
use Rattle.keyed_columns.specs.declared.columns.Columns.{Columns}
use Rattle.keyed_tables.specs.RowsByCell.{GivesRow, can_by_row}
use Rattle.keyed_jobs.specs.declared.answer.Answer.{Answer}
use Rattle.keyed_jobs.specs.Answers.{AllFit, AnswersMerge, AnswersMerged, AnswersMergedByCell, HasConflict, HasNoConflict, HasNoneUnresolved, HasUnresolved}
use Rattle.keyed_jobs.specs.Answers.{Stops, TableRows, fits_place, key_cmp, rows_eq}

some_same : {X : Type 0} {x y : X} → Some x ≡ Some y → x ≡ y
some_same e = cc

-- the items of a run, of which each has a property, or some
item_is : {A : Type 0} (P : A → Type 0) (m : Option A) (x : A) → option_map (λ y. y) m ≡ Some x → IfSome m P → P x
item_is P None x e h = absurd (cc)
item_is P (Some y) x e h = subst P (some_same e) h

pub items_all : {S A : Type 0} {steps : S → Option A → S → Type 0} (p : Run steps) (P Q : A → Type 0) → AllItems p P → ((x : A) → P x → Q x) → All Q p.items
items_all p P Q h f k d l =
    let x = slice_index_or p.items k d in
    f x (item_is P (p.at k) x (p.reads k d (subst (λ n. k < n) (sym p.long) l)) (h k))

pub item_both : {A : Type 0} (P Q : A → Type 0) (m : Option A) → IsSomeAnd m P → IfSome m Q → (x : A) × P x × Q x
item_both P Q None h g = absurd h
item_both P Q (Some x) h g = (x, h, g)

-- keys that count as equal are equal, and so are groups
equal_is : (r : Ordering) → r ≡ Equal → true ≡ is_eq r
equal_is r e = rw e refl

pub key_exact : (j k : List (List ℕ)) → key_cmp j k ≡ Equal → j ≡ k
key_exact j k e = (pointwise_decides bytes_decides j k).0 (lists_ties (slice_cmp nat_cmp) texts_ties j k ∙ sym (equal_is (key_cmp j k) e))

pub rows_decides : (v w : List (List (List ℕ))) → (rows_eq v w ≡ true → v ≡ w) × (v ≡ w → rows_eq v w ≡ true)
rows_decides = pointwise_decides (pointwise_decides bytes_decides)

pub key_total : IsTotalOrder key_cmp
key_total = lists_total nat_list_cmp_total

module _ {V : Type 0} (eq : V → V → Bool) (decides : (v w : V) → (eq v w ≡ true → v ≡ w) × (v ≡ w → eq v w ≡ true)) where
  same_places : (m n : Option V) → option_and_then (changed eq) (from_places m n) ≡ None → m ≡ n
  same_places None None e = refl
  same_places None (Some w) e = absurd (cc)
  same_places (Some v) None e = absurd (cc)
  same_places (Some v) (Some w) e = by_test (eq v w) (λ t. ap Some ((decides v w).0 t)) (λ f. let c : Some (Both v w) ≡ None = rw f at e in absurd (cc))

  unchanged : (m : Option V) → option_and_then (changed eq) (from_places m m) ≡ None
  unchanged None = refl
  unchanged (Some v) = rw ((decides v v).1 refl) refl

  option_exact : (m n : Option V) → option_eq eq m n ≡ true → m ≡ n
  option_exact None None e = refl
  option_exact None (Some w) e = absurd (true≢false (sym e))
  option_exact (Some v) None e = absurd (true≢false (sym e))
  option_exact (Some v) (Some w) e = ap Some ((decides v w).0 e)

  option_itself : (m : Option V) → option_eq eq m m ≡ true
  option_itself None = refl
  option_itself (Some v) = (decides v v).1 refl

  -- a change that fits a place is from what stands there, and the other way about
  fitting : (m : Option V) (c : Option (EitherOrBoth V V)) → fits_place eq m c ≡ true → IfSome c (λ change. left_place change ≡ m)
  fitting m None e = tt
  fitting m (Some change) e = option_exact (left_place change) m e

  misfitting : (m : Option V) (c : Option (EitherOrBoth V V)) → fits_place eq m c ≡ false → IfSome c (λ change. left_place change ≡ m) → ⊥
  misfitting m None e h = true≢false e
  misfitting m (Some change) e h =
      let t : option_eq eq (left_place change) m ≡ true = ap (λ n. option_eq eq n m) h ∙ option_itself m in
      true≢false (sym t ∙ e)

  fit_found : (m : Option V) (n : Option (EitherOrBoth V V)) (w : Option (EitherOrBoth V (EitherOrBoth V V))) → w ≡ from_places m n
      → ((v : EitherOrBoth V (EitherOrBoth V V)) → w ≡ Some v → fits_place eq (left_place v) (right_place v) ≡ true) → IfSome n (λ change. left_place change ≡ m)
  fit_found m None w e h = tt
  fit_found None (Some change) w e h = fitting None (Some change) (h (Right change) e)
  fit_found (Some v) (Some change) w e h = fitting (Some v) (Some change) (h (Both v change) e)

  -- what a row of references shows fits where the references do
  abbrev pub fits_shown : EitherOrBoth (Bor V) (Bor (EitherOrBoth V V)) → Bool
  fits_shown x = fits_place eq (option_map (λ v. v.now) (left_place x)) (option_map (λ v. v.now) (right_place x))

  shown : (x : EitherOrBoth (Bor V) (Bor (EitherOrBoth V V))) → fits_shown x ≡ true
      → fits_place eq (left_place (map_places (λ v. v.now) (λ v. v.now) x)) (right_place (map_places (λ v. v.now) (λ v. v.now) x)) ≡ true
  shown (Left v) e = e
  shown (Both v c) e = e
  shown (Right c) e = e

  found : {K : Type 0} (cmp : K → K → Ordering) (items : List (Bor K × EitherOrBoth (Bor V) (Bor (EitherOrBoth V V)))) → All (λ x. fits_shown x.1 ≡ true) items
      → (k : K) (v : EitherOrBoth V (EitherOrBoth V V)) → value_under cmp (map deref_joined items) k ≡ Some v → fits_place eq (left_place v) (right_place v) ≡ true
  found cmp [] h k v e = absurd (cc)
  found cmp (x ∷ items) h k v e =
      by_test (is_eq (cmp k x.0.now))
      (λ t.
      let c : Some (map_places (λ v. v.now) (λ v. v.now) x.1) ≡ Some v = rw t at e in
      subst (λ w. fits_place eq (left_place w) (right_place w) ≡ true) (some_same c) (shown x.1 (All-head (λ x. fits_shown x.1 ≡ true) x items h)))
      (λ f. found cmp items (All-tail (λ x. fits_shown x.1 ≡ true) x items h) k v (rw f at e))

  -- where each row of the join fits, all changes do
  pub joined_fits : {K : Type 0} (cmp : K → K → Ordering) (p : List (K × V)) (q : List (K × EitherOrBoth V V))
      (items : List (Bor K × EitherOrBoth (Bor V) (Bor (EitherOrBoth V V)))) → IsJoin cmp p q (map deref_joined items)
      → All (λ x. fits_shown x.1 ≡ true) items → AllFit cmp p q
  joined_fits cmp p q items j h k = fit_found (value_under cmp p k) (value_under cmp q k) _ (j.values k) (found cmp items h k)

  -- and where one does not, not all do
  pub joined_misfits : {K : Type 0} (cmp : K → K → Ordering) (p : List (K × V)) (q : List (K × EitherOrBoth V V))
      (x : Bor K × EitherOrBoth (Bor V) (Bor (EitherOrBoth V V))) → ShowsPlaces cmp p q x → fits_shown x.1 ≡ false → AllFit cmp p q → ⊥
  joined_misfits cmp p q x s e h =
      misfitting (value_under cmp p x.0.now) (value_under cmp q x.0.now) (ap (λ m. fits_place eq m (value_under cmp q x.0.now)) (sym s.0) ∙ ap (λ n. fits_place eq (option_map (λ v. v.now) (left_place x.1)) n) (sym s.1) ∙ e) (h x.0.now)

  module _ {K : Type 0} (cmp : K → K → Ordering) (o : IsTotalOrder cmp) (exact : (j k : K) → cmp j k ≡ Equal → j ≡ k) where
    -- there is no change exactly where both tables are the same
    pub none_same : (p q : List (K × V)) (ds : List (K × EitherOrBoth V V)) → Rising cmp p → Rising cmp q → IsKeptOfJoin cmp (changed eq) p q ds → ds ≡ [] → p ≡ q
    none_same p q ds g h d e =
        let kept = kept_join cmp o V V (EitherOrBoth V V) ds (changed eq) p q d in
        same_table cmp o V exact (value_under cmp q) p q
        (record { rises = g; values = λ k. same_places _ _ (sym (kept.values k) ∙ ap (λ l. value_under cmp l k) e) })
        (record { rises = h; values = λ k. refl })

    pub same_none : (p q : List (K × V)) (ds : List (K × EitherOrBoth V V)) → IsKeptOfJoin cmp (changed eq) p q ds → p ≡ q → ds ≡ []
    same_none p q [] d e = refl
    same_none p q (z ∷ zs) d e =
        let kept = kept_join cmp o V V (EitherOrBoth V V) (z ∷ zs) (changed eq) p q d in
        let c : Some z.1 ≡ None = sym (own_head cmp o z zs) ∙ kept.values z.0
        ∙ ap (λ l. option_and_then (changed eq) (from_places (value_under cmp p z.0) (value_under cmp l z.0))) (sym e) ∙ unchanged (value_under cmp p z.0) in
        absurd (cc)

-- rows in conflict are there only where a key is in conflict
module _ {K V : Type 0} (cmp : K → K → Ordering) (o : IsTotalOrder cmp) (eq : V → V → Bool) (can : Option V → Option V → Option V → Bool) (b p q : K → Option V) where
  pub some_clash : (cs : List (K × EitherOrBoth V (EitherOrBoth V V))) → Tabulates cmp cs (λ k. clash_place eq (b k) (p k) (q k)) → 0 < length cs
      → ((k : K) → is_conflict (verdict eq (b k) (p k) (q k)) ≡ false) → ⊥
  some_clash [] h l n = absurd (omega (arith, l))
  some_clash (z ∷ zs) h l n =
      let e : clash_place eq (b z.0) (p z.0) (q z.0) ≡ Some z.1 = sym (h.values z.0) ∙ own_head cmp o z zs in
      let c : None ≡ Some z.1 = rw (n z.0) at e in absurd (cc)

  pub some_unresolved : (cs : List (K × EitherOrBoth V (EitherOrBoth V V))) → Tabulates cmp cs (λ k. unresolved_place eq can (b k) (p k) (q k)) → 0 < length cs
      → ((k : K) → is_unresolved eq can (b k) (p k) (q k) ≡ false) → ⊥
  some_unresolved [] h l n = absurd (omega (arith, l))
  some_unresolved (z ∷ zs) h l n =
      let e : unresolved_place eq can (b z.0) (p z.0) (q z.0) ≡ Some z.1 = sym (h.values z.0) ∙ own_head cmp o z zs in
      let c : None ≡ Some z.1 = rw (n z.0) at e in absurd (cc)

-- what a merge gives is the merged table where no key is in conflict, and else no table
module _ (form : Form) (columns : Columns) (noted : Option (List (List (List ℕ)))) (by_cells : Bool) (b p q : TableRows) {M : Type 0} where
  pub merged_whole : (m : Merged (List (List ℕ)) (List (List (List ℕ))) M) (answer : Answer) → IsMergeByKey key_cmp rows_eq b p q m → HasNoConflict b p q
      → AnswersMerge form columns noted by_cells m answer → AnswersMerged form columns noted by_cells b p q answer
  merged_whole (Whole rows) answer h n a = (rows.items, h.0, a)
  merged_whole (Conflicts rows) answer h n a =
      absurd (some_clash key_cmp key_total rows_eq can_by_row (value_under key_cmp b) (value_under key_cmp p) (value_under key_cmp q) rows.items h.0 h.1 n)

  pub merged_clash : (m : Merged (List (List ℕ)) (List (List (List ℕ))) M) (answer : Answer) → IsMergeByKey key_cmp rows_eq b p q m → HasConflict b p q
      → AnswersMerge form columns noted by_cells m answer → Stops answer
  merged_clash (Whole rows) answer h x a = absurd (true≢false (sym x.1 ∙ h.1 x.0))
  merged_clash (Conflicts rows) answer h x a = a

  pub settled_whole : (m : Merged (List (List ℕ)) (List (List (List ℕ))) M) (answer : Answer) → IsMergeWith key_cmp rows_eq can_by_row GivesRow b p q m → HasNoneUnresolved b p q
      → AnswersMerge form columns noted by_cells m answer → AnswersMergedByCell form columns noted by_cells b p q answer
  settled_whole (Whole rows) answer h n a = (rows.items, h.0, h.1, a)
  settled_whole (Conflicts rows) answer h n a =
      absurd (some_unresolved key_cmp key_total rows_eq can_by_row (value_under key_cmp b) (value_under key_cmp p) (value_under key_cmp q) rows.items h.0 h.1 n)

  pub settled_unresolved : (m : Merged (List (List ℕ)) (List (List (List ℕ))) M) (answer : Answer) → IsMergeWith key_cmp rows_eq can_by_row GivesRow b p q m → HasUnresolved b p q
      → AnswersMerge form columns noted by_cells m answer → Stops answer
  settled_unresolved (Whole rows) answer h x a = absurd (true≢false (sym x.1 ∙ h.2 x.0))
  settled_unresolved (Conflicts rows) answer h x a = a
