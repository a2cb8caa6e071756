-- The rows of changes that are written, read again: the same changes.
use Rattle.std.proofs.Common.{◌≡◌, ◌∙◌, ℕ, Bool, cond, List, [], ◌∷◌, ◌++◌, All, Option, Some, None, map, nat_eq, refl, sym, ap, ap₂, subst}
use Rattle.std.specs.Prelude.{⊤, IfSome}
use Rattle.std.specs.Cmp.{IsTotalOrder}
use Rattle.std.specs.Cmp.Lexicographic.{pointwise}
use Rattle.std.specs.List.{flat_map}
use Rattle.std.specs.Option.{option_and_then}
use Rattle.std.specs.declared.cmp.Ordering.{Ordering}
use Rattle.std.specs.declared.cmp.Ordering.TheVariants.{Equal}
use Rattle.std.proofs.lemmas.Grind.{flat_map-append}
use Rattle.std.proofs.lemmas.List.{append-nil, map-append}
use Rattle.std.proofs.lemmas.List.Elements.{All-cons, All-head, All-nil, All-tail, All-weaker}
use Rattle.eob_both.specs.declared.either_or_both.EitherOrBoth.{EitherOrBoth}
use Rattle.eob_both.specs.declared.either_or_both.EitherOrBoth.TheVariants.{Left, Both, Right}
use Rattle.eob_both.specs.Places.{from_places, left_place, right_place}
use Rattle.eob_lists.specs.Join.{IsJoin, Rising, value_under}
use Rattle.eob_lists.proofs.JoinLemmas.{own}
use Rattle.eob_lists.proofs.MergeLemmas.{up}
use Rattle.eob_joins.specs.Changes.{changed}
use Rattle.eob_joins.specs.Tables.{IsKeptOfJoin, kept}
use Rattle.eob_joins.proofs.TableLemmas.{by_test, kept_join, kept_law, same_table}
use Rattle.keyed_columns.specs.Placed.{placed}
use Rattle.keyed_columns.specs.declared.columns.Columns.{Columns}
use Rattle.keyed_columns.specs.declared.columns.Place.{Place}
use Rattle.keyed_files.specs.Reading.{parts_of}
use Rattle.keyed_files.specs.Rows.{rows_under, shown_sign}
use Rattle.keyed_files.specs.declared.sign.Sign.{Sign}
use Rattle.keyed_files.specs.declared.sign.Sign.TheVariants.{Minus, Plus}
use Rattle.keyed_files.specs.declared.sign.SignedRow.{SignedRow}
use Rattle.keyed_rows.specs.declared.row.ReadRow.{ReadRow}
use Rattle.keyed_jobs.specs.Answers.{TableChanges}
use Rattle.keyed_jobs.specs.ChangeRows.{change_rows, changes_rows, version_rows}
use Rattle.keyed_jobs.specs.ChangesRead.{come_by, come_rows, gone_by, gone_rows, signed_parts, signed_under}
use Rattle.keyed_commands.proofs.GatheredLemmas.{flat, found}

some_same : {X : Type 0} {x y : X} → Some x ≡ Some y → x ≡ y
some_same e = cc

-- what a change between two places has as its own places
places_of : {A : Type 0} (eq : A → A → Bool) (m n : Option A) (v : EitherOrBoth A A) → option_and_then (changed eq) (from_places m n) ≡ Some v
    → (left_place v ≡ m) × (right_place v ≡ n)
places_of eq None None v e = absurd (cc)
places_of eq None (Some b) v e = subst (λ w. (left_place w ≡ None) × (right_place w ≡ Some b)) (some_same e) (refl, refl)
places_of eq (Some a) None v e = subst (λ w. (left_place w ≡ Some a) × (right_place w ≡ None)) (some_same e) (refl, refl)
places_of eq (Some a) (Some b) v e =
    by_test (eq a b)
    (λ t. let c : None ≡ Some v = rw t at e in absurd (cc))
    (λ f. let c : Some (Both a b) ≡ Some v = rw f at e in subst (λ w. (left_place w ≡ Some a) × (right_place w ≡ Some b)) (some_same c) (refl, refl))

both_again : {A B : Type 0} (m : Option (EitherOrBoth A B)) → from_places (option_and_then left_place m) (option_and_then right_place m) ≡ m
both_again None = refl
both_again (Some (Left a)) = refl
both_again (Some (Both a b)) = refl
both_again (Some (Right b)) = refl

-- what holds of each place that is there holds of each value of that side
left_side : {K A B : Type 0} (Q : K → A → Type 0) (zs : List (K × EitherOrBoth A B)) → All (λ z. IfSome (left_place z.1) (Q z.0)) zs → All (λ g. Q g.0 g.1) (kept left_place zs)
left_side Q [] h = All-nil (λ g. Q g.0 g.1)
left_side Q ((k, Left a) ∷ zs) h =
    All-cons (λ g. Q g.0 g.1) (k, a) (kept left_place zs) (All-head (λ z. IfSome (left_place z.1) (Q z.0)) (k, Left a) zs h)
    (left_side Q zs (All-tail (λ z. IfSome (left_place z.1) (Q z.0)) (k, Left a) zs h))
left_side Q ((k, Both a b) ∷ zs) h =
    All-cons (λ g. Q g.0 g.1) (k, a) (kept left_place zs) (All-head (λ z. IfSome (left_place z.1) (Q z.0)) (k, Both a b) zs h)
    (left_side Q zs (All-tail (λ z. IfSome (left_place z.1) (Q z.0)) (k, Both a b) zs h))
left_side Q ((k, Right b) ∷ zs) h = left_side Q zs (All-tail (λ z. IfSome (left_place z.1) (Q z.0)) (k, Right b) zs h)

right_side : {K A B : Type 0} (Q : K → B → Type 0) (zs : List (K × EitherOrBoth A B)) → All (λ z. IfSome (right_place z.1) (Q z.0)) zs → All (λ g. Q g.0 g.1) (kept right_place zs)
right_side Q [] h = All-nil (λ g. Q g.0 g.1)
right_side Q ((k, Left a) ∷ zs) h = right_side Q zs (All-tail (λ z. IfSome (right_place z.1) (Q z.0)) (k, Left a) zs h)
right_side Q ((k, Both a b) ∷ zs) h =
    All-cons (λ g. Q g.0 g.1) (k, b) (kept right_place zs) (All-head (λ z. IfSome (right_place z.1) (Q z.0)) (k, Both a b) zs h)
    (right_side Q zs (All-tail (λ z. IfSome (right_place z.1) (Q z.0)) (k, Both a b) zs h))
right_side Q ((k, Right b) ∷ zs) h =
    All-cons (λ g. Q g.0 g.1) (k, b) (kept right_place zs) (All-head (λ z. IfSome (right_place z.1) (Q z.0)) (k, Right b) zs h)
    (right_side Q zs (All-tail (λ z. IfSome (right_place z.1) (Q z.0)) (k, Right b) zs h))

module _ {K V : Type 0} (cmp : K → K → Ordering) (o : IsTotalOrder cmp) (exact : (j k : K) → cmp j k ≡ Equal → j ≡ k) (eq : V → V → Bool) where
  -- each change is between what the two tables have under its key
  of_change : (p q : List (K × V)) (ds : List (K × EitherOrBoth V V)) → IsKeptOfJoin cmp (changed eq) p q ds
      → All (λ z. (left_place z.1 ≡ value_under cmp p z.0) × (right_place z.1 ≡ value_under cmp q z.0)) ds
  of_change p q ds d =
      let by_key = kept_join cmp o V V (EitherOrBoth V V) ds (changed eq) p q d in
      All-weaker (λ z. value_under cmp ds z.0 ≡ Some z.1) (λ z. (left_place z.1 ≡ value_under cmp p z.0) × (right_place z.1 ≡ value_under cmp q z.0))
      (λ z e. places_of eq (value_under cmp p z.0) (value_under cmp q z.0) z.1 (sym (by_key.values z.0) ∙ e)) ds (own cmp o (λ k. ⊤) ds (up cmp ds by_key.rises))

  -- what holds of what a table has holds of what its changes have of it
  pub lefts-hold : (Q : K → V → Type 0) (p q : List (K × V)) (ds : List (K × EitherOrBoth V V)) → IsKeptOfJoin cmp (changed eq) p q ds
      → All (λ g. Q g.0 g.1) p → All (λ z. IfSome (left_place z.1) (Q z.0)) ds
  lefts-hold Q p q ds d h =
      All-weaker (λ z. (left_place z.1 ≡ value_under cmp p z.0) × (right_place z.1 ≡ value_under cmp q z.0)) (λ z. IfSome (left_place z.1) (Q z.0))
      (λ z e. subst (λ m. IfSome m (Q z.0)) (sym e.0) (found cmp o exact Q p h z.0)) ds (of_change p q ds d)

  pub rights-hold : (Q : K → V → Type 0) (p q : List (K × V)) (ds : List (K × EitherOrBoth V V)) → IsKeptOfJoin cmp (changed eq) p q ds
      → All (λ g. Q g.0 g.1) q → All (λ z. IfSome (right_place z.1) (Q z.0)) ds
  rights-hold Q p q ds d h =
      All-weaker (λ z. (left_place z.1 ≡ value_under cmp p z.0) × (right_place z.1 ≡ value_under cmp q z.0)) (λ z. IfSome (right_place z.1) (Q z.0))
      (λ z e. subst (λ m. IfSome m (Q z.0)) (sym e.1) (found cmp o exact Q q h z.0)) ds (of_change p q ds d)

  pub changes-rise : (p q : List (K × V)) (ds : List (K × EitherOrBoth V V)) → IsKeptOfJoin cmp (changed eq) p q ds → Rising cmp ds
  changes-rise p q ds d = (kept_join cmp o V V (EitherOrBoth V V) ds (changed eq) p q d).rises

pub all-lefts : {K A B : Type 0} (Q : K → A → Type 0) (zs : List (K × EitherOrBoth A B)) → All (λ z. IfSome (left_place z.1) (Q z.0)) zs → All (λ g. Q g.0 g.1) (kept left_place zs)
all-lefts Q zs h = left_side Q zs h

pub all-rights : {K A B : Type 0} (Q : K → B → Type 0) (zs : List (K × EitherOrBoth A B)) → All (λ z. IfSome (right_place z.1) (Q z.0)) zs → All (λ g. Q g.0 g.1) (kept right_place zs)
all-rights Q zs h = right_side Q zs h

module _ {K A B : Type 0} (cmp : K → K → Ordering) (o : IsTotalOrder cmp) (zs : List (K × EitherOrBoth A B)) (rises : Rising cmp zs) where
  pub lefts-rise : Rising cmp (kept left_place zs)
  lefts-rise = (kept_law cmp o (EitherOrBoth A B) A left_place (value_under cmp zs) zs (record { rises = rises; values = λ k. refl })).rises

  pub rights-rise : Rising cmp (kept right_place zs)
  rights-rise = (kept_law cmp o (EitherOrBoth A B) B right_place (value_under cmp zs) zs (record { rises = rises; values = λ k. refl })).rises

  left_at : (k : K) → value_under cmp (kept left_place zs) k ≡ option_and_then left_place (value_under cmp zs k)
  left_at = (kept_law cmp o (EitherOrBoth A B) A left_place (value_under cmp zs) zs (record { rises = rises; values = λ k. refl })).values

  right_at : (k : K) → value_under cmp (kept right_place zs) k ≡ option_and_then right_place (value_under cmp zs k)
  right_at = (kept_law cmp o (EitherOrBoth A B) B right_place (value_under cmp zs) zs (record { rises = rises; values = λ k. refl })).values

  -- rows whose join is of the two sides of changes are these changes
  pub joined-again : ((j k : K) → cmp j k ≡ Equal → j ≡ k) → (p : List (K × A)) (q : List (K × B)) (ys : List (K × EitherOrBoth A B)) → IsJoin cmp p q ys
      → p ≡ kept left_place zs → q ≡ kept right_place zs → ys ≡ zs
  joined-again exact p q ys j is_left is_right =
      same_table cmp o (EitherOrBoth A B) exact (value_under cmp zs) ys zs
      (record {
        rises = j.rises;
        values = λ k. j.values k ∙ ap₂ from_places (ap (λ l. value_under cmp l k) is_left ∙ left_at k) (ap (λ l. value_under cmp l k) is_right ∙ right_at k) ∙ both_again (value_under cmp zs k);
      })
      (record { rises = rises; values = λ k. refl })

-- what goes by a sign that stands in a cell, and what comes
abbrev pub gone_of : {A : Type 0} → Option (List ℕ) × A → List A
gone_of (Some cell, a) = cond (pointwise nat_eq cell (45 ∷ [])) (a ∷ []) []
gone_of (None, a) = []

abbrev pub come_of : {A : Type 0} → Option (List ℕ) × A → List A
come_of (Some cell, a) = cond (pointwise nat_eq cell (43 ∷ [])) (a ∷ []) []
come_of (None, a) = []

gone_one : (sign : Sign) (row : ReadRow) → map parts_of (gone_by sign row) ≡ gone_of (Some (shown_sign sign), parts_of row)
gone_one Minus row = refl
gone_one Plus row = refl

come_one : (sign : Sign) (row : ReadRow) → map parts_of (come_by sign row) ≡ come_of (Some (shown_sign sign), parts_of row)
come_one Minus row = refl
come_one Plus row = refl

pub gone-parts : (signed : List SignedRow) → map parts_of (gone_rows signed) ≡ flat_map gone_of (map signed_parts signed)
gone-parts [] = refl
gone-parts (s ∷ signed) = map-append parts_of (gone_by s.sign s.row) (gone_rows signed) ∙ ap₂ (λ a b. a ++ b) (gone_one s.sign s.row) (gone-parts signed)

pub come-parts : (signed : List SignedRow) → map parts_of (come_rows signed) ≡ flat_map come_of (map signed_parts signed)
come-parts [] = refl
come-parts (s ∷ signed) = map-append parts_of (come_by s.sign s.row) (come_rows signed) ∙ ap₂ (λ a b. a ++ b) (come_one s.sign s.row) (come-parts signed)

-- the rows of one version under a key
abbrev rows_at : {K V : Type 0} → K → Option (List V) → List (K × V)
rows_at key None = []
rows_at key (Some rows) = map (λ row. (key, row)) rows

minus_goes : {A B : Type 0} (key : A) (rows : List B) → flat_map {A = A × B} gone_of (map (λ row. (Some (45 ∷ []), (key, row))) rows) ≡ map (λ row. (key, row)) rows
minus_goes key [] = refl
minus_goes key (row ∷ rows) = ap (λ l. (key, row) ∷ l) (minus_goes key rows)

plus_comes : {A B : Type 0} (key : A) (rows : List B) → flat_map {A = A × B} come_of (map (λ row. (Some (43 ∷ []), (key, row))) rows) ≡ map (λ row. (key, row)) rows
plus_comes key [] = refl
plus_comes key (row ∷ rows) = ap (λ l. (key, row) ∷ l) (plus_comes key rows)

minus_stays : {A B : Type 0} (key : A) (rows : List B) → flat_map {A = A × B} come_of (map (λ row. (Some (45 ∷ []), (key, row))) rows) ≡ []
minus_stays key [] = refl
minus_stays key (row ∷ rows) = minus_stays key rows

plus_stays : {A B : Type 0} (key : A) (rows : List B) → flat_map {A = A × B} gone_of (map (λ row. (Some (43 ∷ []), (key, row))) rows) ≡ []
plus_stays key [] = refl
plus_stays key (row ∷ rows) = plus_stays key rows

left_flat : {K A B : Type 0} (z : K × EitherOrBoth (List A) B) (zs : List (K × EitherOrBoth (List A) B)) → rows_at z.0 (left_place z.1) ++ flat (kept left_place zs) ≡ flat (kept left_place (z ∷ zs))
left_flat (k, Left a) zs = refl
left_flat (k, Both a b) zs = refl
left_flat (k, Right b) zs = refl

right_flat : {K A B : Type 0} (z : K × EitherOrBoth A (List B)) (zs : List (K × EitherOrBoth A (List B))) → rows_at z.0 (right_place z.1) ++ flat (kept right_place zs) ≡ flat (kept right_place (z ∷ zs))
right_flat (k, Left a) zs = refl
right_flat (k, Both a b) zs = refl
right_flat (k, Right b) zs = refl

-- rows that are written in an order of columns, and read under names
module _ (names : List (List ℕ)) (columns : Columns) (order : List Place) where
  -- a row reads back
  abbrev pub ReadsBack : List (List ℕ) → List (List ℕ) → Type 0
  ReadsBack key row = (cell : List ℕ) → signed_under names columns (cell ∷ placed order key row) ≡ (Some cell, (key, row))

  -- and so do all of a group
  abbrev pub AllBack : List (List ℕ) → List (List (List ℕ)) → Type 0
  AllBack key rows = All (ReadsBack key) rows

  rows_back : (cell : List ℕ) (key : List (List ℕ)) (rows : List (List (List ℕ))) → AllBack key rows
      → map (signed_under names columns) (rows_under (Some cell) order key rows) ≡ map (λ row. (Some cell, (key, row))) rows
  rows_back cell key [] h = refl
  rows_back cell key (row ∷ rows) h =
      ap₂ (λ r l. r ∷ l) (All-head (ReadsBack key) row rows h cell) (rows_back cell key rows (All-tail (ReadsBack key) row rows h))

  minus_gone : (key : List (List ℕ)) (m : Option (List (List (List ℕ)))) → IfSome m (AllBack key)
      → flat_map gone_of (map (signed_under names columns) (version_rows Minus order key m)) ≡ rows_at key m
  minus_gone key None h = refl
  minus_gone key (Some rows) h = ap (flat_map gone_of) (rows_back (45 ∷ []) key rows h) ∙ minus_goes key rows

  plus_gone : (key : List (List ℕ)) (m : Option (List (List (List ℕ)))) → IfSome m (AllBack key)
      → flat_map gone_of (map (signed_under names columns) (version_rows Plus order key m)) ≡ []
  plus_gone key None h = refl
  plus_gone key (Some rows) h = ap (flat_map gone_of) (rows_back (43 ∷ []) key rows h) ∙ plus_stays key rows

  minus_come : (key : List (List ℕ)) (m : Option (List (List (List ℕ)))) → IfSome m (AllBack key)
      → flat_map come_of (map (signed_under names columns) (version_rows Minus order key m)) ≡ []
  minus_come key None h = refl
  minus_come key (Some rows) h = ap (flat_map come_of) (rows_back (45 ∷ []) key rows h) ∙ minus_stays key rows

  plus_come : (key : List (List ℕ)) (m : Option (List (List (List ℕ)))) → IfSome m (AllBack key)
      → flat_map come_of (map (signed_under names columns) (version_rows Plus order key m)) ≡ rows_at key m
  plus_come key None h = refl
  plus_come key (Some rows) h = ap (flat_map come_of) (rows_back (43 ∷ []) key rows h) ∙ plus_comes key rows

  parted : {A : Type 0} (f : Option (List ℕ) × (List (List ℕ) × List (List ℕ)) → List A) (xs ys : List (List (List ℕ)))
      → flat_map f (map (signed_under names columns) (xs ++ ys)) ≡ flat_map f (map (signed_under names columns) xs) ++ flat_map f (map (signed_under names columns) ys)
  parted f xs ys = ap (flat_map f) (map-append (signed_under names columns) xs ys) ∙ flat_map-append f (map (signed_under names columns) xs) (map (signed_under names columns) ys)

  abbrev LeftsBack : TableChanges → Type 0
  LeftsBack zs = All (λ z. IfSome (left_place z.1) (AllBack z.0)) zs

  abbrev RightsBack : TableChanges → Type 0
  RightsBack zs = All (λ z. IfSome (right_place z.1) (AllBack z.0)) zs

  -- the rows that go, of the rows of changes
  pub gone-back : (zs : TableChanges) → LeftsBack zs → RightsBack zs → flat_map gone_of (map (signed_under names columns) (changes_rows order zs)) ≡ flat (kept left_place zs)
  gone-back [] g h = refl
  gone-back (z ∷ zs) g h =
      let left : IfSome (left_place z.1) (AllBack z.0) = All-head (λ z. IfSome (left_place z.1) (AllBack z.0)) z zs g in
      let right : IfSome (right_place z.1) (AllBack z.0) = All-head (λ z. IfSome (right_place z.1) (AllBack z.0)) z zs h in
      let rest = gone-back zs (All-tail (λ z. IfSome (left_place z.1) (AllBack z.0)) z zs g) (All-tail (λ z. IfSome (right_place z.1) (AllBack z.0)) z zs h) in
      parted gone_of (change_rows order z.0 z.1) (changes_rows order zs)
      ∙ ap₂ (λ a b. a ++ b)
      (parted gone_of (version_rows Minus order z.0 (left_place z.1)) (version_rows Plus order z.0 (right_place z.1))
      ∙ ap₂ (λ a b. a ++ b) (minus_gone z.0 (left_place z.1) left) (plus_gone z.0 (right_place z.1) right) ∙ append-nil (rows_at z.0 (left_place z.1)))
      rest
      ∙ left_flat z zs

  -- and those that come
  pub come-back : (zs : TableChanges) → LeftsBack zs → RightsBack zs → flat_map come_of (map (signed_under names columns) (changes_rows order zs)) ≡ flat (kept right_place zs)
  come-back [] g h = refl
  come-back (z ∷ zs) g h =
      let left : IfSome (left_place z.1) (AllBack z.0) = All-head (λ z. IfSome (left_place z.1) (AllBack z.0)) z zs g in
      let right : IfSome (right_place z.1) (AllBack z.0) = All-head (λ z. IfSome (right_place z.1) (AllBack z.0)) z zs h in
      let rest = come-back zs (All-tail (λ z. IfSome (left_place z.1) (AllBack z.0)) z zs g) (All-tail (λ z. IfSome (right_place z.1) (AllBack z.0)) z zs h) in
      parted come_of (change_rows order z.0 z.1) (changes_rows order zs)
      ∙ ap₂ (λ a b. a ++ b)
      (parted come_of (version_rows Minus order z.0 (left_place z.1)) (version_rows Plus order z.0 (right_place z.1))
      ∙ ap₂ (λ a b. a ++ b) (minus_come z.0 (left_place z.1) left) (plus_come z.0 (right_place z.1) right))
      rest
      ∙ right_flat z zs
