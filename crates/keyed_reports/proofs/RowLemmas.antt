-- Rows that are shown of changes by key.
use Rattle.std.proofs.Common.{◌≡◌, ◌∙◌, ℕ, ◌+◌, ◌-◌, ◌<◌, ◌≤◌, Bool, true, false, cond, not, List, [], ◌∷◌, ◌++◌, Option, Some, None, append_assoc, count_by, filter, flat_map, get_or, length, map, take, nat_le, nat_lt, refl, sym, ap, ap₂, subst, arith, unwrap_or}
use Rattle.std.proofs.iter.Yields.{fronts}
use Rattle.std.proofs.lemmas.Bool.Decides.{nat_tests}
use Rattle.std.proofs.lemmas.Iterator.{YieldsList, YieldsList-from_slice}
use Rattle.std.proofs.lemmas.List.{take_more, map-append, take_all}
use Rattle.std.proofs.lemmas.List.Concat.{flat_map-append}
use Rattle.std.proofs.lemmas.List.Elements.{filter_more}
use Rattle.std.proofs.lemmas.List.FromFn.{get_or-enumerate_from, length-enumerate_from}
use Rattle.std.proofs.lemmas.List.Sums.{count_by_more_no, count_by_more_yes}
use Rattle.std.specs.Borrow.{Bor}
use Rattle.std.specs.Cmp.{IsEquivalence}
use Rattle.std.specs.Cmp.Lexicographic.{lists_equiv, nat_list_eq_equiv}
use Rattle.std.specs.List.{enumerate_from}
use Rattle.std.specs.Map.{lookup}
use Rattle.std.specs.Option.{option_map, option_zip}
use Rattle.std.specs.declared.slice.Iter.{Iter}
use Rattle.std.specs.Slice.Iter.{iter_rest}
use Rattle.either_or_both.specs.Prelude.{aligned, map_places}
use Rattle.eob_both.specs.declared.either_or_both.EitherOrBoth.{EitherOrBoth}
use Rattle.eob_both.specs.declared.either_or_both.EitherOrBoth.TheVariants.{Left, Both, Right}
use Rattle.eob_both.specs.declared.iter.swap.SwapIterEitherOrBoth.{SwapIterEitherOrBoth}
use Rattle.eob_both.specs.Ends.{SideYields}
use Rattle.eob_both.specs.Swap.{swap_left, swap_right, swap_steps}
use Rattle.eob_both.proofs.SwapLemmas.{swap_always}
use Rattle.keyed_reports.specs.RowChanges.{changed_or_each, count_of, each_of, is_lone, lone, only, rows_eq}

map_twice : {A B C : Type 0} (g : B → C) (f : A → B) (xs : List A) → map g (map f xs) ≡ map (λ x. g (f x)) xs
map_twice g f [] = refl
map_twice g f (x ∷ xs) = ap (λ l. g (f x) ∷ l) (map_twice g f xs)

append-none : {A : Type 0} (xs : List A) → xs ++ [] ≡ xs
append-none [] = refl
append-none (x ∷ xs) = ap (λ l. x ∷ l) (append-none xs)

-- one more piece of many
pub piece_put : {A B : Type 0} (f : A → List B) (xs : List A) (i : ℕ) (x : A) (before after : List B) → i < length xs → x ≡ get_or xs i x
    → after ≡ before ++ f x → before ≡ flat_map f (take i xs) → after ≡ flat_map f (take (i + 1) xs)
piece_put f xs i x before after h at put was =
    let more : take (i + 1) xs ≡ take i xs ++ x ∷ [] = take_more xs i x h ∙ ap (λ y. take i xs ++ y ∷ []) (sym at) in
    let whole : flat_map f (take (i + 1) xs) ≡ flat_map f (take i xs) ++ f x =
    ap (flat_map f) more ∙ flat_map-append f (take i xs) (x ∷ []) ∙ ap (λ l. flat_map f (take i xs) ++ l) (append-none (f x)) in
    put ∙ ap (λ l. l ++ f x) was ∙ sym whole

-- items with a key, seen by what they become
pub seen_with : {K A B : Type 0} (k : K) (f : A → B) (xs : List A) (ys : List B) → map f xs ≡ ys → map {B = K × B} (λ x. (k, f x)) xs ≡ map {B = K × B} (λ y. (k, y)) ys
seen_with {K} {A} {B} k f xs ys e =
    let pair : B → K × B = λ y. (k, y) in
    sym (map_twice pair f xs) ∙ ap (map pair) e

-- rows that go and then rows that come, put after others
pub each_put : {K R : Type 0} (k : K) (gone come : List (Bor R)) (before : List (K × EitherOrBoth R R))
    → (before ++ map {B = K × EitherOrBoth R R} (λ row. (k, Left row.now)) gone) ++ map {B = K × EitherOrBoth R R} (λ row. (k, Right row.now)) come
    ≡ before ++ map {B = K × EitherOrBoth R R} (λ row. (k, row)) (each_of (map (λ row. row.now) gone) (map (λ row. row.now) come))
each_put {K} {R} k gone come before =
    let now : Bor R → R = λ row. row.now in
    let left : R → EitherOrBoth R R = λ row. Left row in
    let right : R → EitherOrBoth R R = λ row. Right row in
    let went : Bor R → EitherOrBoth R R = λ row. Left row.now in
    let came : Bor R → EitherOrBoth R R = λ row. Right row.now in
    let with_key : EitherOrBoth R R → K × EitherOrBoth R R = λ row. (k, row) in
    append_assoc before (map (λ row. with_key (went row)) gone) (map (λ row. with_key (came row)) come)
    ∙ ap (λ l. before ++ l) (ap₂ (λ l m. l ++ m)
    (seen_with k went gone (map left (map now gone)) (sym (map_twice left now gone)))
    (seen_with k came come (map right (map now come)) (sym (map_twice right now come)))
    ∙ sym (map-append with_key (map left (map now gone)) (map right (map now come))))

zip_none : {A B : Type 0} (o : Option A) → option_zip {U = B} o None ≡ None
zip_none None = refl
zip_none (Some x) = refl

-- where one side has not one row, each is told
pub each-not_one_gone : {R : Type 0} (gone come : List R) → only gone ≡ None → changed_or_each gone come ≡ each_of gone come
each-not_one_gone gone come e = ap (λ o. unwrap_or (option_map (λ rows. Both rows.0 rows.1 ∷ []) (option_zip o (only come))) (each_of gone come)) e

pub each-not_one_come : {R : Type 0} (gone come : List R) → only come ≡ None → changed_or_each gone come ≡ each_of gone come
each-not_one_come gone come e = ap (λ o. unwrap_or (option_map (λ rows. Both rows.0 rows.1 ∷ []) o) (each_of gone come))
    (ap (option_zip (only gone)) e ∙ zip_none (only gone))

-- two slices side by side give the aligned list
pub slices_beside : {A : Type 0} (p q : List A) (z : SwapIterEitherOrBoth (Iter A) (Iter A)) (s t : Iter A) → iter_rest s ≡ p → iter_rest t ≡ q
    → swap_left z ≡ Some s → swap_right z ≡ Some t → YieldsList (swap_steps fronts fronts) (map_places (λ y. y.now) (λ y. y.now)) z (aligned p q)
slices_beside {A} p q z s t a b left right =
    let now : Bor A → A = λ y. y.now in
    let first : SideYields fronts now p (swap_left z) = subst (SideYields fronts now p) (sym left) (YieldsList-from_slice p a).runs in
    let next : SideYields fronts now q (swap_right z) = subst (SideYields fronts now q) (sym right) (YieldsList-from_slice q b).runs in
    record { runs = swap_always fronts fronts now now (aligned p q) z (p, q, first, next, refl) }

-- rows are the same through references
pub behind_equiv : IsEquivalence (λ (x y : Bor (List (List ℕ))). rows_eq x.now y.now)
behind_equiv =
    let laws : IsEquivalence rows_eq = lists_equiv nat_list_eq_equiv in
    record { refl = λ x. laws.refl x.now; symm = λ x y. laws.symm x.now y.now; congr = λ x y z e. laws.congr x.now y.now z.now e }

same_lookup : {K X : Type 0} (p r : K → Bool) → ((k : K) → p k ≡ r k) → (es : List (K × X)) → lookup p es ≡ lookup r es
same_lookup p r h [] = refl
same_lookup p r h (e ∷ es) = ap₂ (λ b o. cond b (Some e.1) o) (h e.0) (same_lookup p r h es)

written_by : (b : Bool) (f : ℕ → ℕ) (m : ℕ) (new old : Option ℕ) → (b ≡ true → f (unwrap_or old 0) ≡ m) → new ≡ cond b (Some m) old
    → unwrap_or new 0 ≡ cond b (f (unwrap_or old 0)) (unwrap_or old 0)
written_by true f m new old same e = ap (λ o. unwrap_or o 0) e ∙ sym (same refl)
written_by false f m new old same e = ap (λ o. unwrap_or o 0) e

kept_by : (b : Bool) (f : ℕ → ℕ) (n : ℕ) → (b ≡ true → f n ≡ n) → n ≡ cond b (f n) n
kept_by true f n same = sym (same refl)
kept_by false f n same = refl

module _ {K : Type 0} {eq : K → K → Bool} (laws : IsEquivalence eq) (k q : K) (es : List (K × ℕ)) (f : ℕ → ℕ) where
  same_found : eq k q ≡ true → lookup (eq q) es ≡ lookup (eq k) es
  same_found e = same_lookup (eq q) (eq k) (λ z. sym (laws.congr k q z e)) es

  -- a count that is written for a key, as each key has it
  pub count_written : (m : ℕ) (found new : Option ℕ) → lookup (eq k) es ≡ found → f (unwrap_or found 0) ≡ m → new ≡ cond (eq k q) (Some m) (lookup (eq q) es)
      → unwrap_or new 0 ≡ cond (eq k q) (f (unwrap_or (lookup (eq q) es) 0)) (unwrap_or (lookup (eq q) es) 0)
  count_written m found new h is e = written_by (eq k q) f m new (lookup (eq q) es) (λ t. ap (λ o. f (unwrap_or o 0)) (same_found t ∙ h) ∙ is) e

  -- a key that is not counted, where none stays none
  pub count_kept : lookup (eq k) es ≡ None → f 0 ≡ 0
      → unwrap_or (lookup (eq q) es) 0 ≡ cond (eq k q) (f (unwrap_or (lookup (eq q) es) 0)) (unwrap_or (lookup (eq q) es) 0)
  count_kept h is = kept_by (eq k q) f (unwrap_or (lookup (eq q) es) 0) (λ t. let none = ap (λ o. unwrap_or o 0) (same_found t ∙ h) in ap f none ∙ is ∙ sym none)

left_by : (b : Bool) (all taken more old new : ℕ) → new ≡ cond b (old - 1) old → old ≡ all - taken → more ≡ taken + cond b 1 0 → new ≡ all - more
left_by true all taken more old new a b c = omega arith
left_by false all taken more old new a b c = omega arith

more_by : {X : Type 0} (b : Bool) (p : X → Bool) (xs : List X) (i : ℕ) (d : X) → i < length xs → p (get_or xs i d) ≡ b
    → count_by p (take (i + 1) xs) ≡ count_by p (take i xs) + cond b 1 0
more_by true p xs i d h e = count_by_more_yes p xs i d h e
more_by false p xs i d h e = let k = count_by_more_no p xs i d h e in omega arith

none_left : (a b : ℕ) → nat_le a b ≡ not (nat_lt 0 (a - b))
none_left a b = grind (arith, nat_tests)

-- whether some are left of a count
pub is_left : (left all taken : ℕ) (was is : Bool) → was ≡ nat_lt 0 left → left ≡ all - taken → was ≡ is → nat_le all taken ≡ not is
is_left left all taken was is e l h = none_left all taken ∙ ap (λ n. not (nat_lt 0 n)) (sym l) ∙ ap not (sym e ∙ h)

module _ {R : Type 0} (eq : R → R → Bool) (rows others : List R) (i : ℕ) (row : R) (h : i < length rows) (at : row ≡ get_or rows i row) where
  -- a row more, counted
  pub count_more : (q : R) → count_of eq q (take (i + 1) rows) ≡ count_of eq q (take i rows) + cond (eq row q) 1 0
  count_more q = more_by (eq row q) (λ other. eq other q) rows i row h (ap (λ x. eq x q) (sym at))

  -- what is left of a row once another is taken
  pub left_more : (q : R) (old new : ℕ) → new ≡ cond (eq row q) (old - 1) old → old ≡ count_of eq q others - count_of eq q (take i rows)
      → new ≡ count_of eq q others - count_of eq q (take (i + 1) rows)
  left_more q old new next was =
      left_by (eq row q) (count_of eq q others) (count_of eq q (take i rows)) (count_of eq q (take (i + 1) rows)) old new next was (count_more q)

  -- a row more, that is lone or not
  pub lone_more : (b : Bool) → is_lone eq rows others (i, row) ≡ b
      → map {A = ℕ × R} (λ r. r.1) (filter (is_lone eq rows others) (take (i + 1) (enumerate_from 0 rows)))
      ≡ map {A = ℕ × R} (λ r. r.1) (filter (is_lone eq rows others) (take i (enumerate_from 0 rows))) ++ cond b (row ∷ []) []
  lone_more b e =
      let numbered = enumerate_from 0 rows in
      let short : i < length numbered = let k = length-enumerate_from 0 rows in omega arith in
      let item : get_or numbered i (i, row) ≡ (i, row) = get_or-enumerate_from 0 rows i (i, row) h ∙ ap₂ (λ (n : ℕ) (x : R). (n, x)) (omega arith) (sym at) in
      let more = filter_more (is_lone eq rows others) numbered i (i, row) short in
      let kept = filter (is_lone eq rows others) (take i numbered) in
      ap (map {A = ℕ × R} (λ r. r.1)) (more ∙ ap (λ x. kept ++ cond (is_lone eq rows others x) (x ∷ []) []) item ∙ ap (λ t. kept ++ cond t ((i, row) ∷ []) []) e)
      ∙ map-append {A = ℕ × R} (λ r. r.1) kept (cond b ((i, row) ∷ []) []) ∙ ap (λ l. map {A = ℕ × R} (λ r. r.1) kept ++ l) (one b) where
        one : (b : Bool) → map {A = ℕ × R} (λ r. r.1) (cond b ((i, row) ∷ []) []) ≡ cond b (row ∷ []) []
        one true = refl
        one false = refl

  -- of rows that were found to be lone, once a row is put that is, or one passed that is not
  pub lone_put : (found new : List (Bor R)) (r : Bor R) → r.now ≡ row → new ≡ found ++ r ∷ [] → is_lone eq rows others (i, row) ≡ true
      → map (λ r. r.now) found ≡ map {A = ℕ × R} (λ r. r.1) (filter (is_lone eq rows others) (take i (enumerate_from 0 rows)))
      → map (λ r. r.now) new ≡ map {A = ℕ × R} (λ r. r.1) (filter (is_lone eq rows others) (take (i + 1) (enumerate_from 0 rows)))
  lone_put found new r is put lone was =
      let now : Bor R → R = λ r. r.now in
      ap (map now) put ∙ map-append now found (r ∷ []) ∙ ap₂ (λ (l : List R) (x : R). l ++ x ∷ []) was is ∙ sym (lone_more true lone)

  pub lone_passed : (found : List (Bor R)) → is_lone eq rows others (i, row) ≡ false
      → map (λ r. r.now) found ≡ map {A = ℕ × R} (λ r. r.1) (filter (is_lone eq rows others) (take i (enumerate_from 0 rows)))
      → map (λ r. r.now) found ≡ map {A = ℕ × R} (λ r. r.1) (filter (is_lone eq rows others) (take (i + 1) (enumerate_from 0 rows)))
  lone_passed found lone was =
      was ∙ sym (append-none (map {A = ℕ × R} (λ r. r.1) (filter (is_lone eq rows others) (take i (enumerate_from 0 rows))))) ∙ sym (lone_more false lone)

-- all rows were taken
pub lone_all : {R : Type 0} (eq : R → R → Bool) (rows others : List R) (i : ℕ) → length rows ≤ i
    → map {A = ℕ × R} (λ r. r.1) (filter (is_lone eq rows others) (take i (enumerate_from 0 rows))) ≡ lone eq rows others
lone_all {R} eq rows others i h = ap (λ l. map {A = ℕ × R} (λ r. r.1) (filter (is_lone eq rows others) l))
    (take_all i (enumerate_from 0 rows) (let k = length-enumerate_from 0 rows in omega arith))
