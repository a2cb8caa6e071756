-- Laws of the rows that a report shows.
use Rattle.std.proofs.Common.{◌≡◌, ◌∙◌, ℕ, zero, suc, ◌+◌, ◌-◌, ◌<◌, ◌≤◌, Bool, true, false, cond, not, List, [], ◌∷◌, ◌++◌, Option, Some, None, filter, get_or, length, map, take, nat_le, refl, sym, ap, ap₂, subst, arith, unwrap_or}
use Rattle.std.proofs.lemmas.Bool.{leb-false, leb-true}
use Rattle.std.proofs.lemmas.List.{get_or_default, take_all}
use Rattle.std.proofs.lemmas.List.Sums.{sum_by-append}
use Rattle.std.specs.Cmp.{IsEquivalence}
use Rattle.std.specs.List.{enumerate_from}
use Rattle.std.specs.Option.{option_map, option_zip}
use Rattle.either_or_both.specs.Prelude.{map_places}
use Rattle.eob_both.specs.declared.either_or_both.EitherOrBoth.{EitherOrBoth}
use Rattle.eob_both.specs.declared.either_or_both.EitherOrBoth.TheVariants.{Left, Both, Right}
use Rattle.keyed_reports.specs.RowChanges.{LoneCountLaw, OneRowEachLaw, PairsLaw, ToldDiffersLaw, changed_or_each, count_of, differs, each_of, is_lone, lone, only, rows_of_key}
use Rattle.keyed_reports.proofs.RowLemmas.{count_more, lone_all, lone_more}

single_by : (b : Bool) → 0 + cond b 1 0 ≡ cond b 1 0
single_by true = refl
single_by false = refl

-- once one more row is counted, lone or not
counted_by : (same b : Bool) (all taken more there found : ℕ) → (same ≡ true → nat_le all taken ≡ b) → found ≡ taken - all → more ≡ taken + cond same 1 0
    → there ≡ found + cond b (cond same 1 0) 0 → there ≡ more - all
counted_by true true all taken more there found s f m t = let k = leb-true all taken (s refl) in omega arith
counted_by true false all taken more there found s f m t = let k = leb-false all taken (s refl) in omega arith
counted_by false true all taken more there found s f m t = omega arith
counted_by false false all taken more there found s f m t = omega arith

not_cond : {A : Type 0} (b : Bool) (xs : List A) → cond (not b) xs [] ≡ cond b [] xs
not_cond true xs = refl
not_cond false xs = refl

module _ {R : Type 0} {eq : R → R → Bool} (laws : IsEquivalence eq) where
  count_single : (row other : R) → count_of eq row (other ∷ []) ≡ cond (eq other row) 1 0
  count_single row other = single_by (eq other row)

  count_both : (row : R) (rows others : List R) → count_of eq row (rows ++ others) ≡ count_of eq row rows + count_of eq row others
  count_both row rows others = sum_by-append (λ other. cond (eq other row) 1 0) rows others

  -- rows that are the same stand as often
  count_same : (row other : R) → eq other row ≡ true → (rows : List R) → count_of eq other rows ≡ count_of eq row rows
  count_same row other e [] = refl
  count_same row other e (x ∷ xs) =
      let here : eq x other ≡ eq x row = laws.symm x other ∙ laws.congr other row x e ∙ laws.symm row x in
      let first : count_of eq other (x ∷ []) ≡ count_of eq row (x ∷ []) = count_single other x ∙ ap (λ b. cond b 1 0) here ∙ sym (count_single row x) in
      count_both other (x ∷ []) xs ∙ ap₂ (λ n m. n + m) first (count_same row other e xs) ∙ sym (count_both row (x ∷ []) xs)

  count_cond : (row r : R) (b : Bool) → count_of eq row (cond b (r ∷ []) []) ≡ cond b (cond (eq r row) 1 0) 0
  count_cond row r true = count_single row r
  count_cond row r false = refl

  module _ (row : R) (rows others : List R) where
    counted_more : (i : ℕ) (r : R) → i < length rows → r ≡ get_or rows i r
        → count_of eq row (map {A = ℕ × R} (λ r. r.1) (filter (is_lone eq rows others) (take i (enumerate_from 0 rows))))
        ≡ count_of eq row (take i rows) - count_of eq row others
        → count_of eq row (map {A = ℕ × R} (λ r. r.1) (filter (is_lone eq rows others) (take (i + 1) (enumerate_from 0 rows))))
        ≡ count_of eq row (take (i + 1) rows) - count_of eq row others
    counted_more i r h at was =
        let b = is_lone eq rows others (i, r) in
        let before = map {A = ℕ × R} (λ r. r.1) (filter (is_lone eq rows others) (take i (enumerate_from 0 rows))) in
        let there : count_of eq row (map {A = ℕ × R} (λ r. r.1) (filter (is_lone eq rows others) (take (i + 1) (enumerate_from 0 rows))))
        ≡ count_of eq row before + cond b (cond (eq r row) 1 0) 0 =
        ap (count_of eq row) (lone_more eq rows others i r h at b refl) ∙ count_both row before (cond b (r ∷ []) []) ∙ ap (λ n. count_of eq row before + n) (count_cond row r b) in
        counted_by (eq r row) b (count_of eq row others) (count_of eq row (take i rows)) _ _ _
        (λ e. ap₂ nat_le (sym (count_same row r e others)) (sym (count_same row r e (take i rows)))) was (count_more eq rows others i r h at row) there

    counted : (i : ℕ) (first : R) → i ≤ length rows
        → count_of eq row (map {A = ℕ × R} (λ r. r.1) (filter (is_lone eq rows others) (take i (enumerate_from 0 rows))))
        ≡ count_of eq row (take i rows) - count_of eq row others
    counted zero first h = omega arith
    counted (suc i) first h =
        let next : i + 1 ≡ suc i = omega arith in
        let inside : i < length rows = omega arith in
        subst (λ n. count_of eq row (map {A = ℕ × R} (λ r. r.1) (filter (is_lone eq rows others) (take n (enumerate_from 0 rows)))) ≡ count_of eq row (take n rows) - count_of eq row others)
        next (counted_more i (get_or rows i first) inside (get_or_default rows i first (get_or rows i first) inside) (counted i first (omega arith)))

  pub lone_count : LoneCountLaw eq
  lone_count row rows others =
      let all : length rows ≤ length rows = omega arith in
      ap (count_of eq row) (sym (lone_all eq rows others (length rows) all)) ∙ counted row rows others (length rows) row all
      ∙ ap (λ l. count_of eq row l - count_of eq row others) (take_all (length rows) rows all)

  only_is : (rows : List R) (row : R) → only rows ≡ Some row → rows ≡ row ∷ []
  only_is [] row e = absurd (let k : ⊥ = cc in k)
  only_is (x ∷ []) row e = let k : x ≡ row = cc in ap (λ r. r ∷ []) k
  only_is (x ∷ (y ∷ rows)) row e = absurd (let k : ⊥ = cc in k)

  -- a row that is told to have changed is another one than before
  apart_by : (b : Bool) (old new : List R) (o n : R) → eq o n ≡ b → only (lone eq old new) ≡ Some o → only (lone eq new old) ≡ Some n → b ≡ false
  apart_by false old new o n e gone come = refl
  apart_by true old new o n e gone come =
      let here : 1 ≡ count_of eq o old - count_of eq o new =
      ap (λ b. cond b 1 0) (sym (laws.refl o)) ∙ sym (count_single o o) ∙ ap (count_of eq o) (sym (only_is (lone eq old new) o gone)) ∙ lone_count o old new in
      let there : 1 ≡ count_of eq o new - count_of eq o old =
      ap (λ b. cond b 1 0) (sym (laws.symm n o ∙ e)) ∙ sym (count_single o n) ∙ ap (count_of eq o) (sym (only_is (lone eq new old) n come)) ∙ lone_count o new old in
      absurd (omega arith)

  rights_kept : (come : List R) → filter (differs eq) (map (λ row. Right row) come) ≡ map (λ row. Right row) come
  rights_kept [] = refl
  rights_kept (x ∷ come) = ap (λ l. Right x ∷ l) (rights_kept come)

  each_kept : (gone come : List R) → filter (differs eq) (each_of gone come) ≡ each_of gone come
  each_kept [] come = rights_kept come
  each_kept (x ∷ gone) come = ap (λ l. Left x ∷ l) (each_kept gone come)

  all_kept : (gone come : List R) (o n : Option R) → ((x y : R) → o ≡ Some x → n ≡ Some y → eq x y ≡ false)
      → filter (differs eq) (unwrap_or (option_map (λ rows. Both rows.0 rows.1 ∷ []) (option_zip o n)) (each_of gone come))
      ≡ unwrap_or (option_map (λ rows. Both rows.0 rows.1 ∷ []) (option_zip o n)) (each_of gone come)
  all_kept gone come None n h = each_kept gone come
  all_kept gone come (Some x) None h = each_kept gone come
  all_kept gone come (Some x) (Some y) h = ap (λ b. cond (not b) (Both x y ∷ []) []) (h x y refl refl)

  pub told_differs : ToldDiffersLaw eq
  told_differs old new = all_kept (lone eq old new) (lone eq new old) (only (lone eq old new)) (only (lone eq new old)) (λ o n gone come. apart_by (eq o n) old new o n refl gone come)

  lone_one : (row other : R) → eq other row ≡ false → lone eq (row ∷ []) (other ∷ []) ≡ row ∷ []
  lone_one row other e = ap (λ b. map {A = ℕ × R} (λ r. r.1) (cond (nat_le (0 + cond b 1 0) 0) ((0, row) ∷ []) [])) e

  pub one_row_each : OneRowEachLaw eq
  one_row_each same None None e = absurd (let k : ⊥ = cc in k)
  one_row_each same (Some o) None e = refl
  one_row_each same None (Some n) e = refl
  one_row_each same (Some o) (Some n) e =
      ap (filter (differs same)) (ap₂ changed_or_each (lone_one o n (laws.symm n o ∙ e)) (lone_one n o e)) ∙ not_cond (same o n) (Both o n ∷ [])

  pair_is : {K : Type 0} (k : K) (row : EitherOrBoth R R) → rows_of_key eq false (k, map_places (λ old. old ∷ []) (λ new. new ∷ []) row) ≡ (k, row) ∷ []
  pair_is k (Left o) = refl
  pair_is k (Both o n) = refl
  pair_is k (Right n) = refl

  pub pairs : {K : Type 0} → PairsLaw eq K
  pairs [] = refl
  pairs (row ∷ rows) = ap₂ (λ l m. l ++ m) (pair_is row.0 row.1) (pairs rows)
