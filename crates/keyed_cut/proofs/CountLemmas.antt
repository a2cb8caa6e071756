-- Rows that are counted one by one, and tables one by one.
use Rattle.std.proofs.Common.{◌≡◌, ◌∙◌, ◌==◌, ℕ, ◌+◌, ◌-◌, ◌^◌, ◌<◌, All, Bool, true, false, List, [], ◌∷◌, ◌++◌, Option, Some, cond, count_by, length, map, min, get_or, slice_get, slice_set, arith, sym, ap, subst, append_assoc, inl, inr}
use Rattle.std.specs.declared.cmp.Ordering.{Ordering}
use Rattle.std.proofs.lemmas.Bool.Decides.{eqb_tells}
use Rattle.std.proofs.lemmas.List.{append-nil, length-set, map-append}
use Rattle.std.proofs.lemmas.List.Elements.{All-get_or, All-push}
use Rattle.std.proofs.lemmas.List.Sums.{sum_by_push}
use Rattle.std.proofs.lemmas.Option.{get_or_from_slice_get, same_Some, slice_get-get_or, slice_get_within}
use Rattle.keyed_files.specs.Reading.{GivesRecord, HasGiven, key_in, last_record}
use Rattle.keyed_files.specs.declared.source.Source.{Source}
use Rattle.keyed_parts.specs.Parts.{part_in}
use Rattle.keyed_cut.specs.Counted.{AreCounted, CountsEach, CountsOn, CountsRest, CountsRowAt}
use Rattle.keyed_cut.specs.Partitioned.{key_cmp}
use Rattle.keyed_cut.specs.declared.sinks.Count.{Count}
use Rattle.keyed_cut.specs.declared.sinks.Counts.{Counts}
use Rattle.keyed_cut.specs.declared.tables.Table.{Table}
use Rattle.keyed_cut.proofs.PartitionLemmas.{set-here, set-there}

-- how many pass, where one more comes that does or does not
module _ {X : Type 0} (p : X → Bool) (xs : List X) (x : X) where
  count-yes : p x ≡ true → count_by p (xs ++ (x ∷ [])) ≡ count_by p xs + 1
  count-yes e = sum_by_push (λ y. cond (p y) 1 0) xs x ∙ ap (λ b. count_by p xs + cond b 1 0) e

  count-no : p x ≡ false → count_by p (xs ++ (x ∷ [])) ≡ count_by p xs
  count-no e = sum_by_push (λ y. cond (p y) 1 0) xs x ∙ ap (λ b. count_by p xs + cond b 1 0) e ∙ omega arith

-- parts with no row, and one more
pub none-more : (counts more : List Count) (count : Count) → All (λ c. c.rows ≡ 0) counts → count.rows ≡ 0 → more ≡ counts ++ (count ∷ [])
    → All (λ c. c.rows ≡ 0) more
none-more counts more count none is e = subst (All (λ c. c.rows ≡ 0)) (sym e) (All-push (λ c. c.rows ≡ 0) counts count none is)

module _ {K : Type 0} (cmp : K → K → Ordering) (bounds : List K) where
  abbrev is_in : ℕ → K → Bool
  is_in i key = part_in cmp bounds key == i

  -- no row yet
  pub counted-none : (counts : Counts) → length counts.parts.items ≡ length bounds + 1 → All (λ count. count.rows ≡ 0) counts.parts.items
      → AreCounted cmp bounds [] counts
  counted-none counts parts none = record {
    parts = parts;
    rows = λ i count here.
        subst (λ c. c.rows ≡ 0) (get_or_from_slice_get counts.parts.items i count count here)
        (All-get_or (λ c. c.rows ≡ 0) counts.parts.items i count (slice_get_within counts.parts.items i count here) none);
  }

  -- one more row
  module _ (keys : List K) (key : K) (mid new : Counts) (are : AreCounted cmp bounds keys mid) (put : CountsRowAt (part_in cmp bounds key) mid new) (i : ℕ) (count : Count) (here : slice_get new.parts.items i ≡ Some count) where
    abbrev place : ℕ
    place = part_in cmp bounds key

    abbrev all : List K
    all = keys ++ (key ∷ [])

    abbrev middle : Count
    middle = get_or mid.parts.items i count

    within : i < length mid.parts.items
    within = omega (arith, ap length put.others, length-set mid.parts.items place put.count, slice_get_within new.parts.items i count here)

    there : slice_get mid.parts.items i ≡ Some middle
    there = slice_get-get_or mid.parts.items i count within

    was : middle.rows ≡ min (count_by (is_in i) keys) (2 ^ 64 - 1)
    was = are.rows i middle there

    in-part : (place == i) ≡ true → place ≡ i → count.rows ≡ min (count_by (is_in i) all) (2 ^ 64 - 1)
    in-part is-it same =
        let put-there : slice_get (slice_set mid.parts.items place put.count) place ≡ Some put.count = set-here mid.parts.items place put.count (omega (arith, same, within)) in
        let is : put.count ≡ count = same_Some put.count count (sym (subst (λ k. slice_get (slice_set mid.parts.items place put.count) k ≡ Some put.count) same put-there) ∙ sym (ap (λ counts. slice_get counts i) put.others) ∙ here) in
        let more : put.count.rows ≡ min (middle.rows + 1) (2 ^ 64 - 1) = put.more middle (subst (λ k. slice_get mid.parts.items k ≡ Some middle) (sym same) there) in
        sym (ap (λ c. c.rows) is) ∙ more ∙ omega (arith, was, count-yes (is_in i) keys key is-it)

    in-other : (place == i) ≡ false → (place ≡ i → ⊥) → count.rows ≡ min (count_by (is_in i) all) (2 ^ 64 - 1)
    in-other is-not other =
        let is : middle ≡ count = same_Some middle count (sym there ∙ sym (set-there mid.parts.items place i put.count other) ∙ sym (ap (λ counts. slice_get counts i) put.others) ∙ here) in
        sym (ap (λ c. c.rows) is) ∙ was ∙ omega (arith, count-no (is_in i) keys key is-not)

    in-any : count.rows ≡ min (count_by (is_in i) all) (2 ^ 64 - 1)
    in-any = elim (eqb_tells place i) as (λ _. count.rows ≡ min (count_by (is_in i) all) (2 ^ 64 - 1)) [ inl w ↦ in-part w.0 w.1 | inr w ↦ in-other w.0 w.1 ]

  pub counted-and : (keys : List K) (key : K) (mid new : Counts) → AreCounted cmp bounds keys mid → CountsRowAt (part_in cmp bounds key) mid new
      → AreCounted cmp bounds (keys ++ (key ∷ [])) new
  counted-and keys key mid new are put = record {
    parts = ap length put.others ∙ length-set mid.parts.items (part_in cmp bounds key) put.count ∙ are.parts;
    rows = λ i count here. in-any keys key mid new are put i count here;
  }

module _ {R : Type 0} (remaining : R → Option (List ℕ)) (bounds : List (List (List ℕ))) where
  -- records that are read of a table and counted: none yet, one more, and all
  module _ (table : Table R) where
    pub counts-none : (counts : Counts) → AreCounted key_cmp bounds [] counts → CountsOn remaining bounds table table.opened.source.value counts
    counts-none counts are = λ d c text given h.
        ([], subst (λ l. HasGiven d c remaining text l table.opened.source.value) (sym (append-nil given)) h, are)

    pub counts-and : (now next : Source R) (key : List (List ℕ)) (mid new : Counts) → CountsOn remaining bounds table now mid
        → GivesRecord remaining now next true → key ≡ key_in table.places (last_record next)
        → CountsRowAt (part_in key_cmp bounds key) mid new → CountsOn remaining bounds table next new
    counts-and now next key mid new so gives is put = λ d c text given h.
        let before = so d c text given h in
        let fields = last_record next in
        let has = subst (λ l. HasGiven d c remaining text l next) (append_assoc given before.0 (fields ∷ [])) (gives d c text (given ++ before.0) before.1) in
        let counted = counted-and key_cmp bounds (map (key_in table.places) before.0) (key_in table.places fields) mid new before.2
        (subst (λ k. CountsRowAt (part_in key_cmp bounds k) mid new) is put) in (
          before.0 ++ (fields ∷ []),
          has,
          subst (λ l. AreCounted key_cmp bounds l new) (sym (map-append (key_in table.places) before.0 (fields ∷ []))) counted,
        )

    pub counts-all : (now next : Source R) (counts : Counts) → CountsOn remaining bounds table now counts → GivesRecord remaining now next false
        → CountsRest remaining bounds table counts
    counts-all now next counts so gives = λ d c text given h.
        let before = so d c text given h in
        (before.0, gives d c text (given ++ before.0) before.1, before.2)

  -- some of the tables are cut, and the others come
  pub record CutBefore (tables rest : List (Table R)) (counts : List Counts) : Type 0 where
    pub done : List (Table R)
    pub all : tables ≡ done ++ rest
    pub each : CountsEach remaining bounds done counts

  each-and : (tables : List (Table R)) (counts : List Counts) (table : Table R) (found : Counts) → CountsEach remaining bounds tables counts
      → CountsRest remaining bounds table found → CountsEach remaining bounds (tables ++ (table ∷ [])) (counts ++ (found ∷ []))
  each-and [] [] table found each is = (is, tt)
  each-and [] (c ∷ cs) table found each is = absurd each
  each-and (t ∷ ts) [] table found each is = absurd each
  each-and (t ∷ ts) (c ∷ cs) table found each is = (each.0, each-and ts cs table found each.1 is)

  pub cut-none : (tables rest : List (Table R)) (counts : List Counts) → rest ≡ tables → counts ≡ [] → CutBefore tables rest counts
  cut-none tables rest counts e n = record {
    done = [];
    all = sym e;
    each = subst (λ l. CountsEach remaining bounds [] l) (sym n) tt;
  }

  pub cut-and : (tables rest : List (Table R)) (table : Table R) (counts more : List Counts) (found : Counts) → CutBefore tables (table ∷ rest) counts
      → CountsRest remaining bounds table found → more ≡ counts ++ (found ∷ []) → CutBefore tables rest more
  cut-and tables rest table counts more found before is e = record {
    done = before.done ++ (table ∷ []);
    all = before.all ∙ sym (append_assoc before.done (table ∷ []) rest);
    each = subst (λ l. CountsEach remaining bounds (before.done ++ (table ∷ [])) l) (sym e)
        (each-and before.done counts table found before.each is);
  }

  pub cut-all : (tables rest : List (Table R)) (counts : List Counts) → CutBefore tables rest counts → rest ≡ [] → CountsEach remaining bounds tables counts
  cut-all tables rest counts before e =
      subst (λ l. CountsEach remaining bounds l counts) (sym (before.all ∙ ap (λ l. before.done ++ l) e ∙ append-nil before.done)) before.each
