-- Names of columns, each once.
use Rattle.std.proofs.Common.{◌≡◌, ◌∙◌, ◌+◌, ℕ, Bool, Bor, true, false, cond, List, [], ◌∷◌, ◌++◌, None, Some, arith, drop, filter, map, nat_eq, refl, sym, ap, ap₂, append_assoc, subst, take}
use Rattle.std.specs.Prelude.{◌&&◌, ◌||◌, not, slice_get}
use Rattle.std.specs.Cmp.Lexicographic.{nat_list_eq_equiv, pointwise}
use Rattle.std.specs.List.{list_all, list_any}
use Rattle.std.proofs.lemmas.List.{append-nil, map-append}
use Rattle.std.proofs.lemmas.List.Concat.{flat_map-append}
use Rattle.std.proofs.lemmas.List.Elements.{filter-append, filter_agree}
use Rattle.std.proofs.lemmas.List.Folds.{list_any-append}
use Rattle.std.proofs.lemmas.List.FromFn.{map-range_with_len_more}
use Rattle.std.proofs.lemmas.Map.Steps.{list_any_congr}
use Rattle.indexmap.specs.IndexSet.{insert_all, insert_key}
use Rattle.keyed_columns.specs.ChangedColumns.{comes_in, marked_between, stays_in}
use Rattle.keyed_columns.specs.ColumnNames.{HaveNames, all_names, distinct, has_name, is_beside, key_first, place_under_key}
use Rattle.keyed_columns.specs.KeyText.{AreNamesOf, GivesNames}
use Rattle.keyed_columns.specs.Names.{is_kept, names_in}
use Rattle.keyed_columns.specs.NewColumns.{HasOnce, HasSeen, PutsColumn, SeesNames}
use Rattle.keyed_columns.specs.declared.columns.Place.TheVariants as at
use Rattle.keyed_columns.specs.declared.columns.NewColumns.{NewColumns}
use Rattle.keyed_columns.specs.declared.key_record.NewNames.{NewNames}
use Rattle.keyed_columns.proofs.NameLemmas.{all_names as in_all}

-- a filter of what another one keeps
module _ {X : Type 0} (p q r : X → Bool) (both : (x : X) → r x ≡ (q x && p x)) where
  both_if : (x : X) (xs : List X) (b : Bool) → q x ≡ b → r x ≡ (b && p x) → filter p (filter q xs) ≡ filter r xs
      → filter p (filter q (x ∷ xs)) ≡ filter r (x ∷ xs)
  both_if x xs true e is h = rw (e, is) (ap (λ l. cond (p x) (x ∷ l) l) h)
  both_if x xs false e is h = rw (e, is) h

  pub filter-filter : (xs : List X) → filter p (filter q xs) ≡ filter r xs
  filter-filter [] = refl
  filter-filter (x ∷ xs) = both_if x xs (q x) refl (both x) (filter-filter xs)

-- a name is none of others
abbrev out : List (List ℕ) → List ℕ → Bool
out names name = not (list_any (pointwise nat_eq name) names)

apart_if : (x o : List ℕ) (ks : List (List ℕ)) (b : Bool) → pointwise nat_eq o x ≡ b → list_any (pointwise nat_eq x) ks ≡ true
    → out ks o ≡ (not b && out ks o)
apart_if x o ks true e f = ap not (list_any_congr nat_list_eq_equiv o x ks e ∙ f)
apart_if x o ks false e f = refl

or_not : (a b : Bool) → not (a || (b || false)) ≡ (not b && not a)
or_not true true = refl
or_not true false = refl
or_not false true = refl
or_not false false = refl

out_more : (x o : List ℕ) (ks : List (List ℕ)) → out (ks ++ (x ∷ [])) o ≡ (not (pointwise nat_eq o x) && out ks o)
out_more x o ks = ap not (list_any-append (pointwise nat_eq o) ks (x ∷ [])) ∙ or_not (list_any (pointwise nat_eq o) ks) (pointwise nat_eq o x)

insert_if : (ks xs : List (List ℕ)) (x : List ℕ) (b : Bool) → list_any (pointwise nat_eq x) ks ≡ b
    → ((ls : List (List ℕ)) → insert_all (pointwise nat_eq) ls xs ≡ ls ++ filter (out ls) (distinct xs))
    → insert_all (pointwise nat_eq) (cond b ks (ks ++ (x ∷ []))) xs
    ≡ ks ++ cond (not b) (x ∷ filter (out ks) (filter (λ o. not (pointwise nat_eq o x)) (distinct xs))) (filter (out ks) (filter (λ o. not (pointwise nat_eq o x)) (distinct xs)))
insert_if ks xs x true e h =
    h ks ∙ ap (λ l. ks ++ l) (sym (filter-filter (out ks) (λ o. not (pointwise nat_eq o x)) (out ks) (λ o. apart_if x o ks (pointwise nat_eq o x) refl e) (distinct xs)))
insert_if ks xs x false e h =
    h (ks ++ (x ∷ [])) ∙ append_assoc ks (x ∷ []) _
    ∙ ap (λ l. ks ++ (x ∷ l)) (sym (filter-filter (out ks) (λ o. not (pointwise nat_eq o x)) (out (ks ++ (x ∷ []))) (λ o. out_more x o ks) (distinct xs)))

pub inserted : (xs ks : List (List ℕ)) → insert_all (pointwise nat_eq) ks xs ≡ ks ++ filter (out ks) (distinct xs)
unfolding distinct
inserted [] ks = sym (append-nil ks)
inserted (x ∷ xs) ks = insert_if ks xs x (list_any (pointwise nat_eq x) ks) refl (inserted xs)

filter_all : {X : Type 0} (p : X → Bool) → ((x : X) → p x ≡ true) → (xs : List X) → filter p xs ≡ xs
filter_all p h [] = refl
filter_all p h (x ∷ xs) = rw (h x) (ap (λ l. x ∷ l) (filter_all p h xs))

-- a set into which names are inserted in turn has each once
pub distinct-inserted : (names : List (List ℕ)) → insert_all (pointwise nat_eq) [] names ≡ distinct names
distinct-inserted names = inserted names [] ∙ filter_all (out []) (λ x. refl) (distinct names)

inserted_push : (ks xs : List (List ℕ)) (x : List ℕ) → insert_all (pointwise nat_eq) ks (xs ++ (x ∷ [])) ≡ insert_key (pointwise nat_eq) (insert_all (pointwise nat_eq) ks xs) x
inserted_push ks [] x = refl
inserted_push ks (y ∷ xs) x = inserted_push (insert_key (pointwise nat_eq) ks y) xs x

-- one more name
pub distinct-push : (names : List (List ℕ)) (name : List ℕ) → distinct (names ++ (name ∷ [])) ≡ insert_key (pointwise nat_eq) (distinct names) name
distinct-push names name =
    sym (distinct-inserted (names ++ (name ∷ []))) ∙ inserted_push [] names name ∙ ap (λ l. insert_key (pointwise nat_eq) l name) (distinct-inserted names)

-- columns that are put one after the other
pub sees-none : (a : NewColumns) → SeesNames a a []
sees-none a = λ key names h. rw append-nil h

pub sees-then : (a b e : NewColumns) (xs ys : List (List ℕ)) → SeesNames a b xs → SeesNames b e ys → SeesNames a e (xs ++ ys)
sees-then a b e xs ys f g = λ key names h. rw (← append_assoc names xs ys) (g key (names ++ xs) (f key names h))

-- the next name of a header, and then those that are left
pub name-then : (a b e : NewColumns) (left : List (List ℕ)) (name : List ℕ) (rest : List (List ℕ)) → left ≡ name ∷ rest
    → SeesNames a b (name ∷ []) → SeesNames b e rest → SeesNames a e left
name-then a b e left name rest is f g = rw is (sees-then a b e (name ∷ []) rest f g)

pub no-name-left : (a : NewColumns) (left : List (List ℕ)) → left ≡ [] → SeesNames a a left
no-name-left a left is = rw is (sees-none a)

pub not-false : (b : Bool) → not b ≡ false → b ≡ true
not-false true e = refl
not-false false e = absurd (cc e)

-- a name that is new, and one that is not
module _ (old new : NewColumns) (name : List ℕ) (key names : List (List ℕ)) (h : HasSeen key names old)
    (is : names_in new.seen ≡ insert_key (pointwise nat_eq) (names_in old.seen) name) where
  seen_of : names_in new.seen ≡ distinct (names ++ (name ∷ []))
  seen_of = is ∙ ap (λ l. insert_key (pointwise nat_eq) l name) h.seen ∙ sym (distinct-push names name)

  pub column-new : names_in new.seen ≡ names_in old.seen ++ (name ∷ []) → PutsColumn old.columns new.columns name → HasSeen key (names ++ (name ∷ [])) new
  column-new behind puts =
      let all : distinct (names ++ (name ∷ [])) ≡ distinct names ++ (name ∷ []) = sym seen_of ∙ behind ∙ ap (λ l. l ++ (name ∷ [])) h.seen in
      record {
        seen = seen_of;
        columns = record {
          key = puts.key ∙ h.columns.key;
          rest = puts.rest ∙ ap₂ (λ k l. l ++ filter (is_beside k) (name ∷ [])) h.columns.key h.columns.rest
              ∙ sym (ap (filter (is_beside key)) all ∙ filter-append (is_beside key) (distinct names) (name ∷ []));
          order = puts.order ∙ ap₂ (λ k l. l ++ (place_under_key k name ∷ [])) h.columns.key h.columns.order
              ∙ sym (ap (map (place_under_key key)) all ∙ map-append (place_under_key key) (distinct names) (name ∷ []));
        };
      }

  pub column-seen : not (list_any (pointwise nat_eq name) (names_in old.seen)) ≡ false → new.columns ≡ old.columns → HasSeen key (names ++ (name ∷ [])) new
  column-seen among same =
      let found : list_any (pointwise nat_eq name) (distinct names) ≡ true = ap (list_any (pointwise nat_eq name)) (sym h.seen) ∙ not-false _ among in
      let all : distinct (names ++ (name ∷ [])) ≡ distinct names = distinct-push names name ∙ ap (λ b. cond b (distinct names) (distinct names ++ (name ∷ []))) found in
      record {
        seen = seen_of;
        columns = subst (λ l. HaveNames key l new.columns) (sym all) (subst (λ made. HaveNames key (distinct names) made) (sym same) h.columns);
      }

-- the names of one more header
pub names-more : (headers : List (Bor (List (List ℕ)))) (i : ℕ) (header : Bor (List (List ℕ))) → take (i + 1) headers ≡ take i headers ++ (header ∷ [])
    → all_names (map (λ h. h.now) (take (i + 1) headers)) ≡ all_names (map (λ h. h.now) (take i headers)) ++ header.now
names-more headers i header is =
    let now : Bor (List (List ℕ)) → List (List ℕ) = λ h. h.now in
    ap (λ l. all_names (map now l)) is ∙ ap all_names (map-append now (take i headers) (header ∷ []))
    ∙ flat_map-append (λ names. names) (map now (take i headers)) (header.now ∷ []) ∙ ap (λ l. all_names (map now (take i headers)) ++ l) (append-nil header.now)

pub header-then : (key : List (List ℕ)) (headers : List (Bor (List (List ℕ)))) (i : ℕ) (header : Bor (List (List ℕ))) (a b : NewColumns)
    → take (i + 1) headers ≡ take i headers ++ (header ∷ []) → HasSeen key (all_names (map (λ h. h.now) (take i headers))) a → SeesNames a b header.now
    → HasSeen key (all_names (map (λ h. h.now) (take (i + 1) headers))) b
header-then key headers i header a b is h f =
    subst (λ l. HasSeen key l b) (sym (names-more headers i header is)) (f key (all_names (map (λ h. h.now) (take i headers))) h)

-- the first name of headers
module _ (headers : List (Bor (List (List ℕ)))) (i : ℕ) (header : Bor (List (List ℕ))) (all : List (List ℕ))
    (at : drop i headers ≡ header ∷ drop (i + 1) headers) (left : all_names (map (λ h. h.now) (drop i headers)) ≡ all) where
  left_is : all ≡ header.now ++ all_names (map (λ h. h.now) (drop (i + 1) headers))
  left_is = sym left ∙ ap (λ l. all_names (map (λ (h : Bor (List (List ℕ))). h.now) l)) at

  take_first : (names rest : List (List ℕ)) (name : List ℕ) → slice_get names 0 ≡ Some name → take 1 (names ++ rest) ≡ name ∷ []
  take_first [] rest name e = absurd (cc e)
  take_first (x ∷ names) rest name e = let same : x ≡ name = cc e in ap (λ n. n ∷ []) same

  pub first-there : (key : List (List ℕ)) (name : List ℕ) → slice_get header.now 0 ≡ Some name → key ≡ name ∷ [] → key ≡ take 1 all
  first-there key name there is = is ∙ sym (ap (take 1) left_is ∙ take_first header.now _ name there)

  no_first : (names : List (List ℕ)) → slice_get names 0 ≡ None → names ≡ []
  no_first [] e = refl
  no_first (x ∷ names) e = absurd (cc e)

  pub first-later : slice_get header.now 0 ≡ None → all_names (map (λ h. h.now) (drop (i + 1) headers)) ≡ all
  first-later none = sym (left_is ∙ ap (λ names. names ++ all_names (map (λ h. h.now) (drop (i + 1) headers))) (no_first header.now none))

-- one more place of a key
pub key-more : (k : ℕ) → key_first (k + 1) 0 ≡ key_first k 0 ++ (at.Key k ∷ [])
key-more k = let same : 0 + k ≡ k = omega arith in append-nil _ ∙ map-range_with_len_more at.Key 0 k k same ∙ ap (λ l. l ++ (at.Key k ∷ [])) (sym (append-nil _))

-- names of which none is put twice
pub once-none : (new : NewNames) → new.names ≡ [] → names_in new.seen ≡ [] → HasOnce new
unfolding distinct
once-none new names seen = record { seen = seen ∙ sym names; once = ap distinct names ∙ sym names }

pub once-more : (old new : NewNames) (name : List ℕ) → HasOnce old → names_in new.seen ≡ insert_key (pointwise nat_eq) (names_in old.seen) name
    → names_in new.seen ≡ names_in old.seen ++ (name ∷ []) → new.names ≡ old.names ++ (name ∷ []) → HasOnce new
once-more old new name h is behind put =
    let seen : names_in new.seen ≡ new.names = behind ∙ ap (λ l. l ++ (name ∷ [])) h.seen ∙ sym put in
    record {
      seen = seen;
      once = ap distinct put ∙ distinct-push old.names name ∙ ap (λ l. insert_key (pointwise nat_eq) l name) (h.once ∙ sym h.seen) ∙ sym is ∙ seen;
    }

pub given-one : (first others : List (List ℕ)) (name : List ℕ) → first ≡ name ∷ [] → others ≡ name ∷ [] → GivesNames name (name, name) → AreNamesOf (name ∷ []) first others
unfolding distinct
given-one first others name e f gives = record {
  given = record { names = (name, name) ∷ []; given = (gives, tt); are_first = e; are_others = f };
  first_once = ap distinct e ∙ sym e;
  others_once = ap distinct f ∙ sym f;
}

-- names that are found at once are those that were put there
pub has-same : (names others : List (List ℕ)) → names ≡ insert_all (pointwise nat_eq) [] others → (name : List ℕ) → has_name names name ≡ has_name others name
has-same names others is name = ap (list_any (pointwise nat_eq name)) is ∙ in_all name others

pub has-each : (names others : List (List ℕ)) → names ≡ insert_all (pointwise nat_eq) [] others → (xs : List (List ℕ))
    → list_all (has_name names) xs ≡ list_all (has_name others) xs
has-each names others is [] = refl
has-each names others is (x ∷ xs) = ap₂ (λ a b. a && b) (has-same names others is x) (has-each names others is xs)

kept_same : (keeps : Bool) (names others : List (List ℕ)) → names ≡ insert_all (pointwise nat_eq) [] others → (name : List ℕ)
    → is_kept keeps names name ≡ is_kept keeps others name
kept_same true names others is name = has-same names others is name
kept_same false names others is name = ap not (has-same names others is name)

pub kept-same : (keeps : Bool) (names others : List (List ℕ)) → names ≡ insert_all (pointwise nat_eq) [] others → (xs : List (List ℕ))
    → filter (is_kept keeps names) xs ≡ filter (is_kept keeps others) xs
kept-same keeps names others is xs = filter_agree (is_kept keeps names) (is_kept keeps others) (kept_same keeps names others is) xs

pub inserted-append : (xs ys ks : List (List ℕ)) → insert_all (pointwise nat_eq) ks (xs ++ ys) ≡ insert_all (pointwise nat_eq) (insert_all (pointwise nat_eq) ks xs) ys
inserted-append [] ys ks = refl
inserted-append (x ∷ xs) ys ks = inserted-append xs ys (insert_key (pointwise nat_eq) ks x)

-- columns under no key
pub beside-none : (key names : List (List ℕ)) → key ≡ [] → filter (is_beside key) names ≡ names
beside-none key names is = ap (λ k. filter (is_beside k) names) is ∙ filter_all (is_beside []) (λ name. refl) names

-- marks by names that are found at once
map_agree : {X Y : Type 0} (f g : X → Y) → ((x : X) → f x ≡ g x) → (xs : List X) → map f xs ≡ map g xs
map_agree f g h [] = refl
map_agree f g h (x ∷ xs) = ap₂ (λ y ys. y ∷ ys) (h x) (map_agree f g h xs)

pub marked-same : (before after old new : List (List ℕ)) → before ≡ insert_all (pointwise nat_eq) [] old → after ≡ insert_all (pointwise nat_eq) [] new
    → (names : List (List ℕ)) → map (marked_between before after) names ≡ map (marked_between old new) names
marked-same before after old new b a names =
    map_agree (marked_between before after) (marked_between old new)
    (λ name. rw (has-same before old b name, has-same after new a name) refl) names

-- names of two versions, found at once
pub staying-same : (before beside base next : List (List ℕ)) → before ≡ insert_all (pointwise nat_eq) [] base → beside ≡ insert_all (pointwise nat_eq) [] next
    → (xs : List (List ℕ)) → filter (stays_in before beside) xs ≡ filter (stays_in base next) xs
staying-same before beside base next b n xs =
    filter_agree (stays_in before beside) (stays_in base next) (λ name. ap₂ (λ p q. p || not q) (has-same beside next n name) (has-same before base b name)) xs

pub added-same : (before there base first : List (List ℕ)) → before ≡ insert_all (pointwise nat_eq) [] base → there ≡ insert_all (pointwise nat_eq) [] first
    → (xs : List (List ℕ)) → filter (comes_in before there) xs ≡ filter (comes_in base first) xs
added-same before there base first b f xs =
    filter_agree (comes_in before there) (comes_in base first) (λ name. ap₂ (λ p q. not p && not q) (has-same there first f name) (has-same before base b name)) xs

-- the last of two tests
pub led-if : (a b p q r : Bool) → a ≡ p → a ≡ false → b ≡ q → b ≡ false → b ≡ (p || (q && not r))
led-if a b p q r pa none qb not_same = let np : p ≡ false = sym pa ∙ none in let nq : q ≡ false = sym qb ∙ not_same in rw (np, nq) not_same

pub led-last : (a b c p q r : Bool) → a ≡ p → a ≡ false → b ≡ q → b ≡ true → c ≡ r → not c ≡ (p || (q && not r))
led-last a b c p q r pa none qb same rc = let np : p ≡ false = sym pa ∙ none in let yq : q ≡ true = sym qb ∙ same in rw (np, yq) (ap not rc)
