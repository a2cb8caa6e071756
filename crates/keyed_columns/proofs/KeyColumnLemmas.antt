-- Which names stand among others more than once, and what is told of the names of a key.
use Rattle.std.proofs.Common.{◌≡◌, ◌∙◌, ◌⊎◌, ◌+◌, ◌<◌, inl, inr, ℕ, Bool, true, false, List, [], ◌∷◌, ◌++◌, ap, ap₂, filter, get_or, length, map, nat_eq, refl, sym, take, zip}
use Rattle.std.specs.Prelude.{◌&&◌, ◌||◌, not}
use Rattle.std.specs.Cmp.Lexicographic.{nat_list_eq_equiv, pointwise}
use Rattle.std.proofs.lemmas.List.{append-nil, take_more}
use Rattle.std.proofs.lemmas.List.Folds.{list_any-append}
use Rattle.std.proofs.lemmas.Map.Steps.{list_any_congr}
use Rattle.indexmap.specs.IndexSet.{insert_key}
use Rattle.keyed_columns.specs.ColumnNames.{has_name}
use Rattle.keyed_columns.specs.KeyColumns.{TellsNames, with_two_names}
use Rattle.keyed_columns.specs.Names.{names_in}
use Rattle.keyed_columns.specs.Repeated.{AreRepeated, stands_twice}
use Rattle.keyed_columns.proofs.NameLemmas.{one_in}
use Rattle.keyed_columns.specs.declared.header.There.{There}

or_false : (a : Bool) → (a || false) ≡ a
or_false true = refl
or_false false = refl

-- a name is among others and one more where it is among them, or is that one
pub one-more-name : (names : List (List ℕ)) (x name : List ℕ) → has_name (names ++ x ∷ []) name ≡ (has_name names name || pointwise nat_eq name x)
one-more-name names x name =
    list_any-append (pointwise nat_eq name) names (x ∷ []) ∙ ap (λ b. has_name names name || b) (or_false (pointwise nat_eq name x))

one-put : (names put : List (List ℕ)) (x name : List ℕ) → put ≡ insert_key (pointwise nat_eq) names x → has_name put name ≡ (has_name names name || pointwise nat_eq name x)
one-put names put x name is =
    ap (λ l. has_name l name) is ∙ one_in (pointwise nat_eq) nat_list_eq_equiv name x names (has_name names x) (pointwise nat_eq name x) refl refl

and_false : (a : Bool) → (a && false) ≡ false
and_false true = refl
and_false false = refl

step : (a b c s : Bool) → ((a && (b || c)) || (s || (b && c))) ≡ (((a && b) || s) || ((a || b) && c))
step true true true true = refl
step true true true false = refl
step true true false true = refl
step true true false false = refl
step true false true true = refl
step true false true false = refl
step true false false true = refl
step true false false false = refl
step false true true true = refl
step false true true false = refl
step false true false true = refl
step false true false false = refl
step false false true true = refl
step false false true false = refl
step false false false true = refl
step false false false false = refl

-- a name stands among others and one more twice where it does among them, or is among them and is that one
pub twice-more : (names : List (List ℕ)) (x name : List ℕ) → stands_twice (names ++ x ∷ []) name ≡ (stands_twice names name || (has_name names name && pointwise nat_eq name x))
unfolding stands_twice
twice-more [] x name = or_false (pointwise nat_eq name x && false) ∙ and_false (pointwise nat_eq name x)
twice-more (other ∷ names) x name =
    ap₂ (λ a b. (pointwise nat_eq name other && a) || b) (one-more-name names x name) (twice-more names x name)
    ∙ step (pointwise nat_eq name other) (has_name names name) (pointwise nat_eq name x) (stands_twice names name)

-- a name that is equal to one that is among others or not is so itself
same-if : (names : List (List ℕ)) (x name : List ℕ) (e b : Bool) → pointwise nat_eq name x ≡ e → has_name names x ≡ b → (has_name names name && e) ≡ (b && e)
same-if names x name true b e h = ap (λ a. a && true) (list_any_congr nat_list_eq_equiv name x names e ∙ h)
same-if names x name false b e h = and_false (has_name names name) ∙ sym (and_false b)

-- no name is put yet
pub none-told : (there : There) → names_in there.each ≡ [] → names_in there.repeated ≡ [] → TellsNames [] there
unfolding stands_twice
none-told there each repeated = record {
  each = λ name. ap (λ l. has_name l name) each;
  repeated = λ name. ap (λ l. has_name l name) repeated;
}

-- a name that was not there before is put after the others
pub new-told : (names : List (List ℕ)) (x : List ℕ) (old new : There) → TellsNames names old → names_in new.each ≡ insert_key (pointwise nat_eq) (names_in old.each) x
    → new.repeated ≡ old.repeated → has_name (names_in old.each) x ≡ false → TellsNames (names ++ x ∷ []) new
new-told names x old new told each same fresh = record {
  each = λ name. one-put (names_in old.each) (names_in new.each) x name each ∙ ap (λ b. b || pointwise nat_eq name x) (told.each name) ∙ sym (one-more-name names x name);
  repeated = λ name.
      let none : (has_name names name && pointwise nat_eq name x) ≡ false = same-if names x name (pointwise nat_eq name x) false refl (sym (told.each x) ∙ fresh) in
      ap (λ r. has_name (names_in r) name) same ∙ told.repeated name ∙ sym (or_false (stands_twice names name))
      ∙ ap (λ b. stands_twice names name || b) (sym none) ∙ sym (twice-more names x name);
}

-- one that was there is noted as one that stands there more than once
pub again-told : (names : List (List ℕ)) (x : List ℕ) (old new : There) → TellsNames names old → names_in new.each ≡ insert_key (pointwise nat_eq) (names_in old.each) x
    → names_in new.repeated ≡ insert_key (pointwise nat_eq) (names_in old.repeated) x → has_name (names_in old.each) x ≡ true → TellsNames (names ++ x ∷ []) new
again-told names x old new told each repeated there = record {
  each = λ name. one-put (names_in old.each) (names_in new.each) x name each ∙ ap (λ b. b || pointwise nat_eq name x) (told.each name) ∙ sym (one-more-name names x name);
  repeated = λ name.
      let again : (has_name names name && pointwise nat_eq name x) ≡ pointwise nat_eq name x = same-if names x name (pointwise nat_eq name x) true refl (sym (told.each x) ∙ there) in
      one-put (names_in old.repeated) (names_in new.repeated) x name repeated ∙ ap (λ b. b || pointwise nat_eq name x) (told.repeated name)
      ∙ ap (λ b. stands_twice names name || b) (sym again) ∙ sym (twice-more names x name);
}

or_true : (a : Bool) → (a || true) ≡ true
or_true true = refl
or_true false = refl

list-same : (name : List ℕ) → pointwise nat_eq name name ≡ true
list-same name = nat_list_eq_equiv.refl name

-- a name that is among others stands twice where it comes once more
pub twice-among : (before behind : List (List ℕ)) (name : List ℕ) → has_name before name ≡ true → stands_twice (before ++ name ∷ behind) name ≡ true
unfolding stands_twice
twice-among [] behind name there = absurd (cc there)
twice-among (other ∷ before) behind name there =
    twice-if other before behind name (λ more. twice-among before behind name more) (pointwise nat_eq name other) refl there where
      twice-if : (other : List ℕ) (before behind : List (List ℕ)) (name : List ℕ)
          → (has_name before name ≡ true → stands_twice (before ++ name ∷ behind) name ≡ true) → (b : Bool) → pointwise nat_eq name other ≡ b
          → (b || has_name before name) ≡ true → ((b && has_name (before ++ name ∷ behind) name) || stands_twice (before ++ name ∷ behind) name) ≡ true
      twice-if other before behind name later true e there =
          ap (λ b. b || stands_twice (before ++ name ∷ behind) name)
          (list_any-append (pointwise nat_eq name) before (name ∷ behind) ∙ ap (λ b. has_name before name || (b || has_name behind name)) (list-same name) ∙ or_true (has_name before name))
      twice-if other before behind name later false e there = later there

-- whether a name is new says whether it was there
pub is-true : (is_new there : Bool) → is_new ≡ not there → is_new ≡ false → there ≡ true
is-true is_new true is e = refl
is-true is_new false is e = absurd (cc (sym is ∙ e))

pub is-false : (is_new there : Bool) → is_new ≡ not there → is_new ≡ true → there ≡ false
is-false is_new true is e = absurd (cc (sym is ∙ e))
is-false is_new false is e = refl

pub none-names : (names repeated : List (List ℕ)) → names ≡ [] → repeated ≡ [] → AreRepeated names repeated
unfolding stands_twice
none-names names repeated is none = λ name. ap (λ l. has_name l name) none ∙ ap (λ l. stands_twice l name) (sym is)

-- no name is left of which columns have two
pub none-of-two : (names first others all : List (List ℕ)) → names ++ with_two_names first others ≡ all → zip first others ≡ [] → names ≡ all
none-of-two names first others all so none = sym (append-nil names) ∙ ap (λ l. names ++ map (λ pair. pair.0) (filter (λ pair. not (pointwise nat_eq pair.0 pair.1)) l)) (sym none) ∙ so

-- the next name is put after those before it
pub next-told : (names : List (List ℕ)) (i j : ℕ) (name : List ℕ) (there : There) → i < length names → j ≡ i + 1 → name ≡ get_or names i []
    → TellsNames (take i names ++ name ∷ []) there → TellsNames (take j names) there
next-told names i j name there lt next is told = rw (next, take_more names i [] lt) (rw is at told)

-- two lists of which one is empty have no pair
zip-none : (xs : List (List ℕ)) → zip {X = List ℕ} xs [] ≡ []
zip-none [] = refl
zip-none (x ∷ xs) = refl

pub ended-zip : (first others : List (List ℕ)) → ((x : List (List ℕ)) × ((first ≡ []) × (x ≡ []))) ⊎ ((x : List (List ℕ)) × ((others ≡ []) × (x ≡ [])))
    → zip first others ≡ []
ended-zip first others (inl left) = ap (λ l. zip l others) left.1.0
ended-zip first others (inr right) = ap (zip first) right.1.0 ∙ zip-none first
