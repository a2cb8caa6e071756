-- The names of a header, one after the other.
use Rattle.std.proofs.Common.{◌≡◌, ◌∙◌, ◌+◌, ◌-◌, ◌<◌, ◌≤◌, ℕ, List, [], ◌∷◌, ◌++◌, Bool, true, false, arith, drop, take, length, length-drop, get_or, nat_eq, refl, sym, ap, ap₂, zero, suc}
use Rattle.std.specs.Prelude.{◌||◌, Err, IfOk, Ok, Result, unwrap_or}
use Rattle.std.specs.Cmp.Lexicographic.{pointwise}
use Rattle.std.specs.List.{flat_map, list_any}
use Rattle.std.proofs.lemmas.List.{append-nil, drop_more, get_or-drop, get_or-map, length-map, take_more}
use Rattle.std.proofs.lemmas.Grind.{flat_map-append}
use Rattle.csv.specs.Records.{field_at}
use Rattle.keyed_columns.specs.Going.{GoneSaid, coming_behind, going_behind, name_if_comes, name_if_goes, names_coming, names_going, with_coming, with_going}
use Rattle.keyed_columns.specs.Headers.{HeaderOf, NamesOf, cells_before, name_in, names_behind, names_said}
use Rattle.keyed_columns.specs.Names.{repeats}
use Rattle.keyed_columns.specs.Spelled.{SpelledFirst}
use Rattle.keyed_columns.specs.declared.fate.Fate.{Fate}
use Rattle.keyed_columns.specs.declared.fate.Fate.TheVariants as fate
use Rattle.keyed_columns.specs.declared.content.Content.{Content}
use Rattle.keyed_columns.specs.declared.content.Content.TheVariants as content

or-first : (a b : Bool) → (a || b) ≡ false → a ≡ false
or-first true b e = e
or-first false b e = refl

or-second : (a b : Bool) → (a || b) ≡ false → b ≡ false
or-second true b e = absurd (cc e)
or-second false b e = e

-- the next name is new, and no later one repeats it
pub name-is-new : (fields : List (List ℕ)) (i : ℕ) → i < length fields → repeats (take i fields) (drop i fields) ≡ false
    → list_any (pointwise nat_eq (get_or fields i [])) (take i fields) ≡ false
unfolding repeats
name-is-new fields i lt h = or-first _ _ (rw (drop_more fields i [] lt) at h)

pub names-behind : (fields : List (List ℕ)) (i : ℕ) → i < length fields → repeats (take i fields) (drop i fields) ≡ false
    → repeats (take (i + 1) fields) (drop (i + 1) fields) ≡ false
unfolding repeats
names-behind fields i lt h = rw (take_more fields i [] lt) (or-second _ _ (rw (drop_more fields i [] lt) at h))

pub field-is : (fields : List (List ℕ)) (i : ℕ) → unwrap_or (field_at fields i) [] ≡ get_or fields i []
unfolding field_at
field-is [] i = refl
field-is (x ∷ xs) zero = refl
field-is (x ∷ xs) (suc i) = field-is xs i

-- the name at a place of a record that has so many cells before its names
pub name-here : (before place : ℕ) (fields : List (List ℕ)) (name : List ℕ) → before ≤ place → place < length fields
    → name ≡ name_in before (unwrap_or (field_at fields place) []) → name ≡ get_or (names_behind before fields) (place - before) []
name-here before place fields name le lt is =
    let inside : place - before < length (drop before fields) = omega (arith, length-drop before fields, le, lt) in
    let whole : before + (place - before) ≡ place = omega (arith, le) in
    is ∙ ap (name_in before) (field-is fields place ∙ ap (λ i. get_or fields i []) (sym whole) ∙ sym (get_or-drop before fields (place - before) []))
    ∙ sym (get_or-map (name_in before) (drop before fields) (place - before) [] [] inside)

pub place-behind : (before place : ℕ) (fields : List (List ℕ)) → before ≤ place → place < length fields → place - before < length (names_behind before fields)
place-behind before place fields le lt = omega (arith, length-map (drop before fields) (name_in before), length-drop before fields, le, lt)

-- no name is put yet
pub names-none : (names : List (List ℕ)) (i : ℕ) (found : List (List ℕ)) → i ≡ 0 → found ≡ [] → repeats [] names ≡ false
    → (found ≡ take i names) × (repeats (take i names) (drop i names) ≡ false)
names-none names i found none is once = rw none (is, once)

-- a name is put after those before it
pub one-more : (names : List (List ℕ)) (i j : ℕ) (old new : List (List ℕ)) (name : List ℕ) → i < length names → j ≡ i + 1 → name ≡ get_or names i []
    → (list_any (pointwise nat_eq name) old ≡ false → new ≡ old ++ (name ∷ [])) → old ≡ take i names → repeats (take i names) (drop i names) ≡ false
    → (new ≡ take j names) × (repeats (take j names) (drop j names) ≡ false)
one-more names i j old new name lt next is puts before h =
    let fresh : list_any (pointwise nat_eq name) old ≡ false = rw (is, before) (name-is-new names i lt h) in
    rw next (puts fresh ∙ rw (is, before) (sym (take_more names i [] lt)), names-behind names i lt h)

-- names that are put as they stand: none yet, and one more
pub names-from : (names : List (List ℕ)) (i : ℕ) (put : List (List ℕ)) → i ≡ 0 → put ≡ [] → put ≡ take i names
names-from names i put none is = rw none is

pub put-name : (names : List (List ℕ)) (i j : ℕ) (old new : List (List ℕ)) (name : List ℕ) → i < length names → j ≡ i + 1 → name ≡ get_or names i []
    → new ≡ old ++ (name ∷ []) → old ≡ take i names → new ≡ take j names
put-name names i j old new name lt next is puts before = puts ∙ rw (next, is, before) (sym (take_more names i [] lt))

-- no name of a record is marked where no cell stands before the names
pub names-plain : (fields : List (List ℕ)) → names_behind 0 fields ≡ fields
names-plain [] = refl
names-plain (name ∷ fields) = ap (λ names. name ∷ names) (names-plain fields)

-- the names that are read of a record are those that it says
pub names-said : (kind : Content) (before : ℕ) (fields names : List (List ℕ)) → before ≡ cells_before kind
    → (repeats [] (names_behind before fields) ≡ false → names ≡ names_behind before fields) → NamesOf kind fields names
names-said content.Rows before fields names is read = λ once. (read (rw (is, names-plain fields) once)) ∙ rw (is, names-plain fields) refl
names-said content.Changes before fields names is read = λ once. (read (rw is once)) ∙ rw is refl

pub header-read : (kind : Content) (has_header has_first : Bool) (fields names : List (List ℕ)) → has_first ≡ true → has_header ≡ true
    → NamesOf kind fields names → HeaderOf has_header kind has_first fields names
header-read kind has_header false fields names e h said = absurd (cc e)
header-read kind false true fields names e h said = absurd (cc h)
header-read kind true true fields names e h said = said

-- the names that a header spells are those that the record says
names-spelled : (kind : Content) (before : ℕ) (fields spelled : List (List ℕ)) → before ≡ cells_before kind → spelled ≡ names_behind before fields
    → spelled ≡ names_said kind fields
names-spelled content.Rows before fields spelled is read = read ∙ ap (λ n. names_behind n fields) is ∙ names-plain fields
names-spelled content.Changes before fields spelled is read = read ∙ ap (λ n. names_behind n fields) is

pub spelled-read : (kind : Content) (has_header has_first : Bool) (before : ℕ) (fields spelled : List (List ℕ)) → has_first ≡ true → has_header ≡ true
    → before ≡ cells_before kind → spelled ≡ names_behind before fields → SpelledFirst has_header has_first kind fields spelled
spelled-read kind has_header false before fields spelled e h is read = absurd (cc e)
spelled-read kind false true before fields spelled e h is read = absurd (cc h)
spelled-read kind true true before fields spelled e h is read = names-spelled kind before fields spelled is read

-- the names of the columns that go, one after the other
with-going : (f : Fate) (name : List ℕ) (gone : List (List ℕ)) → with_going f name gone ≡ gone ++ name_if_goes f name
with-going fate.Goes name gone = refl
with-going fate.Comes name gone = sym (append-nil gone)
with-going fate.Stays name gone = sym (append-nil gone)

-- what is kept of one more cell stands after what is kept of those before it
one-kept : (step : List ℕ → List (List ℕ)) (before place next : ℕ) (fields old new : List (List ℕ)) (cell : List ℕ) → before ≤ place → place < length fields
    → next ≡ (place - before) + 1 → cell ≡ unwrap_or (field_at fields place) [] → new ≡ old ++ step cell
    → old ≡ flat_map step (take (place - before) (drop before fields)) → new ≡ flat_map step (take next (drop before fields))
one-kept step before place next fields old new cell le lt after is puts h =
    let inside : place - before < length (drop before fields) = omega (arith, length-drop before fields, le, lt) in
    let whole : before + (place - before) ≡ place = omega (arith, le) in
    let here : cell ≡ get_or (drop before fields) (place - before) [] =
    is ∙ field-is fields place ∙ ap (λ i. get_or fields i []) (sym whole) ∙ sym (get_or-drop before fields (place - before) []) in
    puts ∙ ap₂ (λ a b. a ++ b) h (ap step here ∙ sym (append-nil (step (get_or (drop before fields) (place - before) []))))
    ∙ sym (flat_map-append step (take (place - before) (drop before fields)) (get_or (drop before fields) (place - before) [] ∷ []))
    ∙ ap (flat_map step) (sym (take_more (drop before fields) (place - before) [] inside)) ∙ ap (λ i. flat_map step (take i (drop before fields))) (sym after)

pub none-gone : (before i : ℕ) (fields gone : List (List ℕ)) → i ≡ 0 → gone ≡ [] → gone ≡ flat_map (going_behind before) (take i (drop before fields))
none-gone before i fields gone none is = rw none is

pub one-goes : (before place next : ℕ) (fields old put new : List (List ℕ)) (f : Fate) (name cell : List ℕ) → before ≤ place → place < length fields
    → next ≡ (place - before) + 1 → cell ≡ unwrap_or (field_at fields place) [] → name_if_goes f name ≡ going_behind before cell → put ≡ old → new ≡ with_going f name put
    → old ≡ flat_map (going_behind before) (take (place - before) (drop before fields)) → new ≡ flat_map (going_behind before) (take next (drop before fields))
one-goes before place next fields old put new f name cell le lt after is goes same puts h =
    one-kept (going_behind before) before place next fields old new cell le lt after is
    (puts ∙ with-going f name put ∙ ap₂ (λ a b. a ++ b) same goes) h

-- and of those that come
with-coming : (f : Fate) (name : List ℕ) (came : List (List ℕ)) → with_coming f name came ≡ came ++ name_if_comes f name
with-coming fate.Goes name came = sym (append-nil came)
with-coming fate.Comes name came = refl
with-coming fate.Stays name came = sym (append-nil came)

pub none-came : (before i : ℕ) (fields came : List (List ℕ)) → i ≡ 0 → came ≡ [] → came ≡ flat_map (coming_behind before) (take i (drop before fields))
none-came before i fields came none is = rw none is

pub one-comes : (before place next : ℕ) (fields old put new : List (List ℕ)) (f : Fate) (name cell : List ℕ) → before ≤ place → place < length fields
    → next ≡ (place - before) + 1 → cell ≡ unwrap_or (field_at fields place) [] → name_if_comes f name ≡ coming_behind before cell → put ≡ old → new ≡ with_coming f name put
    → old ≡ flat_map (coming_behind before) (take (place - before) (drop before fields)) → new ≡ flat_map (coming_behind before) (take next (drop before fields))
one-comes before place next fields old put new f name cell le lt after is comes same puts h =
    one-kept (coming_behind before) before place next fields old new cell le lt after is
    (puts ∙ with-coming f name put ∙ ap₂ (λ a b. a ++ b) same comes) h

-- what follows of two facts of what is there, if it is
pub if-both : {X E : Type 0} (r : Result X E) (P Q S : X → Type 0) → ((x : X) → P x → Q x → S x) → IfOk r P → IfOk r Q → IfOk r S
if-both (Ok x) P Q S f p q = f x p q
if-both (Err e) P Q S f p q = tt

pub gone-read : (has_first has_header : Bool) (fields gone came : List (List ℕ)) → has_first ≡ true → has_header ≡ true → gone ≡ names_going 1 fields
    → came ≡ names_coming 1 fields → GoneSaid has_first has_header fields gone came
gone-read false has_header fields gone came e h goes comes = absurd (cc e)
gone-read true false fields gone came e h goes comes = absurd (cc h)
gone-read true true fields gone came e h goes comes = (goes, comes)
