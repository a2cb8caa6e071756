-- The columns of changes, and the names in their header: rows that are placed under them and picked again.
use Rattle.std.proofs.Common.{◌≡◌, ◌∙◌, ◌+◌, ℕ, suc, zero, Bool, true, false, List, [], ◌∷◌, ◌++◌, None, Option, Some, arith, filter, get_or, length, map, nat_eq, ne_eqb, refl, sym, ap, ap₂, subst, take, true≢false}
use Rattle.std.specs.Prelude.{◌==◌, ◌&&◌, ◌||◌, is_none, not, option_map, unwrap_or, if◌then◌else◌}
use Rattle.std.specs.Cmp.Lexicographic.{bytes_decides, nat_list_eq_equiv, pointwise}
use Rattle.std.specs.List.{flat_map, AllByRecursion, IsDistinct, list_all, list_any}
use Rattle.std.proofs.lemmas.List.{append-nil, get_or-map}
use Rattle.std.proofs.lemmas.List.Elements.{filter-append}
use Rattle.std.proofs.lemmas.List.Folds.{list_any-append}
use Rattle.std.proofs.lemmas.List.Quantifiers.{position-Some}
use Rattle.csv.specs.Records.{field_at}
use Rattle.indexmap.specs.IndexSet.{insert_all}
use Rattle.keyed_columns.specs.ChangedColumns.{begins_marked, changed_names, fate_between, marked_between, marked_name, marked_names}
use Rattle.keyed_columns.specs.ColumnNames.{AreColumns, WriteNames, column_names, distinct, has_name, is_beside, or_header, place_under_key}
use Rattle.keyed_columns.specs.Going.{going, name_if_goes}
use Rattle.keyed_columns.specs.Headers.{unmarked}
use Rattle.keyed_columns.specs.Names.{place_in, repeats}
use Rattle.keyed_columns.specs.CellsUnder.{cell_at, cell_under, row_under}
use Rattle.keyed_columns.specs.Placed.{placed}
use Rattle.keyed_columns.specs.declared.columns.Columns.{Columns}
use Rattle.keyed_columns.specs.declared.columns.Place.{Place}
use Rattle.keyed_columns.specs.declared.fate.Fate.{Fate}
use Rattle.keyed_columns.specs.declared.fate.Fate.TheVariants as fate
use Rattle.keyed_columns.specs.declared.content.Content.TheVariants.{Changes, Rows}
use Rattle.keyed_columns.proofs.ColumnLemmas.{distinct-inserted, inserted}
use Rattle.keyed_columns.proofs.LawLemmas.{distinct-once, has-kept, names-of, names-once}
use Rattle.keyed_columns.proofs.NameLemmas.{all_names as in_all, none_at}
use Rattle.keyed_jobs.specs.ChangesRead.{signed_under}
use Rattle.keyed_laws.proofs.ChangesBackLemmas.{ReadsBack}

-- a header that is marked says the names without their marks
unmarked_if : (name : List ℕ) (b : Bool) → begins_marked name ≡ b → unmarked (if b then 61 ∷ name else name) ≡ name
unmarked_if name true e = refl
unmarked_if [] false e = refl
unmarked_if (byte ∷ name) false e = rw e refl

unmarked_one : (f : Fate) (name : List ℕ) → unmarked (marked_name f name) ≡ name
unmarked_one fate.Goes name = refl
unmarked_one fate.Comes name = refl
unmarked_one fate.Stays name = unmarked_if name (begins_marked name) refl

unmarked_all : (old new names : List (List ℕ)) → map unmarked (map (marked_between old new) names) ≡ names
unmarked_all old new [] = refl
unmarked_all old new (name ∷ names) = ap₂ (λ n l. n ∷ l) (unmarked_one (fate_between old new name) name) (unmarked_all old new names)

pub names-unmarked : (old new : List (List ℕ)) → map unmarked (marked_names old new) ≡ column_names (new ∷ old ∷ [])
names-unmarked old new = unmarked_all (or_header old new) (or_header new old) (column_names (new ∷ old ∷ []))

-- names that are each once repeat none
abbrev OutOf : List (List ℕ) → List (List ℕ) → Type 0
OutOf before names = AllByRecursion (λ name. list_any (pointwise nat_eq name) before ≡ false) names

none_of : (a b c : Bool) → a ≡ false → b ≡ false → c ≡ b → (a || (c || false)) ≡ false
none_of a b c e f g = rw (e, g, f) refl

out_more : (before : List (List ℕ)) (name : List ℕ) (names : List (List ℕ)) → OutOf before names → AllByRecursion (λ other. pointwise nat_eq name other ≡ false) names
    → OutOf (before ++ (name ∷ [])) names
out_more before name [] h k = tt
out_more before name (x ∷ xs) h k = (
  list_any-append (pointwise nat_eq x) before (name ∷ []) ∙ none_of _ _ _ h.0 k.0 (nat_list_eq_equiv.symm x name),
  out_more before name xs h.1 k.1,
)

repeats_none : (before names : List (List ℕ)) → IsDistinct (pointwise nat_eq) names → OutOf before names → repeats before names ≡ false
unfolding repeats IsDistinct
repeats_none before [] d h = refl
repeats_none before (name ∷ names) d h = rw h.0 (repeats_none (before ++ (name ∷ [])) names d.1 (out_more before name names h.1 d.0))

out_of_none : (names : List (List ℕ)) → OutOf [] names
out_of_none [] = tt
out_of_none (name ∷ names) = (refl, out_of_none names)

-- the names of columns repeat none
pub columns-once : (key : List (List ℕ)) (headers : List (List (List ℕ))) (columns : Columns) → AreColumns key headers columns → repeats [] (column_names headers) ≡ false
columns-once key headers columns h =
    repeats_none [] (column_names headers) (subst (IsDistinct (pointwise nat_eq)) (names-of key headers columns h) (names-once key headers columns h).1) (out_of_none (column_names headers))

-- a name is among others
or_false : (a : Bool) → (a || false) ≡ a
or_false true = refl
or_false false = refl

pub or_second : (a b : Bool) → b ≡ true → (a || b) ≡ true
or_second true b e = refl
or_second false b e = e

or_first : (a b : Bool) → a ≡ true → (a || b) ≡ true
or_first a b e = rw e refl

or_cases : {G : Type 0} (a b : Bool) → (a || b) ≡ true → (a ≡ true → G) → (b ≡ true → G) → G
or_cases true b e f g = f refl
or_cases false b e f g = g e

and_both : (a b : Bool) → (a && b) ≡ true → (a ≡ true) × (b ≡ true)
and_both true b e = (refl, e)
and_both false b e = absurd (true≢false (sym e))

not_true : (b : Bool) → not b ≡ true → b ≡ false
not_true true e = absurd (true≢false (sym e))
not_true false e = refl

pub has-distinct : (name : List ℕ) (names : List (List ℕ)) → has_name (distinct names) name ≡ has_name names name
has-distinct name names = ap (list_any (pointwise nat_eq name)) (sym (distinct-inserted names)) ∙ in_all name names

has_append : (name : List ℕ) (xs ys : List (List ℕ)) → has_name (xs ++ ys) name ≡ (has_name xs name || has_name ys name)
has_append name xs ys = list_any-append (pointwise nat_eq name) xs ys

-- every name of one list is in another
abbrev pub Within : List (List ℕ) → List (List ℕ) → Type 0
Within xs ys = (name : List ℕ) → has_name xs name ≡ true → has_name ys name ≡ true

pub has_head : (x : List ℕ) (xs : List (List ℕ)) → has_name (x ∷ xs) x ≡ true
has_head x xs = or_first (pointwise nat_eq x x) (has_name xs x) (nat_list_eq_equiv.refl x)

within_tail : (x : List ℕ) (xs ys : List (List ℕ)) → Within (x ∷ xs) ys → Within xs ys
within_tail x xs ys h name e = h name (or_second (pointwise nat_eq name x) (has_name xs name) e)

pub names-each : (xs ys : List (List ℕ)) → Within xs ys → list_all (has_name ys) xs ≡ true
names-each [] ys h = refl
names-each (x ∷ xs) ys h = rw (h x (has_head x xs)) (names-each xs ys (within_tail x xs ys h))

pub columns-within : (new old : List (List ℕ)) → Within new (column_names (new ∷ old ∷ [])) × Within old (column_names (new ∷ old ∷ []))
columns-within new old = (
  λ name e. has-distinct name (new ++ (old ++ [])) ∙ has_append name new (old ++ []) ∙ or_first (has_name new name) (has_name (old ++ []) name) e,
  λ name e. has-distinct name (new ++ (old ++ [])) ∙ has_append name new (old ++ [])
      ∙ or_second (has_name new name) (has_name (old ++ []) name) (ap (λ l. has_name l name) (append-nil old) ∙ e),
)

-- those that others lack
abbrev without : List (List ℕ) → List (List ℕ) → List (List ℕ)
without xs ys = filter (λ name. not (has_name ys name)) xs

kept_none : (p : List ℕ → Bool) (xs : List (List ℕ)) → ((name : List ℕ) → has_name xs name ≡ true → p name ≡ false) → filter p xs ≡ []
kept_none p [] h = refl
kept_none p (x ∷ xs) h = rw (h x (has_head x xs)) (kept_none p xs (λ name e. h name (or_second (pointwise nat_eq name x) (has_name xs name) e)))

kept_all : (p : List ℕ → Bool) (xs : List (List ℕ)) → ((name : List ℕ) → has_name xs name ≡ true → p name ≡ true) → filter p xs ≡ xs
kept_all p [] h = refl
kept_all p (x ∷ xs) h = rw (h x (has_head x xs)) (ap (λ l. x ∷ l) (kept_all p xs (λ name e. h name (or_second (pointwise nat_eq name x) (has_name xs name) e))))

without_none : (xs ys : List (List ℕ)) → Within xs ys → without xs ys ≡ []
without_none xs ys h = kept_none (λ name. not (has_name ys name)) xs (λ name e. ap not (h name e))

-- no name of one list is in another
abbrev Apart : List (List ℕ) → List (List ℕ) → Type 0
Apart xs ys = (name : List ℕ) → has_name xs name ≡ true → has_name ys name ≡ false

without_all : (xs ys : List (List ℕ)) → Apart xs ys → without xs ys ≡ xs
without_all xs ys h = kept_all (λ name. not (has_name ys name)) xs (λ name e. ap not (h name e))

lacking : (xs ys : List (List ℕ)) → Apart (without xs ys) ys
lacking xs ys name e =
    not_true (has_name ys name) ((and_both (has_name xs name) (not (has_name ys name)) (sym (has-kept (λ n. not (has_name ys n)) name xs) ∙ e)).1)

turned_if : (xs ys : List (List ℕ)) → Apart xs ys → (name : List ℕ) → has_name ys name ≡ true → (b : Bool) → has_name xs name ≡ b → b ≡ false
turned_if xs ys h name e true t = absurd (true≢false (sym e ∙ h name t))
turned_if xs ys h name e false f = refl

turned : (xs ys : List (List ℕ)) → Apart xs ys → Apart ys xs
turned xs ys h name e = turned_if xs ys h name e (has_name xs name) refl

inserted_then : (xs ys ks : List (List ℕ)) → insert_all (pointwise nat_eq) ks (xs ++ ys) ≡ insert_all (pointwise nat_eq) (insert_all (pointwise nat_eq) ks xs) ys
inserted_then [] ys ks = refl
inserted_then (x ∷ xs) ys ks = inserted_then xs ys _

distinct_append : (xs ys : List (List ℕ)) → distinct (xs ++ ys) ≡ distinct xs ++ without (distinct ys) (distinct xs)
distinct_append xs ys =
    sym (distinct-inserted (xs ++ ys)) ∙ inserted_then xs ys [] ∙ ap (λ l. insert_all (pointwise nat_eq) l ys) (distinct-inserted xs) ∙ inserted ys (distinct xs)

-- the names of the columns that go from one header to another; one that is empty says nothing of columns
abbrev pub gone_between : List (List ℕ) → List (List ℕ) → List (List ℕ)
gone_between old new = filter (λ name. not (has_name (or_header new old) name)) old

-- the names of the columns of changes: those of the new header, or of the old one where that is empty, and then those that go
two_names : (old new : List (List ℕ)) → repeats [] old ≡ false → repeats [] new ≡ false → column_names (new ∷ old ∷ []) ≡ new ++ without old new
two_names old new once_old once_new =
    distinct_append new (old ++ []) ∙ ap₂ (λ a b. b ++ without a b) (ap distinct (append-nil old) ∙ distinct-once old once_old) (distinct-once new once_new)

header_full : (name : List ℕ) (names other : List (List ℕ)) → or_header (name ∷ names) other ≡ name ∷ names
header_full name names other = ap (λ b. if b then other else name ∷ names) (ne_eqb (length (name ∷ names)) 0 (λ e. omega (arith, e)))

pub names-parted : (old new : List (List ℕ)) → repeats [] old ≡ false → repeats [] new ≡ false
    → column_names (new ∷ old ∷ []) ≡ or_header new old ++ gone_between old new
names-parted old [] once_old once_new =
    two_names old [] once_old once_new ∙ without_all old [] (λ name e. refl)
    ∙ sym (ap (λ l. old ++ l) (without_none old old (λ name e. e)) ∙ append-nil old)
names-parted old (name ∷ new) once_old once_new =
    two_names old (name ∷ new) once_old once_new ∙ sym (ap (λ h. h ++ without old h) (header_full name new old))

pub written-once : (old new : List (List ℕ)) → repeats [] old ≡ false → repeats [] new ≡ false → repeats [] (or_header new old) ≡ false
written-once old [] once_old once_new = once_old
written-once old (name ∷ new) once_old once_new = ap (repeats []) (header_full name new old) ∙ once_new

pub header-within : (header other : List (List ℕ)) → Within header (or_header header other)
header-within [] other name e = absurd (true≢false (sym e))
header-within (first ∷ header) other name e = ap (λ h. has_name h name) (header_full first header other) ∙ e

-- what `apply` writes of columns, of which those that go are gone: the others
module _ (all written gone old : List (List ℕ)) (parted : all ≡ written ++ gone) (apart : Apart gone written) (once : repeats [] written ≡ false)
    (once_all : repeats [] all ≡ false) (within : Within old all) where
  gone_in : Within gone all
  gone_in name e = ap (λ l. has_name l name) parted ∙ has_append name written gone ∙ or_second (has_name written name) (has_name gone name) e

  pub names-changed : changed_names old all gone ≡ written
  names-changed =
      rw (names-each old all within)
      (ap (filter (λ name. not (has_name gone name))) parted ∙ filter-append (λ name. not (has_name gone name)) written gone
      ∙ ap₂ (λ a b. a ++ b) (without_all written gone (turned gone written apart)) (without_none gone gone (λ name e. e)) ∙ append-nil written)

  more_in : Within (distinct (old ++ (gone ++ []))) all
  more_in name e =
      or_cases (has_name old name) (has_name (gone ++ []) name) (sym (has_append name old (gone ++ [])) ∙ sym (has-distinct name (old ++ (gone ++ []))) ∙ e)
      (within name) (λ g. gone_in name (sym (ap (λ l. has_name l name) (append-nil gone)) ∙ g))

  others_are : distinct (all ++ (old ++ (gone ++ []))) ≡ all
  others_are =
      distinct_append all (old ++ (gone ++ [])) ∙ ap (λ a. a ++ without (distinct (old ++ (gone ++ []))) a) (distinct-once all once_all)
      ∙ ap (λ l. all ++ l) (without_none (distinct (old ++ (gone ++ []))) all more_in) ∙ append-nil all

  pub all-columns : column_names (written ∷ all ∷ old ∷ gone ∷ []) ≡ all
  all-columns =
      distinct_append written (all ++ (old ++ (gone ++ []))) ∙ ap₂ (λ a b. b ++ without a b) others_are (distinct-once written once)
      ∙ ap (λ l. written ++ without l written) parted
      ∙ ap (λ l. written ++ l) (filter-append (λ name. not (has_name written name)) written gone
      ∙ ap₂ (λ a b. a ++ b) (without_none written written (λ name e. e)) (without_all gone written apart))
      ∙ sym parted

-- the columns of `apply` are those of `diff`, of which it writes those that do not go
take_front : {X Y : Type 0} (f : X → Y) (xs ys : List X) → take (length xs) (map f (xs ++ ys)) ≡ map f xs
take_front f [] ys = refl
take_front f (x ∷ xs) ys = ap (λ l. f x ∷ l) (take_front f xs ys)

-- columns of which some are written, and the others go
pub record WritesOf (key written gone : List (List ℕ)) (columns under : Columns) : Type 0 where
  pub rest : under.rest ≡ columns.rest
  pub names : under.rest ≡ filter (is_beside key) written ++ filter (is_beside key) gone
  pub order : under.order.items ≡ map (place_under_key key) written

pub writes-alike : (old new key gone : List (List ℕ)) (columns under : Columns) → repeats [] old ≡ false → repeats [] new ≡ false → gone ≡ gone_between old new
    → AreColumns key (new ∷ old ∷ []) columns
    → WriteNames key (changed_names old (column_names (new ∷ old ∷ [])) gone) (column_names (new ∷ old ∷ []) ∷ old ∷ gone ∷ []) under
    → (changed_names old (column_names (new ∷ old ∷ [])) gone ≡ or_header new old) × WritesOf key (or_header new old) gone columns under
writes-alike old new key gone columns under once_old once_new is_gone is writes =
    let all = column_names (new ∷ old ∷ []) in
    let written = or_header new old in
    let parted : all ≡ written ++ gone = names-parted old new once_old once_new ∙ ap (λ l. written ++ l) (sym is_gone) in
    let apart : Apart gone written = subst (λ g. Apart g written) (sym is_gone) (lacking old written) in
    let once = written-once old new once_old once_new in
    let once_all = columns-once key (new ∷ old ∷ []) columns is in
    let within = (columns-within new old).1 in
    let names = names-changed all written gone old parted apart once once_all within in
    let same : column_names (changed_names old all gone ∷ all ∷ old ∷ gone ∷ []) ≡ all =
    ap (λ w. column_names (w ∷ all ∷ old ∷ gone ∷ [])) names ∙ all-columns all written gone old parted apart once once_all within in
    let rest : under.rest ≡ filter (is_beside key) all = writes.rest ∙ ap (filter (is_beside key)) same in (
      names,
      record {
        rest = rest ∙ sym is.rest;
        names = rest ∙ ap (filter (is_beside key)) parted ∙ filter-append (is_beside key) written gone;
        order = writes.order ∙ ap₂ (λ w l. take (length w) (map (place_under_key key) l)) names (same ∙ parted) ∙ take_front (place_under_key key) written gone;
      },
    )

-- no cell is lost with columns that go where the new table has none there
pub gone-apart : (old new : List (List ℕ)) (name : List ℕ) → has_name (gone_between old new) name ≡ true → has_name new name ≡ false
gone-apart old [] name e = refl
gone-apart old (first ∷ new) name e = lacking old (first ∷ new) name (subst (λ h. has_name (without old h) name ≡ true) (header_full first new old) e)

-- the columns that the header of changes says go are those that the new header lacks
none_first : (a b : Bool) → (a || b) ≡ false → a ≡ false
none_first true b e = e
none_first false b e = refl

going_kept : (name : List ℕ) (b : Bool) → begins_marked name ≡ b → going (if b then 61 ∷ name else name) ≡ []
going_kept name true e = refl
going_kept [] false e = refl
going_kept (byte ∷ name) false e = rw (none_first (byte == 45) (byte == 43) (none_first ((byte == 45) || (byte == 43)) (byte == 61) e)) refl

going_one : (f : Fate) (name : List ℕ) → going (marked_name f name) ≡ name_if_goes f name
going_one fate.Goes name = refl
going_one fate.Comes name = refl
going_one fate.Stays name = going_kept name (begins_marked name) refl

goes_if : (name : List ℕ) (names : List (List ℕ)) (there before : Bool)
    → name_if_goes (if there then (if before then fate.Stays else fate.Comes) else fate.Goes) name ++ names ≡ (if not there then name ∷ names else names)
goes_if name names true true = refl
goes_if name names true false = refl
goes_if name names false before = refl

going_all : (old new names : List (List ℕ)) → flat_map going (map (marked_between old new) names) ≡ without names new
going_all old new [] = refl
going_all old new (name ∷ names) =
    ap₂ (λ a b. a ++ b) (going_one (fate_between old new name) name) (going_all old new names) ∙ goes_if name (without names new) (has_name new name) (has_name old name)

pub marked-gone : (old new : List (List ℕ)) → repeats [] old ≡ false → repeats [] new ≡ false → flat_map going (marked_names old new) ≡ gone_between old new
marked-gone old new once_old once_new =
    let written = or_header new old in
    let gone = gone_between old new in
    going_all (or_header old new) written (column_names (new ∷ old ∷ [])) ∙ ap (λ l. without l written) (names-parted old new once_old once_new)
    ∙ filter-append (λ name. not (has_name written name)) written gone
    ∙ ap₂ (λ a b. a ++ b) (without_none written written (λ name e. e)) (without_all gone written (lacking old written))

-- cells that are placed in the order of columns and read under the names of all
pub map_agree : {X Y : Type 0} (f g : X → Y) → ((x : X) → f x ≡ g x) → (xs : List X) → map f xs ≡ map g xs
map_agree f g h [] = refl
map_agree f g h (x ∷ xs) = ap₂ (λ y ys. y ∷ ys) (h x) (map_agree f g h xs)

pub field_is : (fields : List (List ℕ)) (i : ℕ) → unwrap_or (field_at fields i) [] ≡ get_or fields i []
unfolding field_at
field_is [] i = refl
field_is (x ∷ xs) zero = refl
field_is (x ∷ xs) (suc i) = field_is xs i

first_is : (cell : List ℕ) (cells : List (List ℕ)) → field_at (cell ∷ cells) 0 ≡ Some cell
unfolding field_at
first_is cell cells = refl

pub same_name : (name other : List ℕ) → pointwise nat_eq name other ≡ true → name ≡ other
same_name name other e = (bytes_decides name other).0 e

cell_by : (all : List (List ℕ)) (f : List ℕ → List ℕ) (cell name : List ℕ) (at : Option ℕ) → place_in all name ≡ at → (at ≡ None → f name ≡ [])
    → cell_at (cell ∷ map f all) (option_map (λ place. place + 1) at) ≡ f name
cell_by all f cell name None e h = sym (h refl)
cell_by all f cell name (Some place) e h =
    let at = position-Some (pointwise nat_eq name) all place [] e in
    let next : place + 1 ≡ suc place = omega arith in
    field_is (cell ∷ map f all) (place + 1) ∙ ap (λ i. get_or (cell ∷ map f all) i []) next ∙ get_or-map f all place [] [] at.0
    ∙ ap f (sym (same_name name (get_or all place []) at.1))

none_there : {A : Type 0} (m : Option A) → is_none m ≡ true → m ≡ None
none_there None e = refl
none_there (Some a) e = absurd (true≢false (sym e))

-- a name that all lack has no cell under the names of a table
lacks_if : (all names : List (List ℕ)) → Within names all → (name : List ℕ) → has_name all name ≡ false → (b : Bool) → has_name names name ≡ b → not b ≡ true
lacks_if all names within name none true t = absurd (true≢false (sym (within name t) ∙ none))
lacks_if all names within name none false f = refl

pub lacks : (all names : List (List ℕ)) → Within names all → (name : List ℕ) → place_in all name ≡ None → place_in names name ≡ None
lacks all names within name e =
    let none : has_name all name ≡ false = not_true (has_name all name) (sym (none_at (pointwise nat_eq name) all) ∙ ap is_none e) in
    none_there (place_in names name) (none_at (pointwise nat_eq name) names ∙ lacks_if all names within name none (has_name names name) refl)

module _ (all names : List (List ℕ)) (within : Within names all) (columns under : Columns) (order : List Place) (fields : List (List ℕ)) where
  -- the cell of a record under a name
  abbrev read : List ℕ → List ℕ
  read name = cell_under Rows names fields name

  empty : (name : List ℕ) → place_in all name ≡ None → read name ≡ []
  empty name e = ap (λ place. cell_at fields (option_map (λ n. n + 0) place)) (lacks all names within name e)

  cell_is : (cell name : List ℕ) → cell_under Changes all (cell ∷ map read all) name ≡ read name
  cell_is cell name = cell_by all read cell name (place_in all name) refl (empty name)

  pub row-back : ((f : List ℕ → List ℕ) → placed order (map f columns.key) (map f columns.rest) ≡ map f all) → under.key ≡ columns.key → under.rest ≡ columns.rest
      → ReadsBack all under order (row_under Rows names columns fields).0 (row_under Rows names columns fields).1
  row-back places same_key same_rest cell =
      ap (λ l. signed_under all under (cell ∷ l)) (places read)
      ∙ ap₂ (λ a b. (a, b)) (first_is cell (map read all))
      (ap₂ (λ a b. (a, b))
      (map_agree (cell_under Changes all (cell ∷ map read all)) read (cell_is cell) under.key ∙ ap (map read) same_key)
      (map_agree (cell_under Changes all (cell ∷ map read all)) read (cell_is cell) under.rest ∙ ap (map read) same_rest))
