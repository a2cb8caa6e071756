-- A listing that is read gives back the boundaries that it was written of.
use Rattle.std.proofs.Common.{◌≡◌, ◌≢◌, ◌∙◌, ◌+◌, ◌*◌, ◌-◌, ◌^◌, ℕ, suc, zero, All, Bool, true, false, List, [], ◌∷◌, ◌++◌, Option, Some, None, append_assoc, arith, codes, decimal, drop, filter, length, length-append, map, nat_eq, refl, sym, ap, ap₂, subst}
use Rattle.std.specs.Prelude.{◌||◌, IfSome, option_map, slice_get, unwrap_or}
use Rattle.std.specs.Cmp.Lexicographic.{bytes_decides, pointwise}
use Rattle.std.specs.Fmt.{char_count, format_spec, padded_integral}
use Rattle.std.specs.List.{enumerate_from, flat_map, list_any}
use Rattle.std.specs.List.Sorted.{IsPermutation, IsSorted}
use Rattle.std.proofs.lemmas.List.{append-nil, map-append}
use Rattle.std.proofs.lemmas.List.Elements.{All-head, All-tail}
use Rattle.std.proofs.lemmas.List.Sorted.{IsPermutation-sym}
use Rattle.std.proofs.lemmas.Simd.{map-map}
use Rattle.csv.specs.Records.{field_at}
use Rattle.keyed_text.specs.Texts.{AreRows}
use Rattle.keyed_text.proofs.TextLemmas.{rows-once}
use Rattle.keyed_requests.specs.FormBytes.{comment_of, delimiter_of}
use Rattle.keyed_requests.specs.declared.request.Form.{Form}
use Rattle.keyed_columns.specs.CellsUnder.{cell_at, cell_under}
use Rattle.keyed_columns.specs.ColumnNames.{AreColumns}
use Rattle.keyed_columns.specs.Headers.{NamesOf, place_under}
use Rattle.keyed_columns.specs.Names.{place_in, repeats}
use Rattle.keyed_columns.specs.declared.columns.Columns.{Columns}
use Rattle.keyed_columns.specs.declared.content.Content.{Content}
use Rattle.keyed_columns.specs.declared.content.Content.TheVariants as content
use Rattle.keyed_columns.proofs.LawLemmas.{place-behind}
use Rattle.keyed_files.specs.CellPlaces.{ArePlaces}
use Rattle.keyed_files.specs.Reading.{GivesRecord, HasGiven, IsHeader, IsOpen, PlacesOf, key_in, last_record, text_read}
use Rattle.keyed_files.specs.declared.source.Places.{Places}
use Rattle.keyed_files.specs.declared.source.Source.{Source}
use Rattle.keyed_cut.specs.Listing.{AreStems, IsListingForm, IsListingOpen, IsTold, ReadsBounds, ReadsKeys, ReadsKeysOn, ReadsLaterKeys, amounts_in, amounts_of, from_name, from_names, is_from, listing_header, listing_rows, part_number, part_row, part_rows, table_names}
use Rattle.keyed_cut.specs.Partitioned.{fitted, key_cmp}
use Rattle.keyed_cut.specs.declared.sinks.Count.{Count}
use Rattle.keyed_cut.specs.declared.sinks.Counts.{Counts}
use Rattle.keyed_cut.proofs.OrderLemmas.{keys-once}
use Rattle.keyed_cut.proofs.SinkLemmas.{fitted-by}

or_left : (a b : Bool) → (a || b) ≡ false → a ≡ false
or_left true b e = e
or_left false b e = refl

or_right : (a b : Bool) → (a || b) ≡ false → b ≡ false
or_right true b e = absurd (cc e)
or_right false b e = e

-- the names of the columns of the key are those among the header's that begin so
kept-none : (names more : List (List ℕ)) → list_any is_from names ≡ false → filter is_from (names ++ more) ≡ filter is_from more
kept-none [] more h = refl
kept-none (name ∷ names) more h = rw (or_left (is_from name) (list_any is_from names) h) (kept-none names more (or_right (is_from name) (list_any is_from names) h))

kept-all : (key : List (List ℕ)) → filter is_from (map from_name key) ≡ map from_name key
kept-all [] = refl
kept-all (name ∷ key) = ap (λ names. from_name name ∷ names) (kept-all key)

pub names-told : (stems key : List (List ℕ)) → AreStems stems → from_names (listing_header stems key) ≡ map from_name key
names-told stems key are = kept-none (codes "part" ∷ flat_map table_names stems) (map from_name key) are.apart ∙ kept-all key

-- names of which none is repeated are none of those before
rest-once : (names more before : List (List ℕ)) → repeats before (names ++ more) ≡ false → repeats (before ++ names) more ≡ false
unfolding repeats
rest-once [] more before h = rw append-nil h
rest-once (name ∷ names) more before h =
    let rest : repeats ((before ++ (name ∷ [])) ++ names) more ≡ false = rest-once names more (before ++ (name ∷ [])) (or_right _ _ h) in
    rw (append_assoc before (name ∷ []) names) at rest

-- a header has no name twice where neither the columns of the tables nor the key have one
neither : (a b : Bool) → a ≡ false → b ≡ false → (a || b) ≡ false
neither a b e f = rw (e, f) refl

then-once : (names more before : List (List ℕ)) → repeats before names ≡ false → repeats (before ++ names) more ≡ false → repeats before (names ++ more) ≡ false
unfolding repeats
then-once [] more before h k = rw append-nil at k
then-once (name ∷ names) more before h k =
    let rest : repeats ((before ++ (name ∷ [])) ++ names) more ≡ false = rw (append_assoc before (name ∷ []) names) k in
    neither _ _ (or_left _ _ h) (then-once names more (before ++ (name ∷ [])) (or_right _ _ h) rest)

none-among : (p : List ℕ → Bool) (names more : List (List ℕ)) → list_any p names ≡ false → list_any p more ≡ false → list_any p (names ++ more) ≡ false
none-among p [] more h k = k
none-among p (name ∷ names) more h k = neither (p name) (list_any p (names ++ more)) (or_left _ _ h) (none-among p names more (or_right _ _ h) k)

not-from : (name other : List ℕ) (same : Bool) → pointwise nat_eq (from_name name) other ≡ same → is_from other ≡ false → same ≡ false
not-from name other true e h = absurd (cc (ap is_from ((bytes_decides (from_name name) other).0 e) ∙ h))
not-from name other false e h = refl

none-from : (name : List ℕ) (names : List (List ℕ)) → list_any is_from names ≡ false → list_any (pointwise nat_eq (from_name name)) names ≡ false
none-from name [] h = refl
none-from name (other ∷ names) h =
    neither _ _ (not-from name other _ refl (or_left _ _ h)) (none-from name names (or_right _ _ h))

same-from : (name : List ℕ) (names : List (List ℕ)) → list_any (pointwise nat_eq (from_name name)) (map from_name names) ≡ list_any (pointwise nat_eq name) names
same-from name [] = refl
same-from name (other ∷ names) = ap (λ b. pointwise nat_eq name other || b) (same-from name names)

from-once : (before : List (List ℕ)) → list_any is_from before ≡ false → (done key : List (List ℕ)) → repeats done key ≡ false
    → repeats (before ++ map from_name done) (map from_name key) ≡ false
unfolding repeats
from-once before none done [] h = refl
from-once before none done (name ∷ key) h =
    let more : before ++ map from_name (done ++ (name ∷ [])) ≡ (before ++ map from_name done) ++ (from_name name ∷ []) =
    ap (λ names. before ++ names) (map-append from_name done (name ∷ [])) ∙ sym (append_assoc before (map from_name done) (from_name name ∷ [])) in
    let rest : repeats ((before ++ map from_name done) ++ (from_name name ∷ [])) (map from_name key) ≡ false =
    subst (λ names. repeats names (map from_name key) ≡ false) more (from-once before none (done ++ (name ∷ [])) key (or_right _ _ h)) in
    neither _ _ (none-among (pointwise nat_eq (from_name name)) before (map from_name done) (none-from name before none) (same-from name done ∙ or_left _ _ h)) rest

header-once : (stems key : List (List ℕ)) → AreStems stems → repeats [] key ≡ false
    → repeats [] (listing_header stems key) ≡ false
header-once stems key are once =
    let before = codes "part" ∷ flat_map table_names stems in
    then-once before (map from_name key) [] are.once (subst (λ names. repeats names (map from_name key) ≡ false) (append-nil before) (from-once before are.apart [] key once))

-- as many cells stand before those of the key as names before its names
names-count : (stems : List (List ℕ)) → length (flat_map table_names stems) ≡ 2 * length stems
names-count [] = refl
names-count (stem ∷ stems) = length-append (table_names stem) (flat_map table_names stems) ∙ omega (arith, names-count stems)

amounts-count : (count : Option Count) → length (amounts_of count) ≡ 2
amounts-count None = refl
amounts-count (Some count) = refl

tables-count : (part : ℕ) (tables : List Counts) → length (flat_map (amounts_in part) tables) ≡ 2 * length tables
tables-count part [] = refl
tables-count part (table ∷ tables) =
    length-append (amounts_in part table) (flat_map (amounts_in part) tables)
    ∙ omega (arith, amounts-count (slice_get table.parts.items part), tables-count part tables)

-- the cells of the key, of a row in which as many cells stand before them as names before the key's
field-behind : (before : List (List ℕ)) (cell : List ℕ) (rest : List (List ℕ)) (n : ℕ) → n ≡ length before → field_at (before ++ (cell ∷ rest)) n ≡ Some cell
unfolding field_at
field-behind [] cell rest zero e = refl
field-behind [] cell rest (suc n) e = absurd (omega (arith, e))
field-behind (x ∷ before) cell rest zero e = absurd (omega (arith, e))
field-behind (x ∷ before) cell rest (suc n) e = field-behind before cell rest n (omega (arith, e))

cells-back : (rest fields before cells : List (List ℕ)) → length fields ≡ length rest → length cells ≡ length before → repeats before rest ≡ false
    → map (cell_under content.Rows (before ++ rest) (cells ++ fields)) rest ≡ fields
unfolding repeats
cells-back [] [] before cells e s h = refl
cells-back [] (cell ∷ fields) before cells e s h = absurd (omega (arith, e))
cells-back (name ∷ rest) [] before cells e s h = absurd (omega (arith, e))
cells-back (name ∷ rest) (cell ∷ fields) before cells e s h =
    let more : length fields ≡ length rest = omega (arith, e) in
    let all : length (cells ++ (cell ∷ [])) ≡ length (before ++ (name ∷ [])) = omega (arith, s, length-append cells (cell ∷ []), length-append before (name ∷ [])) in
    let at : length before + 0 ≡ length cells = omega (arith, s) in
    ap₂ (λ c l. c ∷ l)
    (ap (λ place. cell_at (cells ++ (cell ∷ fields)) (option_map (λ n. n + 0) place)) (place-behind name rest before (or_left _ _ h))
    ∙ ap (λ c. unwrap_or c []) (field-behind cells cell fields (length before + 0) at))
    (ap₂ (λ n c. map (cell_under content.Rows n c) rest) (sym (append_assoc before (name ∷ []) rest)) (sym (append_assoc cells (cell ∷ []) fields))
    ∙ cells-back rest fields (before ++ (name ∷ [])) (cells ++ (cell ∷ [])) more all (or_right _ _ h))

length-names : (key : List (List ℕ)) → length (map from_name key) ≡ length key
length-names [] = refl
length-names (name ∷ key) = ap suc (length-names key)

module _ (stems key : List (List ℕ)) (tables : List Counts) (as-many : length tables ≡ length stems) (once : repeats [] (listing_header stems key) ≡ false) where
  -- the key of the row of a part
  row-key : (part : ℕ) (bound : List (List ℕ)) → length bound ≡ length key
      → map (cell_at (part_row (length key) tables part bound)) (map (place_under content.Rows (listing_header stems key)) (map from_name key)) ≡ bound
  row-key part bound cells =
      let before = codes "part" ∷ flat_map table_names stems in
      let first = part_number part ∷ flat_map (amounts_in part) tables in
      let same : length first ≡ length before = omega (arith, names-count stems, tables-count part tables, as-many) in
      let whole : fitted (length key) bound ≡ bound = fitted-by (length key) bound cells in
      let fields : length (fitted (length key) bound) ≡ length (map from_name key) = ap length whole ∙ cells ∙ sym (length-names key) in
      map-map (cell_at (part_row (length key) tables part bound)) (place_under content.Rows (listing_header stems key)) (map from_name key)
      ∙ cells-back (map from_name key) (fitted (length key) bound) before first fields same (rest-once before (map from_name key) [] once)
      ∙ whole

  -- the keys of the rows of parts
  row-keys : (first : ℕ) (bounds : List (List (List ℕ))) → All (λ bound. length bound ≡ length key) bounds
      → map (λ row. map (cell_at row) (map (place_under content.Rows (listing_header stems key)) (map from_name key))) (part_rows (length key) tables first bounds) ≡ bounds
  row-keys first [] all = refl
  row-keys first (bound ∷ bounds) all =
      ap₂ (λ k ks. k ∷ ks) (row-key first bound (All-head (λ bound. length bound ≡ length key) bound bounds all))
      (row-keys (first + 1) bounds (All-tail (λ bound. length bound ≡ length key) bound bounds all))

-- keys that are read of a source: none yet, one more, and all
module _ {R : Type 0} (rem : R → Option (List ℕ)) (places : Places) (source : Source R) where
  pub keys-none : (old : List (List (List ℕ))) → ReadsKeysOn rem places source source old old
  keys-none old = λ d c text given h. ([], subst (λ l. HasGiven d c rem text l source) (sym (append-nil given)) h, sym (append-nil old))

  pub keys-and : (now next : Source R) (key : List (List ℕ)) (old mid new : List (List (List ℕ))) → ReadsKeysOn rem places source now old mid
      → GivesRecord rem now next true → key ≡ key_in places (last_record next) → new ≡ mid ++ (key ∷ []) → ReadsKeysOn rem places source next old new
  keys-and now next key old mid new so gives is put = λ d c text given h.
      let before = so d c text given h in
      let fields = last_record next in (
        before.0 ++ (fields ∷ []),
        subst (λ l. HasGiven d c rem text l next) (append_assoc given before.0 (fields ∷ [])) (gives d c text (given ++ before.0) before.1),
        put ∙ ap₂ (λ l k. l ++ (k ∷ [])) before.2 is ∙ append_assoc old (map (key_in places) before.0) (key_in places fields ∷ [])
            ∙ ap (λ l. old ++ l) (sym (map-append (key_in places) before.0 (fields ∷ []))),
      )

  pub keys-all : (now next : Source R) (old new : List (List (List ℕ))) → ReadsKeysOn rem places source now old new → GivesRecord rem now next false
      → ReadsKeys rem places source old new
  keys-all now next old new so gives = λ d c text given h.
      let before = so d c text given h in
      (before.0, gives d c text (given ++ before.0) before.1, before.2)

  -- the first record, and then the others
  pub keys-later : (next : Source R) (keys : List (List (List ℕ))) → GivesRecord rem source next true → ReadsKeys rem places next [] keys
      → ReadsLaterKeys rem places source keys
  keys-later next keys gives rest = λ d c text given h.
      let one = gives d c text given h in
      let more = rest d c text (given ++ (last_record next ∷ [])) one in (
        last_record next,
        more.0,
        subst (AreRows d c text) (append_assoc given (last_record next ∷ []) more.0) more.1,
        more.2,
      )

tail-same : {A : Type 0} (x y : A) (xs ys : List A) → x ∷ xs ≡ y ∷ ys → (x ≡ y) × (xs ≡ ys)
tail-same x y xs ys e = (cc e, cc e)

-- what was read of a listing are its boundaries
module _ {R : Type 0} (rem : R → Option (List ℕ)) (form : Form) (text : List ℕ) (source : Source R) (columns : Columns) (places : Places)
    (found : List (List (List ℕ))) (are : AreColumns (from_names source.header.names) (source.header.names ∷ []) columns) (placed : PlacesOf source columns places)
    (reads : ReadsLaterKeys rem places source found) (stems key : List (List ℕ)) (tables : List Counts) (bounds : List (List (List ℕ)))
    (all : AreRows (delimiter_of form) (comment_of form) text (listing_rows stems key tables bounds)) (told : IsTold stems key tables bounds)
    (begun : IsOpen form content.Rows rem text source.header.names source) where
  abbrev header : List (List ℕ)
  header = listing_header stems key

  -- the keys that are picked are those of the rows of parts
  key-picked : source.header.names ≡ header → (fields : List (List ℕ))
      → key_in places fields ≡ map (cell_at fields) (map (place_under content.Rows header) (map from_name key))
  key-picked same fields =
      let at : ArePlaces content.Rows header columns places =
      subst (λ names. ArePlaces content.Rows names columns places) same (subst (λ kind. ArePlaces kind source.header.names columns places) begun.content placed) in
      let columns-key : columns.key ≡ map from_name key = are.key ∙ ap from_names same ∙ names-told stems key told.columns in
      ap (map (cell_at fields)) (at.key ∙ ap (map (place_under content.Rows header)) columns-key)

  all-picked : source.header.names ≡ header → (records : List (List (List ℕ)))
      → map (key_in places) records ≡ map (λ row. map (cell_at row) (map (place_under content.Rows header) (map from_name key))) records
  all-picked same [] = refl
  all-picked same (fields ∷ records) = ap₂ (λ k ks. k ∷ ks) (key-picked same fields) (all-picked same records)

  found-if : (has : Bool) → has ≡ true → (first : List (List (List ℕ))) → IsHeader form content.Rows text source.header.names has first
      → HasGiven (delimiter_of form) (comment_of form) rem text first source → found ≡ bounds
  found-if false is first head given = absurd (cc is)
  found-if true is [] head given = absurd (cc (rows-once _ _ text [] (listing_rows stems key tables bounds) head.0 all))
  found-if true is (fields ∷ more ∷ rest) head given = absurd head
  found-if true is (fields ∷ []) head given =
      let rest = reads _ _ text (fields ∷ []) given in
      let rows = rows-once _ _ text (fields ∷ (rest.0 ∷ rest.1)) (listing_rows stems key tables bounds) rest.2 all in
      let first = tail-same fields header (rest.0 ∷ rest.1) (part_rows (length key) tables 0 ([] ∷ bounds)) rows in
      let later = tail-same rest.0 (part_row (length key) tables 0 []) rest.1 (part_rows (length key) tables 1 bounds) first.1 in
      let same : source.header.names ≡ header = head (subst (λ names. repeats [] names ≡ false) (sym first.0) (header-once stems key told.columns told.once)) ∙ first.0 in
      rest.3 ∙ ap (map (key_in places)) later.1 ∙ all-picked same (part_rows (length key) tables 1 bounds)
      ∙ row-keys stems key tables told.counted (header-once stems key told.columns told.once) 1 bounds told.cells

  pub bounds-found : form.has_header ≡ true → found ≡ bounds
  bounds-found has = found-if form.has_header has begun.first begun.header begun.given

-- the text that is read of a listing is all of it
listing-known : (form : Form) → IsListingForm form → (known : Option (List ℕ)) → text_read form known ≡ known
listing-known form is known = rw (is.comment, is.skipped, is.quotes) refl

pub listing-open : {R : Type 0} (rem : R → Option (List ℕ)) (form : Form) → IsListingForm form → (known : Option (List ℕ)) (source : Source R)
    → IfSome (text_read form known) (λ text. IsOpen form content.Rows rem text source.header.names source) → IfSome known (λ text. IsListingOpen rem text source)
listing-open rem form is None source begun = tt
listing-open rem form is (Some text) source begun = (
  form,
  is,
  subst (λ k. IfSome k (λ text. IsOpen form content.Rows rem text source.header.names source)) (listing-known form is (Some text)) begun,
)

-- the same of what is known of a reader, once the keys are in order
module _ {R : Type 0} (rem : R → Option (List ℕ)) (source : Source R) (columns : Columns) (places : Places) (found sorted : List (List (List ℕ)))
    (are : AreColumns (from_names source.header.names) (source.header.names ∷ []) columns) (placed : PlacesOf source columns places)
    (reads : ReadsLaterKeys rem places source found) (moved : IsPermutation found sorted) (up : IsSorted key_cmp sorted) where
  pub bounds-read : (known : Option (List ℕ)) → IfSome known (λ text. IsListingOpen rem text source) → ReadsBounds known sorted
  bounds-read None begun = tt
  bounds-read (Some text) begun = λ stems key tables bounds all told.
      let form = begun.0 in
      let rows : AreRows (delimiter_of form) (comment_of form) text (listing_rows stems key tables bounds) = rw (begun.1.comma, begun.1.comment) all in
      let is : found ≡ bounds = bounds-found rem form text source columns places found are placed reads stems key tables bounds rows told begun.2 begun.1.header in
      keys-once sorted bounds up told.sorted (subst (IsPermutation sorted) is (IsPermutation-sym found sorted moved))
