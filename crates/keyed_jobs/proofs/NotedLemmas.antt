-- Keys that are noted one after the other, from the rows that are read to the keys of a text.
use Rattle.std.proofs.Common.{◌≡◌, ◌∙◌, ◌++◌, ℕ, Bool, List, [], ◌∷◌, Option, None, Some, map, nat_eq, refl, sym, ap, append_assoc}
use Rattle.std.specs.Prelude.{Err, Ok, OnOk, Result, option_map}
use Rattle.std.specs.Cmp.Lexicographic.{pointwise}
use Rattle.std.proofs.lemmas.List.{append-nil, map-append}
use Rattle.std.proofs.lemmas.List.Sums.{fold-append}
use Rattle.std.proofs.lemmas.Simd.{map-map}
use Rattle.indexmap.specs.IndexSet.{insert_key}
use Rattle.keyed_requests.specs.declared.request.Form.{Form}
use Rattle.keyed_columns.specs.CellsUnder.{row_under}
use Rattle.keyed_columns.specs.declared.columns.Columns.{Columns}
use Rattle.keyed_columns.specs.declared.content.Content.{Content}
use Rattle.keyed_columns.specs.declared.content.Content.TheVariants.{Changes, Rows}
use Rattle.keyed_files.specs.Reading.{IsOpen, ReadsRows, behind_header, parts_of}
use Rattle.keyed_files.specs.declared.source.Source.{Source}
use Rattle.keyed_rows.specs.declared.row.ReadRow.{ReadRow}
use Rattle.keyed_tables.specs.Arranged.{IsNoted}
use Rattle.keyed_tables.specs.Placed.{placed_noted}
use Rattle.keyed_jobs.specs.Answers.{key_cmp}
use Rattle.keyed_jobs.specs.ChangesRead.{PartsChanges, signed_key, signed_parts, signed_under}
use Rattle.keyed_jobs.specs.FileOrder.{AreKeysOfBoth, Keys, NotesBoth, NotesRows, OfKeys, begun_keys, noted_with, placed_with}
use Rattle.keyed_jobs.proofs.AnswerLemmas.{key_exact}

-- no key is noted, one is, and more are
pub noted-none : (before : Option Keys) → noted_with before [] ≡ before
noted-none None = refl
noted-none (Some keys) = refl

pub note-one : (key : List (List ℕ)) (before after : Option Keys) → IsNoted key_cmp (pointwise (pointwise nat_eq)) key before after → after ≡ noted_with before (key ∷ [])
note-one key None after h = h
note-one key (Some keys) after h = h.2 ∙ ap (λ k. Some (insert_key (pointwise (pointwise nat_eq)) keys k)) (key_exact h.0 key h.1)

pub noted-more : (before : Option Keys) (xs ys : Keys) → noted_with (noted_with before xs) ys ≡ noted_with before (xs ++ ys)
noted-more None xs ys = refl
noted-more (Some keys) xs ys = ap Some (sym (fold-append (insert_key (pointwise (pointwise nat_eq))) keys xs ys))

noted-then : {A : Type 0} (f : A → List (List ℕ)) (before mid after : Option Keys) (more : List A) (a : A) → mid ≡ noted_with before (map f more)
    → after ≡ noted_with mid (f a ∷ []) → after ≡ noted_with before (map f (more ++ (a ∷ [])))
noted-then f before mid after more a is next =
    next ∙ ap (λ m. noted_with m (f a ∷ [])) is ∙ noted-more before (map f more) (f a ∷ []) ∙ ap (noted_with before) (sym (map-append f more (a ∷ [])))

-- the rows of a table: none is read yet, and one more
pub notes-none : (rows : List ReadRow) (before : Option Keys) → NotesRows rows rows before before
notes-none rows before = ([], sym (append-nil rows), sym (noted-none before))

pub notes-and : (old mid new : List ReadRow) (row : ReadRow) (before between after : Option Keys) → NotesRows old mid before between → new ≡ mid ++ (row ∷ [])
    → after ≡ noted_with between (row.key ∷ []) → NotesRows old new before after
notes-and old mid new row before between after so pushed next = (
  so.0 ++ (row ∷ []),
  pushed ∙ ap (λ l. l ++ (row ∷ [])) so.1 ∙ append_assoc old so.0 (row ∷ []),
  noted-then (λ row. row.key) before between after so.0 row so.2 next,
)

pub signed-then : (before mid after : Option Keys) (more : List _) (s : _) → mid ≡ noted_with before (map signed_key more) → after ≡ noted_with mid (signed_key s ∷ [])
    → after ≡ noted_with before (map signed_key (more ++ (s ∷ [])))
signed-then before mid after more s is next = noted-then signed_key before mid after more s is next

-- the keys of rows are those of the records that they are read of
keys_read : (names : List (List ℕ)) (columns : Columns) (rows : List ReadRow) (records : List (List (List ℕ)))
    → map parts_of rows ≡ map (row_under Rows names columns) records → map (λ row. row.key) rows ≡ map (λ fields. (row_under Rows names columns fields).0) records
keys_read names columns rows records parts =
    let first : List (List ℕ) × List (List ℕ) → List (List ℕ) = λ p. p.0 in
    sym (map-map first parts_of rows) ∙ ap (map first) parts ∙ map-map first (row_under Rows names columns) records

pub keys-noted : {R : Type 0} (rem : R → Option (List ℕ)) (columns : Columns) (source : Source R) (old new : List ReadRow) (before after : Option Keys) → old ≡ []
    → ReadsRows rem columns source old new → NotesRows old new before after → OfKeys rem Rows columns source (λ keys. after ≡ noted_with before keys)
keys-noted rem columns source old new before after none reads notes = λ form text header begun.
    let read = reads form Rows text header begun in
    let same : notes.0 ≡ read.0 = ap (λ l. l ++ notes.0) (sym none) ∙ sym notes.1 ∙ read.1 ∙ ap (λ l. l ++ read.0) none in
    let keyed : map (λ row. row.key) notes.0 ≡ map (λ fields. (row_under Rows source.header.names columns fields).0) (behind_header form.has_header read.2.0) =
    ap (map (λ row. row.key)) same ∙ keys_read source.header.names columns read.0 (behind_header form.has_header read.2.0) read.2.3 in
    (map (λ row. row.key) notes.0, (read.2.0, read.2.1, keyed), notes.2)

-- what holds of keys, under another word for those that are noted after them
pub keys-as : {R : Type 0} (rem : R → Option (List ℕ)) (kind : Content) (columns : Columns) (source : Source R) (step : Keys → Option Keys) (after other : Option Keys) → other ≡ after
    → OfKeys rem kind columns source (λ keys. after ≡ step keys) → OfKeys rem kind columns source (λ keys. other ≡ step keys)
keys-as rem kind columns source step after other same of = λ form text header begun. let read = of form text header begun in (read.0, read.1, same ∙ read.2)

-- the keys of a table that is merged into the one before it
pub keys-placed : {R : Type 0} (rem : R → Option (List ℕ)) (columns : Columns) (source : Source R) (before begun there after : Option Keys) → begun ≡ option_map (λ _. []) before
    → after ≡ placed_noted (pointwise (pointwise nat_eq)) before there → OfKeys rem Rows columns source (λ keys. there ≡ noted_with begun keys)
    → OfKeys rem Rows columns source (λ keys. after ≡ placed_with before keys)
keys-placed rem columns source before begun there after none is of = λ form text header opened.
    let read = of form text header opened in
    (read.0, read.1, is ∙ ap (placed_noted (pointwise (pointwise nat_eq)) before) (read.2 ∙ ap (λ m. noted_with m read.0) none))

-- what holds of a step that did not fail, and of one that may have
pub on-ok : {A E : Type 0} {P : Type 0} (outcome : Result A E) → P → OnOk outcome P
on-ok (Ok value) holds = holds
on-ok (Err error) holds = tt

-- the keys that are noted of two sources, of their texts
pub notes-known : {R : Type 0} (rem : R → Option (List ℕ)) (kind : Content) (columns others : Columns) (first next : Source R) (step : Option Keys → Keys → Option Keys) (keeps : Bool)
    (before after : Option Keys) (f h : Form) (t u : List ℕ) (header beside : List (List ℕ)) → before ≡ begun_keys keeps → NotesBoth rem kind columns others first next step before after
    → IsOpen f Rows rem t header first → IsOpen h kind rem u beside next
    → AreKeysOfBoth f h kind t u first.header.names next.header.names columns others step keeps after
notes-known rem kind columns others first next step keeps before after f h t u header beside begins notes begun next_begun =
    let one = notes.first_noted f t header begun in
    let two = notes.next_noted h u beside next_begun in
    record {
      first = one.0;
      next = two.0;
      first_keyed = one.1;
      next_keyed = two.1;
      are = two.2 ∙ ap (λ m. step m two.0) (one.2 ∙ ap (λ m. noted_with m one.0) begins);
    }

-- and so those of changes
pub changes-noted : {R : Type 0} (rem : R → Option (List ℕ)) (columns : Columns) (source : Source R) (gone new_gone come new_come : List ReadRow) (before after : Option Keys)
    → PartsChanges rem columns source gone new_gone come new_come before after → OfKeys rem Changes columns source (λ keys. after ≡ noted_with before keys)
changes-noted rem columns source gone new_gone come new_come before after parts = λ form text header begun.
    let read = parts form text header begun in
    let records = behind_header form.has_header read.3.0 in
    let key : Option (List ℕ) × (List (List ℕ) × List (List ℕ)) → List (List ℕ) = λ p. p.1.0 in
    let keyed : map signed_key read.0 ≡ map (λ fields. (row_under Changes source.header.names columns fields).0) records =
    sym (map-map key signed_parts read.0) ∙ ap (map key) read.3.3 ∙ map-map key (signed_under source.header.names columns) records in
    (map signed_key read.0, (read.3.0, read.3.1, keyed), read.4)
