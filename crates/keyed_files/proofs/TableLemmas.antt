-- The rows that are read of a text, one after the other, and the table that they are.
use Rattle.std.proofs.Common.{◌≡◌, ◌∙◌, ℕ, List, [], ◌∷◌, ◌++◌, Option, Some, None, Bool, true, false, map, refl, sym, ap, ap₂, subst, append_assoc}
use Rattle.std.proofs.lemmas.List.{append-nil, map-append}
use Rattle.std.proofs.lemmas.Simd.{map-map}
use Rattle.keyed_rows.specs.declared.row.ReadRow.{ReadRow}
use Rattle.keyed_text.specs.Texts.{AreRows}
use Rattle.keyed_text.proofs.TextLemmas.{rows-once}
use Rattle.keyed_requests.specs.FormBytes.{comment_of, delimiter_of}
use Rattle.keyed_requests.specs.declared.request.Form.{Form}
use Rattle.keyed_requests.specs.declared.request.Settings.{Settings}
use Rattle.keyed_columns.specs.Headers.{place_under}
use Rattle.keyed_columns.specs.CellsUnder.{cell_at, row_under}
use Rattle.keyed_columns.specs.Spelled.{SpelledBy}
use Rattle.keyed_columns.specs.declared.columns.Columns.{Columns}
use Rattle.keyed_columns.specs.declared.content.Content.{Content}
use Rattle.keyed_files.specs.Opening.{IsNamedAnew, IsRenamed}
use Rattle.keyed_files.specs.CellPlaces.{ArePlaces}
use Rattle.keyed_files.specs.Reading.{GivesRecord, HasGiven, IsHeader, IsOpen, IsPicked, IsTable, PlacesOf, ReadBehind, ReadsOn, ReadsRest, ReadsRows, last_record, parts_of, picked}
use Rattle.keyed_files.specs.declared.source.Places.{Places}
use Rattle.keyed_files.specs.declared.source.Source.{Source}

-- no row is read yet
pub rows-none : (places : Places) (old : List ReadRow) → ReadBehind places old old []
rows-none places old = record { more = []; rows = sym (append-nil old); parts = refl }

-- one more row
pub rows-and : (places : Places) (old new next : List ReadRow) (records : List (List (List ℕ))) (row : ReadRow) (fields : List (List ℕ))
    → ReadBehind places old new records → next ≡ new ++ (row ∷ []) → IsPicked places fields row → ReadBehind places old next (records ++ (fields ∷ []))
rows-and places old new next records row fields h e is = record {
  more = h.more ++ (row ∷ []);
  rows = e ∙ ap (λ l. l ++ (row ∷ [])) h.rows ∙ append_assoc old h.more (row ∷ []);
  parts = map-append parts_of h.more (row ∷ []) ∙ ap₂ (λ l p. l ++ (p ∷ [])) h.parts is ∙ sym (map-append (picked places) records (fields ∷ []));
}

-- rows that are read of a source: none yet, one more, and all
module _ {R : Type 0} (rem : R → Option (List ℕ)) (places : Places) (source now : Source R) (old new : List ReadRow) where
  pub reads-and : (next : Source R) (after : List ReadRow) (row : ReadRow) → ReadsOn rem places source now old new → GivesRecord rem now next true
      → IsPicked places (last_record next) row → after ≡ new ++ (row ∷ []) → ReadsOn rem places source next old after
  reads-and next after row so gives is e = λ d c text given h.
      let before = so d c text given h in
      let has = subst (λ l. HasGiven d c rem text l next) (append_assoc given before.0 (last_record next ∷ [])) (gives d c text (given ++ before.0) before.1) in
      (before.0 ++ (last_record next ∷ []), has, rows-and places old new after before.0 row (last_record next) before.2 e is)

  pub reads-all : (next : Source R) → ReadsOn rem places source now old new → GivesRecord rem now next false → ReadsRest rem places source old new
  reads-all next so gives = λ d c text given h.
      let before = so d c text given h in
      (before.0, gives d c text (given ++ before.0) before.1, before.2)

pub reads-none : {R : Type 0} (rem : R → Option (List ℕ)) (places : Places) (source : Source R) (old : List ReadRow) → ReadsOn rem places source source old old
reads-none rem places source old = λ d c text given h. ([], subst (λ l. HasGiven d c rem text l source) (sym (append-nil given)) h, rows-none places old)

-- the cells at the places of columns are those under their names
picked-under : (kind : Content) (names : List (List ℕ)) (columns : Columns) (places : Places) → ArePlaces kind names columns places → (fields : List (List ℕ))
    → picked places fields ≡ row_under kind names columns fields
picked-under kind names columns places h fields =
    rw (h.key, h.rest) (ap₂ (λ key rest. (key, rest)) (map-map (cell_at fields) (place_under kind names) columns.key) (map-map (cell_at fields) (place_under kind names) columns.rest))

all-under : (kind : Content) (names : List (List ℕ)) (columns : Columns) (places : Places) → ArePlaces kind names columns places → (records : List (List (List ℕ)))
    → map (picked places) records ≡ map (row_under kind names columns) records
all-under kind names columns places h [] = refl
all-under kind names columns places h (fields ∷ records) = ap₂ (λ row rows. row ∷ rows) (picked-under kind names columns places h fields) (all-under kind names columns places h records)

-- a source that is read to the end has given a table
module _ (form : Form) (kind : Content) (text : List ℕ) (header names : List (List ℕ)) (columns : Columns) (rows : List ReadRow) where
  table-if : (has_header : Bool) → form.has_header ≡ has_header → (first records : List (List (List ℕ))) → IsHeader form kind text header has_header first
      → AreRows (delimiter_of form) (comment_of form) text (first ++ records) → map parts_of rows ≡ map (row_under kind names columns) records
      → IsTable form kind text header names columns rows
  table-if true same [] records head all parts =
      let none : records ≡ [] = rows-once _ _ text records [] all head.0 in
      ([], head.0, head.1, rw same (subst (λ r. map parts_of rows ≡ map (row_under kind names columns) r) none parts))
  table-if true same (fields ∷ []) records head all parts = (fields ∷ records, all, rw same head, rw same parts)
  table-if true same (fields ∷ more ∷ rest) records head all parts = absurd head
  table-if false same [] records head all parts = (records, all, rw same (head records all), rw same parts)
  table-if false same (fields ∷ rest) records head all parts = absurd head

pub table-read : {R : Type 0} (rem : R → Option (List ℕ)) (columns : Columns) (places : Places) (source : Source R) (old new : List ReadRow)
    → PlacesOf source columns places → ReadsRest rem places source old new → ReadsRows rem columns source old new
table-read rem columns places source old new placed reads = λ form kind text header begun.
    let rest = reads _ _ text begun.first begun.given in
    let read = rest.2 in
    let under = all-under kind source.header.names columns places (subst (λ k. ArePlaces k source.header.names columns places) begun.content placed) rest.0 in
    (read.more, read.rows, table-if form kind text header source.header.names columns read.more form.has_header refl begun.first rest.0 begun.header rest.1 (read.parts ∙ under))

-- a source whose columns have other names is open as it was
pub open-renamed : {R A : Type 0} (rem : R → Option (List ℕ)) (key : Option A) (form : Form) (kind : Content) (text : List ℕ) (header : List (List ℕ)) (old new : Source R)
    → IsRenamed key old new → IsOpen form kind rem text header old → IsOpen form kind rem text header new
open-renamed rem None form kind text header old new same begun = subst (IsOpen form kind rem text header) (sym same) begun
open-renamed rem (Some key) form kind text header old new same begun =
    let other : IsOpen form kind rem text header (record old { header = new.header }) =
    record {
      content = begun.content;
      first = begun.first;
      header = begun.header;
      given = begun.given;
      named = ap (λ s. s.names) same.4 ∙ begun.named;
      spelled = subst (λ s. SpelledBy form.has_header kind begun.first s.spelled) (sym same.4) begun.spelled;
    } in
    subst (IsOpen form kind rem text header) (sym same.2) other

pub open-anew : {R : Type 0} (rem : R → Option (List ℕ)) (settings : Settings) (form : Form) (kind : Content) (text : List ℕ) (header : List (List ℕ)) (old new : Source R)
    → IsNamedAnew settings old new → IsOpen form kind rem text header old → IsOpen form kind rem text header new
open-anew rem settings form kind text header old new named begun =
    open-renamed rem settings.renames form kind text header named.0 new named.2 (open-renamed rem settings.key form kind text header old named.0 named.1 begun)
