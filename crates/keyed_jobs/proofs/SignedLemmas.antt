-- The rows of changes that are read of a text, one after the other, and the changes that they are.
use Rattle.std.proofs.Common.{◌≡◌, ◌∙◌, ℕ, List, [], ◌∷◌, ◌++◌, Option, Bool, true, false, map, refl, sym, ap, ap₂, subst, append_assoc}
use Rattle.std.proofs.lemmas.Grind.{flat_map-append}
use Rattle.std.proofs.lemmas.List.{append-nil, map-append}
use Rattle.std.proofs.lemmas.Simd.{map-map}
use Rattle.csv.specs.Records.{field_at}
use Rattle.keyed_requests.specs.FormBytes.{comment_of, delimiter_of}
use Rattle.keyed_requests.specs.declared.request.Form.{Form}
use Rattle.keyed_columns.specs.Headers.{place_under}
use Rattle.keyed_columns.specs.CellsUnder.{cell_at}
use Rattle.keyed_columns.specs.declared.columns.Columns.{Columns}
use Rattle.keyed_columns.specs.declared.content.Content.TheVariants.{Changes}
use Rattle.keyed_files.specs.CellPlaces.{ArePlaces}
use Rattle.keyed_files.specs.Reading.{GivesRecord, HasGiven, IsHeader, IsSigned, PlacesOf, last_record}
use Rattle.keyed_files.specs.declared.sign.SignedRow.{SignedRow}
use Rattle.keyed_files.specs.declared.source.Places.{Places}
use Rattle.keyed_files.specs.declared.source.Source.{Source}
use Rattle.keyed_rows.specs.declared.row.ReadRow.{ReadRow}
use Rattle.keyed_text.specs.Texts.{AreRows}
use Rattle.keyed_text.proofs.TextLemmas.{rows-once}
use Rattle.keyed_jobs.specs.Answers.{TableChanges}
use Rattle.keyed_jobs.specs.ChangesRead.{AreChanges, PairsRows, PartedBehind, PartsChanges, PartsOn, PartsRest, ReadsChanges, come_by, come_rows, gone_by, gone_rows, signed_at, signed_key, signed_parts, signed_under}
use Rattle.keyed_jobs.specs.FileOrder.{Keys, noted_with}
use Rattle.keyed_jobs.specs.TablesRead.{Gathers}
use Rattle.keyed_jobs.proofs.NotedLemmas.{noted-none, signed-then}

-- no change is read yet
parted-none : (places : Places) (gone come : List ReadRow) (before : Option Keys) → PartedBehind places gone gone come come before before []
parted-none places gone come before = record { signed = []; notes = sym (noted-none before); goes = sym (append-nil gone); comes = sym (append-nil come); parts = refl }

-- one more row goes or comes
gone-more : (signed : List SignedRow) (s : SignedRow) → gone_rows (signed ++ (s ∷ [])) ≡ gone_rows signed ++ gone_by s.sign s.row
gone-more signed s = flat_map-append (λ s. gone_by s.sign s.row) signed (s ∷ []) ∙ ap (λ l. gone_rows signed ++ l) (append-nil (gone_by s.sign s.row))

come-more : (signed : List SignedRow) (s : SignedRow) → come_rows (signed ++ (s ∷ [])) ≡ come_rows signed ++ come_by s.sign s.row
come-more signed s = flat_map-append (λ s. come_by s.sign s.row) signed (s ∷ []) ∙ ap (λ l. come_rows signed ++ l) (append-nil (come_by s.sign s.row))

put-behind : (old more next mid new all : List ReadRow) → mid ≡ old ++ more → new ≡ mid ++ next → all ≡ more ++ next → new ≡ old ++ all
put-behind old more next mid new all e f g = f ∙ ap (λ l. l ++ next) e ∙ append_assoc old more next ∙ ap (λ l. old ++ l) (sym g)

parted-and : (places : Places) (gone mid_gone new_gone come mid_come new_come : List ReadRow) (before mid after : Option Keys) (records : List (List (List ℕ))) (s : SignedRow)
    (fields : List (List ℕ)) → PartedBehind places gone mid_gone come mid_come before mid records → after ≡ noted_with mid (signed_key s ∷ []) → new_gone ≡ mid_gone ++ gone_by s.sign s.row → new_come ≡ mid_come ++ come_by s.sign s.row
    → IsSigned places fields s → PartedBehind places gone new_gone come new_come before after (records ++ (fields ∷ []))
parted-and places gone mid_gone new_gone come mid_come new_come before mid after records s fields h next e f is = record {
  notes = signed-then before mid after h.signed s h.notes next;
  signed = h.signed ++ (s ∷ []);
  goes = put-behind gone (gone_rows h.signed) (gone_by s.sign s.row) mid_gone new_gone _ h.goes e (gone-more h.signed s);
  comes = put-behind come (come_rows h.signed) (come_by s.sign s.row) mid_come new_come _ h.comes f (come-more h.signed s);
  parts = map-append signed_parts h.signed (s ∷ []) ∙ ap₂ (λ l p. l ++ (p ∷ [])) h.parts (ap₂ (λ a b. (a, b)) (sym is.sign) is.row)
      ∙ sym (map-append (signed_at places) records (fields ∷ []));
}

-- changes that are read of a source: none yet, one more, and all
pub parts-none : {R : Type 0} (rem : R → Option (List ℕ)) (places : Places) (source : Source R) (gone come : List ReadRow) (before : Option Keys)
    → PartsOn rem places source source gone gone come come before before
parts-none rem places source gone come before = λ d c text given h.
    ([], subst (λ l. HasGiven d c rem text l source) (sym (append-nil given)) h, parted-none places gone come before)

module _ {R : Type 0} (rem : R → Option (List ℕ)) (places : Places) (source now : Source R) (gone mid_gone come mid_come : List ReadRow)
    (before mid : Option Keys) where
  pub parts-and : (next : Source R) (new_gone new_come : List ReadRow) (after : Option Keys) (s : SignedRow) → PartsOn rem places source now gone mid_gone come mid_come before mid
      → after ≡ noted_with mid (signed_key s ∷ []) → GivesRecord rem now next true → IsSigned places (last_record next) s → new_gone ≡ mid_gone ++ gone_by s.sign s.row → new_come ≡ mid_come ++ come_by s.sign s.row
      → PartsOn rem places source next gone new_gone come new_come before after
  parts-and next new_gone new_come after s so notes gives is e f = λ d c text given h.
      let there = so d c text given h in
      let has = subst (λ l. HasGiven d c rem text l next) (append_assoc given there.0 (last_record next ∷ [])) (gives d c text (given ++ there.0) there.1) in
      (there.0 ++ (last_record next ∷ []), has, parted-and places gone mid_gone new_gone come mid_come new_come before mid after there.0 s (last_record next) there.2 notes e f is)

  pub parts-all : (next : Source R) → PartsOn rem places source now gone mid_gone come mid_come before mid → GivesRecord rem now next false
      → PartsRest rem places source gone mid_gone come mid_come before mid
  parts-all next so gives = λ d c text given h.
      let there = so d c text given h in
      (there.0, gives d c text (given ++ there.0) there.1, there.2)

-- the cells at the places of columns are those under their names
signed-under : (names : List (List ℕ)) (columns : Columns) (places : Places) → ArePlaces Changes names columns places → (fields : List (List ℕ))
    → signed_at places fields ≡ signed_under names columns fields
signed-under names columns places h fields =
    ap (λ row. (field_at fields 0, row)) (rw (h.key, h.rest)
    (ap₂ (λ key rest. (key, rest)) (map-map (cell_at fields) (place_under Changes names) columns.key) (map-map (cell_at fields) (place_under Changes names) columns.rest)))

all-signed : (names : List (List ℕ)) (columns : Columns) (places : Places) → ArePlaces Changes names columns places → (records : List (List (List ℕ)))
    → map (signed_at places) records ≡ map (signed_under names columns) records
all-signed names columns places h [] = refl
all-signed names columns places h (fields ∷ records) =
    ap₂ (λ row rows. row ∷ rows) (signed-under names columns places h fields) (all-signed names columns places h records)

-- a source that is read to the end has given changes
module _ (form : Form) (text : List ℕ) (header names : List (List ℕ)) (columns : Columns) (signed : List SignedRow) where
  changes-if : (has_header : Bool) → form.has_header ≡ has_header → (first records : List (List (List ℕ))) → IsHeader form Changes text header has_header first
      → AreRows (delimiter_of form) (comment_of form) text (first ++ records) → map signed_parts signed ≡ map (signed_under names columns) records
      → AreChanges form text header names columns signed
  changes-if true same [] records head all parts =
      let none : records ≡ [] = rows-once _ _ text records [] all head.0 in
      ([], head.0, head.1, rw same (subst (λ r. map signed_parts signed ≡ map (signed_under names columns) r) none parts))
  changes-if true same (fields ∷ []) records head all parts = (fields ∷ records, all, rw same head, rw same parts)
  changes-if true same (fields ∷ more ∷ rest) records head all parts = absurd head
  changes-if false same [] records head all parts = (records, all, rw same (head records all), rw same parts)
  changes-if false same (fields ∷ rest) records head all parts = absurd head

pub changes-read : {R : Type 0} (rem : R → Option (List ℕ)) (columns : Columns) (places : Places) (source : Source R) (gone new_gone come new_come : List ReadRow)
    (before after : Option Keys) → PlacesOf source columns places → PartsRest rem places source gone new_gone come new_come before after
    → PartsChanges rem columns source gone new_gone come new_come before after
changes-read rem columns places source gone new_gone come new_come before after placed parts = λ form text header begun.
    let rest = parts _ _ text begun.first begun.given in
    let read = rest.2 in
    let under = all-signed source.header.names columns places (subst (λ k. ArePlaces k source.header.names columns places) begun.content placed) rest.0 in (
      read.signed,
      read.goes,
      read.comes,
      changes-if form text header source.header.names columns read.signed form.has_header refl begun.first rest.0 begun.header rest.1 (read.parts ∙ under),
      read.notes,
    )

-- rows of changes that are read after none, by key
pub changes-paired : {R : Type 0} (rem : R → Option (List ℕ)) (groups : Bool) (columns : Columns) (source : Source R) (gone new_gone come new_come : List ReadRow) (changes : TableChanges)
    (before after : Option Keys) → gone ≡ [] → come ≡ [] → PartsChanges rem columns source gone new_gone come new_come before after → PairsRows groups new_gone new_come changes
    → ReadsChanges rem groups columns source changes
changes-paired rem groups columns source gone new_gone come new_come changes before after no_gone no_come parts paired = λ form text header begun.
    let read = parts form text header begun in (
      read.0,
      read.3,
      record {
        gone_by_key = paired.gone_by_key;
        come_by_key = paired.come_by_key;
        goes = subst (λ all. Gathers groups all paired.gone_by_key) (read.1 ∙ ap (λ l. l ++ gone_rows read.0) no_gone) paired.goes;
        comes = subst (λ all. Gathers groups all paired.come_by_key) (read.2 ∙ ap (λ l. l ++ come_rows read.0) no_come) paired.comes;
        joined = paired.joined;
      },
    )
