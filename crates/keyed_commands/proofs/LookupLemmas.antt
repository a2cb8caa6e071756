-- Rows that are read in parts and looked up, and the text that is written of them.
use Rattle.std.proofs.Common.{◌≡◌, ◌∙◌, ℕ, true, false, List, [], ◌∷◌, ◌++◌, Option, map, option_map, append_assoc, refl, sym, ap, ap₂, subst}
use Rattle.std.specs.Io.KnownBytes.{Appends, Keeps}
use Rattle.std.specs.List.{IsDistinct, flat_map}
use Rattle.std.specs.Map.{keys_of}
use Rattle.std.proofs.KnownBytes.{Appends-kept, Appends-trans}
use Rattle.std.proofs.lemmas.List.{append-nil, map-append}
use Rattle.eob_joins.specs.Lookup.{with_found}
use Rattle.eob_joins.proofs.TableLemmas.{by_test}
use Rattle.keyed_requests.specs.declared.lookups.Finding.{Finding}
use Rattle.keyed_requests.specs.declared.lookups.LookupKind.{LookupKind}
use Rattle.keyed_requests.specs.declared.request.Form.{Form}
use Rattle.keyed_requests.specs.declared.request.Layout.{Layout}
use Rattle.keyed_columns.specs.JoinedNames.{found_names}
use Rattle.keyed_columns.specs.Keys.{AreJoinColumns}
use Rattle.keyed_columns.specs.Names.{repeats}
use Rattle.keyed_columns.specs.declared.columns.JoinColumns.{JoinColumns}
use Rattle.keyed_columns.specs.declared.content.Content.TheVariants.{Rows}
use Rattle.keyed_files.specs.Opening.{IsOpened, form_of}
use Rattle.keyed_files.specs.Reading.{GivesRecord, IsPicked, IsTable, PlacesOf, ReadBehind, ReadsOn, ReadsRest, ReadsRows, last_record, parts_of, picked}
use Rattle.keyed_files.specs.Writing.{Wrote, quoted_text}
use Rattle.keyed_files.specs.declared.opened.Stream.{Stream}
use Rattle.keyed_files.specs.declared.opened.Two.{Two}
use Rattle.keyed_files.specs.declared.source.Places.{Places}
use Rattle.keyed_files.specs.declared.source.Source.{Source}
use Rattle.keyed_files.specs.declared.written.Written.{Written}
use Rattle.keyed_files.proofs.TableLemmas.{reads-and, table-read}
use Rattle.keyed_rows.specs.declared.row.ReadRow.{ReadRow}
use Rattle.keyed_text.specs.Texts.{AreRows}
use Rattle.keyed_jobs.proofs.ReadLemmas.{both-known}
use Rattle.keyed_commands.specs.JoinAnswers.{heading_of_join}
use Rattle.keyed_commands.specs.LookupAnswers.{AppendsRows, LooksUpStreams, LooksUpTexts, WritesBehind, WritesPart, WritesRest, as_row, as_rows, cells_under, found_under, held_rows, key_eq, lookup_rows, parts_text, rows_of, shown_row, shown_rows}
use Rattle.keyed_commands.specs.declared.commands.lookup.Found.{Found}

module _ {R : Type 0} (rem : R → Option (List ℕ)) (places : Places) where
  -- rows that are read after none, and more after these
  behind_none : (rows : List ReadRow) (records : List (List (List ℕ))) → ReadBehind places [] rows records → map parts_of rows ≡ map (picked places) records
  behind_none rows records h = ap (map parts_of) h.rows ∙ h.parts

  both_behind : (rows more : List ReadRow) (records others : List (List (List ℕ))) → ReadBehind places [] rows records → ReadBehind places [] more others
      → ReadBehind places [] (rows ++ more) (records ++ others)
  both_behind rows more records others g h = record {
    more = rows ++ more;
    rows = refl;
    parts = map-append parts_of rows more ∙ ap₂ (λ a b. a ++ b) (behind_none rows records g) (behind_none more others h) ∙ sym (map-append (picked places) records others);
  }

  pub reads_last : (source next : Source R) (rows more : List ReadRow) → ReadsOn rem places source next [] rows → ReadsRest rem places next [] more
      → ReadsRest rem places source [] (rows ++ more)
  reads_last source next rows more on rest = λ d c text given h.
      let some = on d c text given h in
      let all = rest d c text (given ++ some.0) some.1 in
      (some.0 ++ all.0, subst (λ l. AreRows d c text l) (append_assoc given some.0 all.0) all.1, both_behind rows more some.0 all.0 some.2 all.2)

-- the rows of more rows
module _ {A B : Type 0} (f : A → List B) where
  pub flat_more : (xs ys : List A) → flat_map f (xs ++ ys) ≡ flat_map f xs ++ flat_map f ys
  flat_more [] ys = refl
  flat_more (x ∷ xs) ys = ap (λ l. f x ++ l) (flat_more xs ys) ∙ sym (append_assoc (f x) (flat_map f xs) (flat_map f ys))

-- what is written of parts
module _ (form : Form) (rows more : List (List (List ℕ))) where
  pub one_part : (old new : Option (List ℕ)) → Appends old new (quoted_text form rows) → AppendsRows form rows old new
  one_part old new h = (rows ∷ [], append-nil rows, subst (Appends old new) (sym (append-nil (quoted_text form rows))) h)

  pub part_then : (old out new : Option (List ℕ)) → Appends old out (quoted_text form rows) → AppendsRows form more out new → AppendsRows form (rows ++ more) old new
  part_then old out new h g = (rows ∷ g.0, ap (λ l. rows ++ l) g.1, Appends-trans old out new (quoted_text form rows) (parts_text form g.0) h g.2)

module _ {R : Type 0} (rem : R → Option (List ℕ)) (form : Form) (kind : LookupKind) (columns : JoinColumns) (find : List (List ℕ) → Option (List (List ℕ))) (places : Places) where
  -- the last part is what is left
  pub part_last : (source next : Source R) (written : Written) (old out new : Option (List ℕ)) → WritesPart rem form kind columns find places true source next written old out
      → Keeps out new → WritesRest rem form kind columns find places source written old new
  part_last source next written old out new h kept = λ pending w.
      let part = h pending w in
      (part.0, part.1, one_part form (pending ++ lookup_rows columns kind find part.0) [] old new (Appends-kept old out new (quoted_text form (pending ++ lookup_rows columns kind find part.0)) part.2 kept))

  -- another part, and then what is left after it
  pub part_and : (source next : Source R) (written after : Written) (old out new : Option (List ℕ)) → WritesPart rem form kind columns find places false source next written old out
      → Wrote form [] after → WritesRest rem form kind columns find places next after out new → WritesRest rem form kind columns find places source written old new
  part_and source next written after old out new h none g = λ pending w.
      let part = h pending w in
      let rest = g [] none in
      let f : List (List ℕ) × List (List ℕ) → List (List (List ℕ)) = λ row. rows_of columns kind row.0 row.1 (find row.0) in
      let all : (pending ++ lookup_rows columns kind find part.0) ++ lookup_rows columns kind find rest.0 ≡ pending ++ lookup_rows columns kind find (part.0 ++ rest.0) =
      append_assoc pending (lookup_rows columns kind find part.0) (lookup_rows columns kind find rest.0) ∙ ap (λ l. pending ++ l) (sym (flat_more f part.0 rest.0)) in (
        part.0 ++ rest.0,
        subst (ReadsRest rem places source []) (sym (map-append as_row part.0 rest.0)) (reads_last rem places source next (as_rows part.0) (as_rows rest.0) part.1 rest.1),
        subst (λ l. AppendsRows form l old new) all
            (part_then form (pending ++ lookup_rows columns kind find part.0) (lookup_rows columns kind find rest.0) old out new part.2 rest.2),
      )

-- what is found of rows
module _ (columns : JoinColumns) (kind : LookupKind) where
  pub rows_shown : (g : List (List ℕ) → Option Found) (rows : List (List (List ℕ) × List (List ℕ))) → shown_rows columns kind (map (with_found g) rows)
      ≡ lookup_rows columns kind (λ key. option_map (λ found. found.cells) (g key)) rows
  rows_shown g [] = refl
  rows_shown g (row ∷ rows) = ap (λ l. shown_row columns kind (with_found g row) ++ l) (rows_shown g rows)

  pub same_found : (f g : List (List ℕ) → Option (List (List ℕ))) → ((key : List (List ℕ)) → f key ≡ g key) → (rows : List (List (List ℕ) × List (List ℕ)))
      → lookup_rows columns kind f rows ≡ lookup_rows columns kind g rows
  same_found f g same [] = refl
  same_found f g same (row ∷ rows) = ap₂ (λ a b. rows_of columns kind row.0 row.1 a ++ b) (same row.0) (same_found f g same rows)

-- the rows that are held have under a key what is found there
pub found_same : (entries : List (List (List ℕ) × Found)) (key : List (List ℕ)) → found_under entries key ≡ cells_under (held_rows entries) key
found_same [] key = refl
found_same (entry ∷ entries) key = by_test (key_eq key entry.0) (λ t. rw t refl) (λ e. rw e (found_same entries key))

-- rows with no line have the cells that they are made of
pub parts_held : (rows : List (List (List ℕ) × List (List ℕ))) → map parts_of (as_rows rows) ≡ rows
parts_held [] = refl
parts_held (row ∷ rows) = ap (λ l. row ∷ l) (parts_held rows)

-- a row is read after those of a part
module _ {R : Type 0} (rem : R → Option (List ℕ)) (places : Places) (source now next : Source R) where
  pub part_row : (rows after : List (List (List ℕ) × List (List ℕ))) (row : ReadRow) → ReadsOn rem places source now [] (as_rows rows) → GivesRecord rem now next true
      → IsPicked places (last_record next) row → after ≡ rows ++ ((row.key, row.cells) ∷ []) → ReadsOn rem places source next [] (as_rows after)
  part_row rows after row so gives is e =
      reads-and rem places source now [] (as_rows rows) next (as_rows after) (as_row (row.key, row.cells)) so gives is
      (ap as_rows e ∙ map-append as_row rows ((row.key, row.cells) ∷ []))

-- the keys of the rows that are held
held_keys : (entries : List (List (List ℕ) × Found)) → keys_of (map parts_of (held_rows entries)) ≡ keys_of entries
held_keys [] = refl
held_keys (entry ∷ entries) = ap (λ l. entry.0 ∷ l) (held_keys entries)

-- from what is read of two sources and written of them to what is written of two texts
module _ {R : Type 0} (rem : R → Option (List ℕ)) (layout : Layout) (how : Finding) (left right : Stream R) (sides : Two R) (columns : JoinColumns) (places : Places)
    (entries : List (List (List ℕ) × Found)) (header : List (List ℕ)) (old new : Option (List ℕ)) where
  abbrev names : List (List ℕ)
  names = found_names how.kind how.names columns

  pub lookup-streams : IsOpened rem layout.form Rows left sides.first → IsOpened rem layout.form Rows right sides.next
      → AreJoinColumns layout.key sides.first.source.value.header.names sides.next.source.value.header.names columns
      → PlacesOf sides.first.source.value columns.left places
      → ReadsRows rem columns.right sides.next.source.value [] (held_rows entries) → IsDistinct key_eq (keys_of entries)
      → header ≡ names → repeats [] header ≡ false
      → WritesBehind rem layout.form how.kind columns (found_under entries) places (heading_of_join layout.form header) sides.first.source.value old new
      → LooksUpStreams rem layout how left right old new
  lookup-streams first next columned placed reads unique named once writes =
      let left_header = sides.first.source.value.header.names in
      let right_header = sides.next.source.value.header.names in
      let find = cells_under (held_rows entries) in
      both-known {T = λ t u. LooksUpTexts layout how (form_of layout.form left) (form_of layout.form right) t u old new} _ _ first next (λ t u opened beside.
      let left_read = table-read rem columns.left places sides.first.source.value [] (as_rows writes.0) placed writes.1 _ _ t _ opened in
      let right_read = reads _ _ u _ beside in
      record {
        columns = columns;
        left_header = left_header;
        right_header = right_header;
        columned = columned;
        left = as_rows writes.0;
        right = held_rows entries;
        left_says = subst (IsTable (form_of layout.form left) Rows t left_header left_header columns.left) (sym left_read.1) left_read.2;
        right_says = subst (IsTable (form_of layout.form right) Rows u right_header right_header columns.right) (sym right_read.1) right_read.2;
        unique = subst (IsDistinct key_eq) (sym (held_keys entries)) unique;
        once = subst (λ l. repeats [] l ≡ false) named once;
        written = subst (λ rows. AppendsRows layout.form (heading_of_join layout.form names ++ rows) old new)
            (same_found columns how.kind (found_under entries) find (found_same entries) writes.0 ∙ ap (lookup_rows columns how.kind find) (sym (parts_held writes.0)))
            (subst (λ l. AppendsRows layout.form (heading_of_join layout.form l ++ lookup_rows columns how.kind (found_under entries) writes.0) old new) named writes.2);
      })
