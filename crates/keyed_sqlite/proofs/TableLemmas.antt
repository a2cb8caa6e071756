-- Rows that are written under a header.
use Rattle.std.proofs.Common.{◌≡◌, ℕ, List, [], ◌∷◌, ◌++◌, length}
use Rattle.std.specs.Prelude.{None, Option, Some, Vec, All}
use Rattle.std.proofs.lemmas.List.Elements.{All-nil, All-push}
use Rattle.keyed_text.specs.Streams.{HasWritten, PutsRows}
use Rattle.keyed_text.specs.Texts.{writer_by}
use Rattle.keyed_text.specs.declared.row_writer.RowWriter.{RowWriter}
use Rattle.keyed_sqlite.specs.Tables.{HaveCells, WritesTable, bytes_in}

-- a row of as many cells goes under the others
pub put_under : {M : Type 0} (old new : RowWriter (Vec ℕ M)) (row : List (List ℕ)) (width : ℕ)
    → PutsRows bytes_in old new (row ∷ []) → length row ≡ width → WritesTable width old → WritesTable width new
put_under old new row width puts is t =
    (t.0, t.1 ++ (row ∷ []), All-push (λ cells. length cells ≡ width) (t.0 ∷ t.1) row t.2 is, puts (writer_by 44 None) (Some []) (t.0 ∷ t.1) t.3)

-- the first row is the header
pub begin_with : {M : Type 0} (old new : RowWriter (Vec ℕ M)) (row : List (List ℕ)) (width : ℕ)
    → HasWritten (writer_by 44 None) bytes_in (Some []) [] [] old → PutsRows bytes_in old new (row ∷ []) → length row ≡ width → WritesTable width new
begin_with old new row width none puts is =
    let Wide : List (List ℕ) → Type 0 = λ cells. length cells ≡ width in
    (row, [], All-push Wide [] row (All-nil Wide) is, puts (writer_by 44 None) (Some []) [] none)
