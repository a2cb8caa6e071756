-- The rows that a text begins with, up to a key.
use Rattle.std.specs.Prelude.{◌≡◌, ◌∷◌, ◌++◌, ℕ, List, [], ⊤, true, Option, None, Some, map}
use Rattle.std.specs.List.{AllByRecursion}
use Rattle.std.specs.List.Sorted.{IsStrictlySortedBy}
use Rattle.std.specs.declared.cmp.Ordering.TheVariants.{Less}
use Rattle.keyed_rows.specs.declared.row.ReadRow.{ReadRow}
use Rattle.keyed_text.specs.Texts.{AreRows}
use Rattle.keyed_requests.specs.FormBytes.{comment_of, delimiter_of}
use Rattle.keyed_requests.specs.declared.request.Form.{Form}
use Rattle.keyed_columns.specs.declared.columns.Columns.{Columns}
use Rattle.keyed_columns.specs.declared.content.Content.{Content}
use Rattle.keyed_files.specs.Parts.{is_within, key_cmp, keys_in}
use Rattle.keyed_files.specs.Reading.{IsOpen, IsTable, parts_of}
use Rattle.keyed_files.specs.declared.source.Source.{Source}
use Rattle.keyed_tables.specs.Gathered.{alone}
use Rattle.keyed_jobs.specs.Answers.{TableRows}

-- rows of which each is a group of its own
abbrev pub table_of : List ReadRow → TableRows
table_of rows = map alone (map parts_of rows)

-- of the rest of a table no row is within a bound, as far as keys are strictly increasing: its first one is not, if its key is greater than those
-- before it; where there is no bound there is no rest
abbrev pub IsBeyond : Option (List (List ℕ)) → List ReadRow → List ReadRow → Type 0
IsBeyond None rows rest = rest ≡ []
IsBeyond (Some bound) rows [] = ⊤
IsBeyond (Some bound) rows (row ∷ rest) = IsStrictlySortedBy key_cmp (keys_in (rows ++ row ∷ [])) → key_cmp bound row.key ≡ Less

-- a text says a table that begins with these rows: their keys are strictly increasing, and they are those within a bound
pub record BeginsWith (form : Form) (kind : Content) (text : List ℕ) (header names : List (List ℕ)) (columns : Columns) (bound : Option (List (List ℕ))) (rows : List ReadRow) : Type 0 where
  pub rises : IsStrictlySortedBy key_cmp (keys_in rows)
  pub within : AllByRecursion (λ row. is_within row.key bound ≡ true) rows
  pub says : (records : List (List (List ℕ))) → AreRows (delimiter_of form) (comment_of form) text records
      → (rest : List ReadRow) × IsTable form kind text header names columns (rows ++ rest) × IsBeyond bound rows rest

-- a source begins with these rows, as its text does
abbrev pub ReadsFirst : {R : Type 0} → (R → Option (List ℕ)) → Columns → Source R → Option (List (List ℕ)) → List ReadRow → Type 0
ReadsFirst remaining columns source bound rows = (form : Form) (kind : Content) (text : List ℕ) (header : List (List ℕ))
    → IsOpen form kind remaining text header source → BeginsWith form kind text header source.header.names columns bound rows
