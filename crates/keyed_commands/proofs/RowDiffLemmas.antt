-- Rows of two tables that are compared as wholes.
use Rattle.std.proofs.Common.{◌≡◌, ◌∙◌, ◌++◌, ◌∷◌, ℕ, List, [], Option, true, ap, subst}
use Rattle.std.specs.Prelude.{All, map, nat_eq}
use Rattle.std.specs.Cmp.Lexicographic.{bytes_decides, pointwise, pointwise_decides}
use Rattle.keyed_lines.specs.Parts.{AreAlike, IsAlike}
use Rattle.keyed_lines.specs.declared.compared.Part.{Part}
use Rattle.keyed_lines.specs.declared.compared.Part.TheVariants.{Kept, Removed, Added}
use Rattle.keyed_requests.specs.declared.request.Form.{Form}
use Rattle.keyed_requests.specs.declared.request.Format.{Format}
use Rattle.keyed_columns.specs.ChangedColumns.{marked_names}
use Rattle.keyed_columns.specs.ColumnNames.{AreColumns}
use Rattle.keyed_columns.specs.declared.columns.Columns.{Columns}
use Rattle.keyed_columns.specs.declared.content.Content.TheVariants.{Rows}
use Rattle.keyed_files.specs.Opening.{IsOpened, form_of}
use Rattle.keyed_files.specs.Reading.{ReadsRows}
use Rattle.keyed_files.specs.declared.opened.Stream.{Stream}
use Rattle.keyed_files.specs.declared.opened.Two.{Two}
use Rattle.keyed_files.specs.declared.source.Source.{Source}
use Rattle.keyed_rows.specs.declared.row.ReadRow.{ReadRow}
use Rattle.keyed_jobs.specs.declared.answer.Answer.{Answer}
use Rattle.keyed_jobs.proofs.ReadLemmas.{both-known}
use Rattle.keyed_commands.specs.RowDiff.{AnswersRows, DiffsRowSources, DiffsRowStreams, DiffsRowTexts, IsSameRow, ReadsCells, RowParts, have_same_columns}
use Rattle.keyed_commands.specs.declared.commands.row_diff.RowJob.{RowJob}

-- a row that stays and counts as the same has the same cells
same-row : (part : Part (List (List ℕ))) → IsAlike (pointwise (pointwise nat_eq)) part → IsSameRow part
same-row (Kept old new) e = (pointwise_decides bytes_decides old new).0 e
same-row (Removed old) e = e
same-row (Added new) e = e

pub same-rows : (parts : RowParts) → AreAlike (pointwise (pointwise nat_eq)) parts → All IsSameRow parts
same-rows parts alike k d l = same-row _ (alike k d l)

-- rows that are read after none are those that the text says
pub cells-read : {R : Type 0} (rem : R → Option (List ℕ)) (columns : Columns) (source : Source R) (none rows : List ReadRow) (cells : List (List (List ℕ)))
    → none ≡ [] → ReadsRows rem columns source none rows → cells ≡ map (λ row. row.cells) rows → ReadsCells rem columns source cells
cells-read rem columns source none rows cells empty reads are = λ form kind text header begun.
    let read = reads form kind text header begun in
    (read.0, read.2, are ∙ ap (map (λ row. row.cells)) (read.1 ∙ ap (λ l. l ++ read.0) empty))

-- what is answered of two sources is answered of their texts
module _ {R : Type 0} (rem : R → Option (List ℕ)) (form : Form) (format : Format) (old new : Stream R) (versions : Two R) (job : RowJob) (answer : Answer) where
  pub row-streams : IsOpened rem form Rows old versions.first → IsOpened rem form Rows new versions.next
      → have_same_columns versions.first.source.value.header.names versions.next.source.value.header.names ≡ true
      → AreColumns [] (versions.next.source.value.header.names ∷ versions.first.source.value.header.names ∷ []) job.columns.now
      → job.form ≡ form → job.how.format ≡ format
      → job.marked.now ≡ marked_names versions.first.source.value.header.names versions.next.source.value.header.names
      → DiffsRowSources rem job versions answer → DiffsRowStreams rem form format old new answer
  row-streams first next alike columned formed formatted marked read =
      both-known {T = λ t u. DiffsRowTexts form format (form_of form old) (form_of form new) t u answer} _ _ first next (λ t u opened beside. record {
        columns = job.columns.now;
        header = versions.first.source.value.header.names;
        next_header = versions.next.source.value.header.names;
        alike = alike;
        columned = columned;
        old = read.old;
        new = read.new;
        old_says = read.old_read _ _ t _ opened;
        new_says = read.new_read _ _ u _ beside;
        answers = subst (λ names. AnswersRows form format names read.old read.new answer) marked
            (subst (λ kind. AnswersRows form kind job.marked.now read.old read.new answer) formatted
            (subst (λ f. AnswersRows f job.how.format job.marked.now read.old read.new answer) formed read.answers));
      })
