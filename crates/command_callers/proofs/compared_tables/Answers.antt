use Rattle.std.proofs.Common.{◌≡◌, ◌∙◌, ◌++◌, [], ◌∷◌, true, ap, arith, refl, subst}
use Rattle.std.proofs.lemmas.Fmt.{decimal_digit}
use Rattle.std.proofs.lemmas.List.Sorted.{IsPermutation-refl, IsPermutation-swap}
use Rattle.std.proofs.lemmas.Result.{IfOk-weaker}
use Rattle.std.specs.Fmt.{decimal, digits}
use Rattle.std.specs.Prelude.{codes}
use Rattle.csv.specs.Records.{field_at}
use Rattle.csv.specs.Writing.{escaped, fields_text, is_blank}
use Rattle.eob_both.specs.declared.either_or_both.EitherOrBoth.TheVariants.{Left, Both, Right}
use Rattle.keyed_columns.specs.Alikes.{as_they_stand}
use Rattle.keyed_columns.specs.ColumnNames.{distinct}
use Rattle.keyed_columns.specs.Names.{repeats}
use Rattle.keyed_columns.specs.Placed.{placed}
use Rattle.keyed_reports.specs.SaidAfter.{counts_text, counts_with}
use Rattle.keyed_reports.specs.TableLines.{HasTextOfRows}
use Rattle.command_callers.proofs.KnownDiff.{diff_changed, diff_unchanged}
use Rattle.command_callers.proofs.KnownReport.{report_differs, report_same, report_table}
use Rattle.command_callers.proofs.KnownTables.{bare_text, known_text}
use Rattle.command_callers.proofs.LiteralTexts.{bare_x, bare_y, first_second, with_column, with_semicolons, with_w_then_z, with_x, with_x_and_y, with_y}
use Rattle.command_callers.proofs.compared_tables.Goals as goal

pub returns-in-ChangedRow : goal.returns-in-ChangedRow
unfolding distinct escaped field_at fields_text is_blank placed repeats
returns-in-ChangedRow c =
    rw c.in-ChangedRow.is (IfOk-weaker c.diff.result _ _ (λ answer told. diff_changed (told refl) (record { key = refl; renames = refl; order = refl }) _ _ _ _
    (known_text _ _ _ _ _ c.as_slice.ensures refl with_x refl) (known_text _ _ _ _ _ c.as_slice-in-ChangedRow.ensures refl with_y refl) _ _ (tt, tt) (tt, tt) (IsPermutation-refl _) (IsPermutation-refl _) refl refl) c.diff.ensures.csv)

pub returns-in-SameTable : goal.returns-in-SameTable
unfolding distinct escaped field_at fields_text is_blank placed repeats
returns-in-SameTable c =
    rw c.in-SameTable.is (IfOk-weaker c.diff-in-SameTable.result _ _ (λ answer told. diff_unchanged (told refl) (record { key = refl; renames = refl; order = refl }) _ _ _ _
    (known_text _ _ _ _ _ c.as_slice-in-SameTable.ensures refl with_x refl) (known_text _ _ _ _ _ c.as_slice-in-SameTable-2.ensures refl with_x refl) _ _ (tt, tt) (tt, tt) (IsPermutation-refl _) (IsPermutation-refl _) refl refl) c.diff-in-SameTable.ensures.csv)

pub returns-in-Semicolons : goal.returns-in-Semicolons
unfolding distinct escaped field_at fields_text is_blank placed repeats
returns-in-Semicolons c =
    rw c.in-Semicolons.is (IfOk-weaker c.diff-in-Semicolons.result _ _ (λ answer told. diff_unchanged (told refl) (record { key = refl; renames = refl; order = refl }) _ _ _ _
    (known_text _ _ _ _ _ c.as_slice-in-Semicolons.ensures refl with_semicolons refl) (known_text _ _ _ _ _ c.as_slice-in-Semicolons-2.ensures refl with_x refl) _ _ (tt, tt) (tt, tt) (IsPermutation-refl _) (IsPermutation-refl _) refl refl) c.diff-in-Semicolons.ensures.csv)

pub returns-in-NoHeader : goal.returns-in-NoHeader
unfolding digits distinct escaped field_at fields_text is_blank placed
returns-in-NoHeader c =
    rw c.in-NoHeader.is (IfOk-weaker c.diff-in-NoHeader.result _ _ (λ answer told. diff_changed (told refl) (record { key = refl; renames = refl; order = refl }) first_second first_second _ _
    (bare_text _ _ _ _ _ _ c.as_slice-in-NoHeader.ensures refl bare_x refl) (bare_text _ _ _ _ _ _ c.as_slice-in-NoHeader-2.ensures refl bare_y refl) _ _ (tt, tt) (tt, tt) (IsPermutation-refl _) (IsPermutation-refl _) refl refl) c.diff-in-NoHeader.ensures.csv)

pub returns-in-NewColumn : goal.returns-in-NewColumn
unfolding distinct escaped field_at fields_text is_blank placed repeats
returns-in-NewColumn c =
    rw c.in-NewColumn.is (IfOk-weaker c.diff-in-NewColumn.result _ _ (λ answer told. diff_changed (told refl) (record { key = refl; renames = refl; order = refl }) _ _ _ _
    (known_text _ _ _ _ _ c.as_slice-in-NewColumn.ensures refl with_x refl) (known_text _ _ _ _ _ c.as_slice-in-NewColumn-2.ensures refl with_column refl) _ _ (tt, tt) (tt, (refl, tt)) (IsPermutation-refl _) (IsPermutation-swap _ _ 0 1 (omega arith) (omega arith) refl) refl refl) c.diff-in-NewColumn.ensures.csv)

pub returns-in-ReportedRow : goal.returns-in-ReportedRow
unfolding distinct field_at repeats
returns-in-ReportedRow c =
    rw c.in-ReportedRow.is (IfOk-weaker c.diff-in-ReportedRow.result _ _ (λ answer told. report_differs (told tt refl) refl (record { key = refl; renames = refl; order = refl }) _ _ _ _
    (known_text _ _ _ _ _ c.as_slice-in-ReportedRow.ensures refl with_x refl) (known_text _ _ _ _ _ c.as_slice-in-ReportedRow-2.ensures refl with_y refl) _ _ (tt, tt) (tt, tt) (IsPermutation-refl _) (IsPermutation-refl _) refl refl) c.diff-in-ReportedRow.ensures.report)

pub returns-in-ReportedSame : goal.returns-in-ReportedSame
unfolding distinct field_at repeats
returns-in-ReportedSame c =
    rw c.in-ReportedSame.is (IfOk-weaker c.diff-in-ReportedSame.result _ _ (λ answer told. report_same (told tt refl) refl (record { key = refl; renames = refl; order = refl }) _ _ _ _
    (known_text _ _ _ _ _ c.as_slice-in-ReportedSame.ensures refl with_x refl) (known_text _ _ _ _ _ c.as_slice-in-ReportedSame-2.ensures refl with_x refl) _ _ (tt, tt) (tt, tt) (IsPermutation-refl _) (IsPermutation-refl _) refl refl) c.diff-in-ReportedSame.ensures.report)

-- the counts of a table of two rows, of which one changed and one was removed, and to which one was added
counted : counts_text (counts_with 2 1 1 1) ++ codes "\n" ≡ codes "1 added, 1 removed, 1 changed, 0 the same\n"
counted =
    ap (λ one. (one ++ (codes " added, " ++ (one ++ (codes " removed, " ++ (one ++ (codes " changed, " ++ (decimal 0 ++ codes " the same"))))))) ++ codes "\n")
    (decimal_digit 1 (omega arith))
    ∙ ap (λ none. (codes "1 added, 1 removed, 1 changed, " ++ (none ++ codes " the same")) ++ codes "\n") (decimal_digit 0 (omega arith))

pub returns-in-ToldRows : goal.returns-in-ToldRows
unfolding distinct field_at repeats
returns-in-ToldRows c =
    rw c.in-ToldRows.is (IfOk-weaker c.diff-in-ToldRows.result _ _ (λ answer told.
    let table = report_table (told tt refl) refl (record { key = refl; renames = refl; order = refl }) _ _ _ _
    (known_text _ _ _ _ _ c.as_slice-in-ToldRows.ensures refl with_x_and_y refl) (known_text _ _ _ _ _ c.as_slice-in-ToldRows-2.ensures refl with_w_then_z refl) _ _ (tt, (refl, tt)) (tt, (refl, tt)) (IsPermutation-refl _) (IsPermutation-swap _ _ 0 1 (omega arith) (omega arith) refl) (tt, refl) in (
      table.0,
      table.1,
      subst (λ after. HasTextOfRows (as_they_stand ∷ []) (true ∷ []) table.0
          ((codes "1" ∷ [], Both (codes "x" ∷ []) (codes "z" ∷ [])) ∷ (codes "2" ∷ [], Left (codes "y" ∷ [])) ∷ (codes "3" ∷ [], Right (codes "w" ∷ [])) ∷ [])
          after answer.bytes.items) counted table.2,
    )) c.diff-in-ToldRows.ensures.report)
