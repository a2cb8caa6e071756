use Rattle.std.proofs.Common.{[], ◌∷◌, refl, true≢false}
use Rattle.std.proofs.lemmas.List.Sorted.{IsPermutation-refl}
use Rattle.std.proofs.lemmas.Result.{IfOk-weaker}
use Rattle.std.specs.Prelude.{codes}
use Rattle.csv.specs.Records.{field_at}
use Rattle.csv.specs.Writing.{escaped, fields_text, is_blank}
use Rattle.eob_joins.specs.Marked.{GivesNothing, can_nothing}
use Rattle.eob_joins.specs.Versions.{merged}
use Rattle.keyed_text.specs.TextStyles.{line_end_from, quoted_from}
use Rattle.keyed_requests.specs.declared.merging.Unit.TheVariants as unit
use Rattle.keyed_columns.specs.ColumnNames.{distinct}
use Rattle.keyed_columns.specs.Names.{repeats}
use Rattle.keyed_columns.specs.Placed.{placed}
use Rattle.keyed_tables.proofs.CellRowLemmas.{merged_map}
use Rattle.keyed_tables.specs.RowsByCell.{GivesRow, can_by_row}
use Rattle.keyed_jobs.specs.Answers.{rows_eq}
use Rattle.command_callers.specs.Answered.{fully, plainly}
use Rattle.command_callers.proofs.KnownCells.{gives_once, merged_by_cell}
use Rattle.command_callers.proofs.KnownMerge.{merge_cells, merge_marked, merge_stops, merge_unresolved, merge_whole}
use Rattle.command_callers.proofs.KnownStyles.{known_style, table_in_style}
use Rattle.command_callers.proofs.KnownTables.{known_text}
use Rattle.command_callers.proofs.LiteralTexts.{fully_with_y, id_a, id_a_b, one_v_w, one_x, one_x_y, one_y, one_z, one_z_y, two_y, with_v_w, with_x, with_x_and_z, with_x_w, with_x_y, with_y, with_z, with_z_and_y, with_z_y}
use Rattle.command_callers.proofs.merged_versions.Goals as goal

pub returns-in-Rows : goal.returns-in-Rows
unfolding distinct escaped field_at fields_text is_blank line_end_from placed quoted_from repeats
returns-in-Rows c =
    rw c.in-Rows.is (IfOk-weaker c.merge.result _ _ (λ answer told. table_in_style (merge_whole (told refl) (record { key = refl; renames = refl; order = refl }) _ _ _ _ _ _
    (known_text _ _ _ _ _ c.as_slice.ensures refl with_x refl) (known_text _ _ _ _ _ c.as_slice-in-Rows.ensures refl fully_with_y refl) (known_text _ _ _ _ _ c.as_slice-in-Rows-2.ensures refl with_x_and_z refl)
    _ _ _ (tt, tt) (tt, tt) (tt, (refl, tt)) (IsPermutation-refl _) (IsPermutation-refl _) (IsPermutation-refl _) fully (known_style _ _ _ _ fully c.as_slice-in-Rows.ensures refl refl) refl refl (refl, (refl, tt)) refl) refl) c.merge.ensures.answer)

pub returns-in-RowConflict : goal.returns-in-RowConflict
unfolding distinct escaped field_at fields_text is_blank placed repeats
returns-in-RowConflict c =
    rw c.in-RowConflict.is (IfOk-weaker c.merge-in-RowConflict.result _ _ (λ answer told. merge_stops (told refl) (record { key = refl; renames = refl; order = refl }) _ _ _ _ _ _
    (known_text _ _ _ _ _ c.as_slice-in-RowConflict.ensures refl with_x refl) (known_text _ _ _ _ _ c.as_slice-in-RowConflict-2.ensures refl with_y refl) (known_text _ _ _ _ _ c.as_slice-in-RowConflict-3.ensures refl with_z refl)
    _ _ _ (tt, tt) (tt, tt) (tt, tt) (IsPermutation-refl _) (IsPermutation-refl _) (IsPermutation-refl _) refl refl (codes "1" ∷ []) refl) c.merge-in-RowConflict.ensures.answer)

pub returns-in-MarkedRow : goal.returns-in-MarkedRow
unfolding distinct escaped field_at fields_text is_blank line_end_from placed quoted_from repeats
returns-in-MarkedRow c =
    rw c.in-MarkedRow.is (IfOk-weaker c.merge-in-MarkedRow.result _ _ (λ answer told. merge_marked (told refl) (record { key = refl; renames = refl; order = refl }) id_a id_a id_a (one_x ∷ []) (one_y ∷ []) (one_z ∷ two_y ∷ [])
    (known_text _ _ _ _ _ c.as_slice-in-MarkedRow.ensures refl with_x refl) (known_text _ _ _ _ _ c.as_slice-in-MarkedRow-2.ensures refl with_y refl) (known_text _ _ _ _ _ c.as_slice-in-MarkedRow-3.ensures refl with_z_and_y refl)
    ((codes "1" ∷ [], codes "x" ∷ []) ∷ []) ((codes "1" ∷ [], codes "y" ∷ []) ∷ []) ((codes "1" ∷ [], codes "z" ∷ []) ∷ (codes "2" ∷ [], codes "y" ∷ []) ∷ []) (tt, tt) (tt, tt) (tt, (refl, tt)) (IsPermutation-refl _) (IsPermutation-refl _) (IsPermutation-refl _)
    unit.Row can_nothing GivesNothing (λ b p q v w given. absurd given) (merged rows_eq) (λ b o t rows are. are) refl refl ((λ settled. absurd (true≢false settled)), ((λ settled. refl), tt))
    plainly (known_style _ _ _ _ plainly c.as_slice-in-MarkedRow-2.ensures refl refl) refl refl _ (λ ends. refl)) c.merge-in-MarkedRow.ensures.answer)

pub returns-in-Cells : goal.returns-in-Cells
unfolding distinct escaped field_at fields_text is_blank line_end_from placed quoted_from repeats
returns-in-Cells c =
    rw c.in-Cells.is (IfOk-weaker c.merge-in-Cells.result _ _ (λ answer told. table_in_style (merge_cells (told refl) (record { key = refl; renames = refl; order = refl }) _ _ _ _ _ _
    (known_text _ _ _ _ _ c.as_slice-in-Cells.ensures refl with_x_y refl) (known_text _ _ _ _ _ c.as_slice-in-Cells-2.ensures refl with_z_y refl) (known_text _ _ _ _ _ c.as_slice-in-Cells-3.ensures refl with_x_w refl)
    _ _ _ (tt, tt) (tt, tt) (tt, tt) (IsPermutation-refl _) (IsPermutation-refl _) (IsPermutation-refl _) plainly (known_style _ _ _ _ plainly c.as_slice-in-Cells-2.ensures refl refl) refl refl (refl, tt)
    (merged_map (codes "x" ∷ codes "y" ∷ []) (codes "z" ∷ codes "y" ∷ []) (codes "x" ∷ codes "w" ∷ []) (codes "z" ∷ codes "w" ∷ []) refl refl, tt) refl) refl) c.merge-in-Cells.ensures.answer)

pub returns-in-CellConflict : goal.returns-in-CellConflict
unfolding distinct escaped field_at fields_text is_blank placed repeats
returns-in-CellConflict c =
    rw c.in-CellConflict.is (IfOk-weaker c.merge-in-CellConflict.result _ _ (λ answer told. merge_unresolved (told refl) (record { key = refl; renames = refl; order = refl }) _ _ _ _ _ _
    (known_text _ _ _ _ _ c.as_slice-in-CellConflict.ensures refl with_x refl) (known_text _ _ _ _ _ c.as_slice-in-CellConflict-2.ensures refl with_y refl) (known_text _ _ _ _ _ c.as_slice-in-CellConflict-3.ensures refl with_z refl)
    _ _ _ (tt, tt) (tt, tt) (tt, tt) (IsPermutation-refl _) (IsPermutation-refl _) (IsPermutation-refl _) refl refl (codes "1" ∷ []) refl) c.merge-in-CellConflict.ensures.answer)

pub returns-in-MarkedCell : goal.returns-in-MarkedCell
unfolding distinct escaped field_at fields_text is_blank line_end_from placed quoted_from repeats
returns-in-MarkedCell c =
    rw c.in-MarkedCell.is (IfOk-weaker c.merge-in-MarkedCell.result _ _ (λ answer told. merge_marked (told refl) (record { key = refl; renames = refl; order = refl }) id_a_b id_a_b id_a_b (one_x_y ∷ []) (one_z_y ∷ []) (one_v_w ∷ [])
    (known_text _ _ _ _ _ c.as_slice-in-MarkedCell.ensures refl with_x_y refl) (known_text _ _ _ _ _ c.as_slice-in-MarkedCell-2.ensures refl with_z_y refl) (known_text _ _ _ _ _ c.as_slice-in-MarkedCell-3.ensures refl with_v_w refl)
    ((codes "1" ∷ [], codes "x" ∷ codes "y" ∷ []) ∷ []) ((codes "1" ∷ [], codes "z" ∷ codes "y" ∷ []) ∷ []) ((codes "1" ∷ [], codes "v" ∷ codes "w" ∷ []) ∷ []) (tt, tt) (tt, tt) (tt, tt) (IsPermutation-refl _) (IsPermutation-refl _) (IsPermutation-refl _)
    unit.Cell can_by_row GivesRow gives_once merged_by_cell (λ b o t rows are. are) refl refl ((λ settled. absurd (true≢false settled)), tt)
    plainly (known_style _ _ _ _ plainly c.as_slice-in-MarkedCell-2.ensures refl refl) refl refl _ (λ ends. refl)) c.merge-in-MarkedCell.ensures.answer)
