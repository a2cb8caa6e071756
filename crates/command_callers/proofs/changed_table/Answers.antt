use Rattle.std.proofs.Common.{[], ◌∷◌, refl}
use Rattle.std.proofs.lemmas.List.Sorted.{IsPermutation-refl}
use Rattle.std.proofs.lemmas.Result.{IfOk-weaker}
use Rattle.std.specs.Prelude.{codes}
use Rattle.csv.specs.Records.{field_at}
use Rattle.csv.specs.Writing.{escaped, fields_text, is_blank}
use Rattle.keyed_text.specs.TextStyles.{line_end_from, quoted_from}
use Rattle.keyed_columns.specs.ColumnNames.{distinct}
use Rattle.keyed_columns.specs.Names.{repeats}
use Rattle.keyed_columns.specs.Placed.{placed}
use Rattle.command_callers.specs.Answered.{fully, plainly}
use Rattle.command_callers.proofs.KnownApply.{apply_loses, apply_stops, apply_whole, different, known_changes, same_cell, some_none}
use Rattle.command_callers.proofs.KnownStyles.{known_style, table_in_style}
use Rattle.command_callers.proofs.KnownTables.{known_text}
use Rattle.command_callers.proofs.LiteralTexts.{from_two_to_three, from_x_to_y, from_z_to_y, fully_with_y, ids, with_x, with_x_and_blank, with_x_and_y, without_column, without_y}
use Rattle.command_callers.proofs.changed_table.Goals as goal

pub returns-in-Misfit : goal.returns-in-Misfit
unfolding distinct field_at repeats
returns-in-Misfit c =
    rw c.in-Misfit.is (IfOk-weaker c.apply.result _ _ (λ answer told. apply_stops told (record { key = refl; renames = refl; order = refl }) _ _ _ _
    (known_text _ _ _ _ _ c.as_slice.ensures refl with_x refl) (known_changes _ _ _ _ _ c.as_slice-in-Misfit.ensures refl without_y refl) _ _ _ (tt, tt) (tt, tt) tt (IsPermutation-refl _) (IsPermutation-refl _) (IsPermutation-refl _)
    (λ fits. some_none _ (fits (codes "2" ∷ [])))) c.apply.ensures.answer)

pub returns-in-Stale : goal.returns-in-Stale
unfolding distinct field_at repeats
returns-in-Stale c =
    rw c.in-Stale.is (IfOk-weaker c.apply-in-Stale.result _ _ (λ answer told. apply_stops told (record { key = refl; renames = refl; order = refl }) _ _ _ _
    (known_text _ _ _ _ _ c.as_slice-in-Stale.ensures refl with_x refl) (known_changes _ _ _ _ _ c.as_slice-in-Stale-2.ensures refl from_z_to_y refl) _ _ _ (tt, tt) (tt, tt) (tt, tt) (IsPermutation-refl _) (IsPermutation-refl _) (IsPermutation-refl _)
    (λ fits. different (codes "z") (codes "x") refl (same_cell _ _ (fits (codes "1" ∷ []))))) c.apply-in-Stale.ensures.answer)

pub returns-in-Forward : goal.returns-in-Forward
unfolding distinct escaped field_at fields_text is_blank line_end_from placed quoted_from repeats
returns-in-Forward c =
    rw c.in-Forward.is (IfOk-weaker c.apply-in-Forward.result _ _ (λ answer told. table_in_style (apply_whole told (record { key = refl; renames = refl; order = refl }) _ _ _ _
    (known_text _ _ _ _ _ c.as_slice-in-Forward.ensures refl with_x refl) (known_changes _ _ _ _ _ c.as_slice-in-Forward-2.ensures refl from_x_to_y refl) _ _ _ (tt, tt) (tt, tt) (tt, tt) (IsPermutation-refl _) (IsPermutation-refl _) (IsPermutation-refl _)
    (refl, tt) plainly (known_style _ _ _ _ plainly c.as_slice-in-Forward.ensures refl refl) refl) refl) c.apply-in-Forward.ensures.answer)

pub returns-in-Backward : goal.returns-in-Backward
unfolding distinct escaped field_at fields_text is_blank line_end_from placed quoted_from repeats
returns-in-Backward c =
    rw c.in-Backward.is (IfOk-weaker c.apply-in-Backward.result _ _ (λ answer told. table_in_style (apply_whole told (record { key = refl; renames = refl; order = refl }) _ _ _ _
    (known_text _ _ _ _ _ c.as_slice-in-Backward.ensures refl fully_with_y refl) (known_changes _ _ _ _ _ c.as_slice-in-Backward-2.ensures refl from_x_to_y refl) _ _ _ (tt, tt) (tt, tt) (tt, tt) (IsPermutation-refl _) (IsPermutation-refl _) (IsPermutation-refl _)
    (refl, tt) fully (known_style _ _ _ _ fully c.as_slice-in-Backward.ensures refl refl) refl) refl) c.apply-in-Backward.ensures.answer)

pub returns-in-Keys : goal.returns-in-Keys
unfolding distinct escaped field_at fields_text is_blank line_end_from placed quoted_from repeats
returns-in-Keys c =
    rw c.in-Keys.is (IfOk-weaker c.apply-in-Keys.result _ _ (λ answer told. table_in_style (apply_whole told (record { key = refl; renames = refl; order = refl }) _ _ _ _
    (known_text _ _ _ _ _ c.as_slice-in-Keys.ensures refl ids refl) (known_changes _ _ _ _ _ c.as_slice-in-Keys-2.ensures refl from_two_to_three refl) _ _ _ (tt, (refl, tt)) (tt, tt) (tt, tt) (IsPermutation-refl _) (IsPermutation-refl _) (IsPermutation-refl _)
    (refl, (refl, tt)) plainly (known_style _ _ _ _ plainly c.as_slice-in-Keys.ensures refl refl) refl) refl) c.apply-in-Keys.ensures.answer)

pub returns-in-DroppedColumn : goal.returns-in-DroppedColumn
unfolding distinct escaped field_at fields_text is_blank line_end_from placed quoted_from repeats
returns-in-DroppedColumn c =
    rw c.in-DroppedColumn.is (IfOk-weaker c.apply-in-DroppedColumn.result _ _ (λ answer told. table_in_style (apply_whole told (record { key = refl; renames = refl; order = refl }) _ _ _ _
    (known_text _ _ _ _ _ c.as_slice-in-DroppedColumn.ensures refl with_x_and_blank refl) (known_changes _ _ _ _ _ c.as_slice-in-DroppedColumn-2.ensures refl without_column refl) _ _ _ (tt, (refl, tt)) (tt, tt) tt (IsPermutation-refl _) (IsPermutation-refl _) (IsPermutation-refl _)
    (refl, tt) plainly (known_style _ _ _ _ plainly c.as_slice-in-DroppedColumn.ensures refl refl) refl) refl) c.apply-in-DroppedColumn.ensures.answer)

pub returns-in-LostCell : goal.returns-in-LostCell
unfolding distinct field_at repeats
returns-in-LostCell c =
    rw c.in-LostCell.is (IfOk-weaker c.apply-in-LostCell.result _ _ (λ answer told. apply_loses told (record { key = refl; renames = refl; order = refl }) _ _ _ _
    (known_text _ _ _ _ _ c.as_slice-in-LostCell.ensures refl with_x_and_y refl) (known_changes _ _ _ _ _ c.as_slice-in-LostCell-2.ensures refl without_column refl) _ _ _ (tt, (refl, tt)) (tt, tt) tt (IsPermutation-refl _) (IsPermutation-refl _) (IsPermutation-refl _)
    (refl, tt) refl) c.apply-in-LostCell.ensures.answer)
