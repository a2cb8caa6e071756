use Rattle.std.proofs.Common.{[], ◌∷◌, refl}
use Rattle.std.proofs.lemmas.List.Sorted.{IsPermutation-refl}
use Rattle.std.proofs.lemmas.Result.{IfOk-weaker}
use Rattle.std.specs.Prelude.{codes}
use Rattle.csv.specs.Records.{field_at}
use Rattle.csv.specs.Writing.{escaped, fields_text, is_blank}
use Rattle.keyed_text.specs.TextStyles.{line_end_from, quoted_from}
use Rattle.keyed_columns.specs.ColumnNames.{distinct}
use Rattle.keyed_columns.specs.Names.{repeats}
use Rattle.keyed_columns.specs.Placed.{placed}
use Rattle.command_callers.specs.Answered.{fully}
use Rattle.command_callers.proofs.KnownMerge.{merge_unmarked}
use Rattle.command_callers.proofs.KnownStyles.{known_style}
use Rattle.command_callers.proofs.KnownTables.{known_text}
use Rattle.command_callers.proofs.LiteralTexts.{id_a, one_x, one_y, two_z, with_x, with_x_and_z, fully_with_y}
use Rattle.command_callers.proofs.laws.merged_with_marks.Goals as goal

pub returns : goal.returns
unfolding distinct escaped field_at fields_text is_blank line_end_from placed quoted_from repeats
returns c =
    IfOk-weaker c.merge.result _ _ (λ answer told.
    let merges = told refl in record {
      file = merge_unmarked merges (record { key = refl; renames = refl; order = refl }) id_a id_a id_a (one_x ∷ []) (one_y ∷ []) (one_x ∷ two_z ∷ [])
          (known_text _ _ _ _ _ c.as_slice.ensures refl with_x refl) (known_text _ _ _ _ _ c.as_slice-2.ensures refl fully_with_y refl) (known_text _ _ _ _ _ c.as_slice-3.ensures refl with_x_and_z refl)
          ((codes "1" ∷ [], codes "x" ∷ []) ∷ []) ((codes "1" ∷ [], codes "y" ∷ []) ∷ []) ((codes "1" ∷ [], codes "x" ∷ []) ∷ (codes "2" ∷ [], codes "z" ∷ []) ∷ []) (tt, tt) (tt, tt) (tt, (refl, tt))
          (IsPermutation-refl _) (IsPermutation-refl _) (IsPermutation-refl _)
          (c.law_marks.ensures _ _ _ _ _ _ _ _ _ merges) fully (known_style _ _ _ _ fully c.as_slice-2.ensures refl refl) refl (refl, (refl, tt)) refl;
      whole = refl;
    }) c.merge.ensures.answer
