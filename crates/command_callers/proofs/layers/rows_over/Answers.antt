use Rattle.std.proofs.Common.{[], ◌∷◌, refl}
use Rattle.std.proofs.lemmas.List.Sorted.{IsPermutation-refl}
use Rattle.std.proofs.lemmas.Result.{IfOk-weaker}
use Rattle.std.specs.Prelude.{codes}
use Rattle.csv.specs.Records.{field_at}
use Rattle.csv.specs.Writing.{escaped, fields_text, is_blank}
use Rattle.keyed_text.specs.TextStyles.{line_end_from, quoted_from}
use Rattle.keyed_columns.specs.ColumnNames.{distinct}
use Rattle.keyed_columns.specs.Names.{repeats}
use Rattle.keyed_columns.specs.Placed.{placed}
use Rattle.command_callers.specs.Answered.{plainly}
use Rattle.command_callers.proofs.KnownLayers.{of_two, overlay_whole}
use Rattle.command_callers.proofs.KnownStyles.{known_style}
use Rattle.command_callers.proofs.KnownTables.{known_text}
use Rattle.command_callers.proofs.LiteralTexts.{id_a, one_x, one_y, two_z, with_x, with_y_and_z}
use Rattle.command_callers.proofs.layers.rows_over.Goals as goal

pub returns : goal.returns
unfolding distinct escaped field_at fields_text is_blank line_end_from placed quoted_from repeats
returns c =
    IfOk-weaker c.overlay_two.result _ _ (λ answer told. record {
      file = overlay_whole (of_two _ _ _ _ _ _ _ _ told refl refl) (record { key = refl; renames = refl; order = refl }) id_a id_a (one_x ∷ []) (one_y ∷ two_z ∷ [])
          (known_text _ _ _ _ _ c.as_slice.ensures refl with_x refl) (known_text _ _ _ _ _ c.as_slice-2.ensures refl with_y_and_z refl)
          ((codes "1" ∷ [], codes "x" ∷ []) ∷ []) ((codes "1" ∷ [], codes "y" ∷ []) ∷ (codes "2" ∷ [], codes "z" ∷ []) ∷ []) (tt, tt) (tt, (refl, tt))
          (IsPermutation-refl _) (IsPermutation-refl _) plainly (known_style _ _ _ _ plainly c.as_slice.ensures refl refl);
      whole = refl;
    }) c.overlay_two.ensures
