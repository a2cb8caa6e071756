use Rattle.std.proofs.Common.{[], ◌∷◌, refl}
use Rattle.std.proofs.lemmas.List.Sorted.{IsPermutation-refl}
use Rattle.std.proofs.lemmas.Result.{IfOk-weaker}
use Rattle.std.specs.Prelude.{codes}
use Rattle.csv.specs.Records.{field_at}
use Rattle.csv.specs.Writing.{escaped, fields_text, is_blank}
use Rattle.keyed_text.specs.TextStyles.{line_end_from, quoted_from}
use Rattle.keyed_columns.specs.ColumnNames.{distinct}
use Rattle.keyed_columns.specs.Names.{repeats}
use Rattle.keyed_columns.specs.Placed.{placed}
use Rattle.command_callers.specs.Answered.{plainly}
use Rattle.command_callers.proofs.KnownApply.{apply_whole, known_changes}
use Rattle.command_callers.proofs.KnownStyles.{known_style}
use Rattle.command_callers.proofs.KnownTables.{known_text}
use Rattle.command_callers.proofs.LiteralTexts.{change_id_a, from_x_to_y, minus_one_x, plus_one_y}
use Rattle.command_callers.proofs.SomeColumns.{id_b_a, one_u_x, with_u_x}
use Rattle.command_callers.proofs.some_columns.applied_column.Goals as goal

pub returns : goal.returns
unfolding distinct escaped field_at fields_text is_blank line_end_from placed quoted_from repeats
returns c =
    IfOk-weaker c.apply.result _ _ (λ answer told. record {
      file = apply_whole told (record { key = refl; renames = refl; order = refl }) id_b_a change_id_a (one_u_x ∷ []) (minus_one_x ∷ plus_one_y ∷ [])
          (known_text _ _ _ _ _ c.as_slice.ensures refl with_u_x refl) (known_changes _ _ _ _ _ c.as_slice-2.ensures refl from_x_to_y refl)
          ((codes "1" ∷ [], codes "u" ∷ codes "x" ∷ []) ∷ []) ((codes "1" ∷ [], [] ∷ codes "x" ∷ []) ∷ []) ((codes "1" ∷ [], [] ∷ codes "y" ∷ []) ∷ [])
          (tt, tt) (tt, tt) (tt, tt) (IsPermutation-refl _) (IsPermutation-refl _) (IsPermutation-refl _)
          (refl, tt) plainly (known_style _ _ _ _ plainly c.as_slice.ensures refl refl) refl;
      whole = refl;
    }) c.apply.ensures.answer
