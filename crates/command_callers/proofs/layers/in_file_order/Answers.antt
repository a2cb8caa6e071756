use Rattle.std.proofs.Common.{[], ◌∷◌, arith, refl}
use Rattle.std.proofs.lemmas.List.Sorted.{IsPermutation-swap}
use Rattle.std.proofs.lemmas.Result.{IfOk-weaker}
use Rattle.std.specs.Prelude.{codes}
use Rattle.csv.specs.Records.{field_at}
use Rattle.csv.specs.Writing.{escaped, fields_text, is_blank}
use Rattle.keyed_text.specs.TextStyles.{line_end_from, quoted_from}
use Rattle.keyed_columns.specs.ColumnNames.{distinct}
use Rattle.keyed_columns.specs.Names.{repeats}
use Rattle.keyed_columns.specs.Placed.{placed}
use Rattle.command_callers.specs.Answered.{plainly}
use Rattle.command_callers.proofs.KnownOrder.{in_file_order, of_one}
use Rattle.command_callers.proofs.KnownStyles.{known_style}
use Rattle.command_callers.proofs.KnownTables.{known_text}
use Rattle.command_callers.proofs.LiteralTexts.{id_a, one_x, two_y, with_y_then_x}
use Rattle.command_callers.proofs.layers.in_file_order.Goals as goal

pub returns : goal.returns
unfolding distinct escaped field_at fields_text is_blank line_end_from placed quoted_from repeats
returns c =
    IfOk-weaker c.overlay_one.result _ _ (λ answer told. record {
      file = in_file_order (of_one _ _ _ _ _ _ told refl) refl refl id_a (two_y ∷ one_x ∷ [])
          (known_text _ _ _ _ _ c.as_slice.ensures refl with_y_then_x refl)
          (codes "1" ∷ [], codes "x" ∷ []) (codes "2" ∷ [], codes "y" ∷ []) (tt, (refl, tt)) (IsPermutation-swap _ _ 0 1 (omega arith) (omega arith) refl)
          ((codes "2" ∷ []) ∷ (codes "1" ∷ []) ∷ []) refl refl plainly (known_style _ _ _ _ plainly c.as_slice.ensures refl refl);
      whole = refl;
    }) c.overlay_one.ensures
