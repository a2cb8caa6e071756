use Rattle.std.proofs.Common.{[], ◌∷◌, arith, refl}
use Rattle.std.proofs.lemmas.List.Sorted.{IsPermutation-refl, IsPermutation-swap}
use Rattle.std.specs.Prelude.{codes}
use Rattle.csv.specs.Records.{field_at}
use Rattle.csv.specs.Writing.{escaped, fields_text, is_blank}
use Rattle.keyed_text.specs.TextStyles.{line_end_from, quoted_from}
use Rattle.keyed_columns.specs.ColumnNames.{distinct}
use Rattle.keyed_columns.specs.Names.{repeats}
use Rattle.keyed_columns.specs.Placed.{placed}
use Rattle.command_callers.specs.Answered.{plainly}
use Rattle.command_callers.proofs.KnownApply.{known_changes}
use Rattle.command_callers.proofs.KnownDiff.{diff_bytes}
use Rattle.command_callers.proofs.KnownLaws.{and_so, made_other}
use Rattle.command_callers.proofs.KnownStyles.{known_style}
use Rattle.command_callers.proofs.KnownTables.{known_text}
use Rattle.command_callers.proofs.LiteralTexts.{change_id_a, from_xy_to_zw, id_a, minus_one_x, minus_two_y, one_x, one_z, plus_one_z, plus_three_w, three_w, two_y, with_w_then_z, with_x_and_y}
use Rattle.command_callers.proofs.laws.changes_applied.Goals as goal

pub returns : goal.returns
unfolding distinct escaped field_at fields_text is_blank line_end_from placed quoted_from repeats
returns c =
    let differs = c.in_ok-difference.ensures.csv refl in
    let old_known = known_text _ _ _ _ _ c.as_slice-text.ensures refl with_x_and_y refl in
    let new_known = known_text _ _ _ _ _ c.as_slice.ensures refl with_w_then_z refl in
    let bytes = diff_bytes differs (record { key = refl; renames = refl; order = refl }) id_a id_a (one_x ∷ two_y ∷ []) (three_w ∷ one_z ∷ []) old_known new_known
    ((codes "1" ∷ [], codes "x" ∷ []) ∷ (codes "2" ∷ [], codes "y" ∷ []) ∷ []) ((codes "1" ∷ [], codes "z" ∷ []) ∷ (codes "3" ∷ [], codes "w" ∷ []) ∷ [])
    (tt, (refl, tt)) (tt, (refl, tt)) (IsPermutation-refl _) (IsPermutation-swap _ _ 0 1 (omega arith) (omega arith) refl) in
    and_so c.apply.result c.apply.ensures.answer (λ answer told. record {
      file = made_other differs told refl refl refl refl c.as_slice-2.ensures.value c.law_diff_apply_texts.ensures.plain (record { key = refl; renames = refl; order = refl }) refl refl refl (refl, refl, refl, omega arith) tt
          id_a id_a change_id_a (one_x ∷ two_y ∷ []) (three_w ∷ one_z ∷ []) (minus_one_x ∷ plus_one_z ∷ minus_two_y ∷ plus_three_w ∷ [])
          c.as_slice-text.ensures with_x_and_y refl c.as_slice.ensures with_w_then_z refl (known_changes _ _ _ _ _ bytes refl from_xy_to_zw refl)
          ((codes "1" ∷ [], codes "z" ∷ []) ∷ (codes "3" ∷ [], codes "w" ∷ []) ∷ []) (tt, (refl, tt)) (IsPermutation-swap _ _ 0 1 (omega arith) (omega arith) refl)
          plainly (known_style _ _ _ _ plainly c.as_slice-text.ensures refl refl);
      whole = refl;
    })
