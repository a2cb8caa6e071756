use Rattle.std.proofs.Common.{[], ◌∷◌, map, refl}
use Rattle.std.proofs.lemmas.List.Sorted.{IsPermutation-refl}
use Rattle.std.proofs.lemmas.Result.{IfOk-weaker}
use Rattle.csv.specs.Records.{field_at}
use Rattle.csv.specs.Writing.{escaped, fields_text, is_blank}
use Rattle.keyed_columns.specs.ColumnNames.{distinct}
use Rattle.keyed_columns.specs.Names.{repeats}
use Rattle.keyed_columns.specs.Placed.{placed}
use Rattle.keyed_tables.specs.Gathered.{alone}
use Rattle.command_callers.proofs.KnownLaws.{has_both}
use Rattle.command_callers.proofs.KnownSides.{both_are, both_rise, of_base, of_both, of_ours, of_theirs}
use Rattle.command_callers.proofs.KnownTables.{known_text}
use Rattle.command_callers.proofs.LiteralTexts.{id_a, one_x, one_z, three_w, two_y, with_x_and_w, with_x_and_y, with_z_and_y}
use Rattle.command_callers.proofs.laws.one_side_each.Goals as goal

pub returns : goal.returns
unfolding distinct escaped field_at fields_text is_blank placed repeats
returns c =
    IfOk-weaker c.merge.result _ _ (λ answer told made.
    let merges = told refl in (
      merges.merged.style,
      has_both merges c.law_one_side.ensures made (record { key = refl; renames = refl; order = refl }) id_a id_a id_a
          (one_x ∷ two_y ∷ []) (one_z ∷ two_y ∷ []) (one_x ∷ three_w ∷ [])
          (known_text _ _ _ _ _ c.as_slice.ensures refl with_x_and_y refl) (known_text _ _ _ _ _ c.as_slice-2.ensures refl with_z_and_y refl)
          (known_text _ _ _ _ _ c.as_slice-3.ensures refl with_x_and_w refl)
          of_base of_ours of_theirs (tt, (refl, tt)) (tt, (refl, tt)) (tt, (refl, tt))
          (IsPermutation-refl _) (IsPermutation-refl _) (IsPermutation-refl _)
          (map alone of_both) both_rise both_are,
    )) c.merge.ensures.answer
