use Rattle.std.proofs.Common.{[], ◌∷◌, refl}
use Rattle.std.proofs.lemmas.Result.{IfOk-weaker}
use Rattle.csv.specs.Records.{field_at}
use Rattle.csv.specs.Writing.{escaped, fields_text, is_blank}
use Rattle.keyed_columns.specs.ColumnNames.{distinct}
use Rattle.keyed_columns.specs.Names.{repeats}
use Rattle.keyed_columns.specs.Placed.{placed}
use Rattle.command_callers.proofs.KnownLookup.{adds_text}
use Rattle.command_callers.proofs.KnownTables.{known_text}
use Rattle.command_callers.proofs.LiteralTexts.{id_a, id_b, one_x, three_w, two_y, two_z, with_y_then_x, with_z_and_w}
use Rattle.command_callers.proofs.lookups.matched_rows.Goals as goal

pub returns-clause-bytes : goal.returns-clause-bytes
unfolding distinct escaped field_at fields_text is_blank placed repeats
returns-clause-bytes c =
    IfOk-weaker c.lookup.result _ _ (λ status told. let looks = told refl in
    adds_text looks refl id_a id_b (two_y ∷ one_x ∷ []) (two_z ∷ three_w ∷ []) (known_text _ _ _ _ _ c.as_slice.ensures refl with_y_then_x refl)
    (known_text _ _ _ _ _ c.as_slice-2.ensures refl with_z_and_w refl) refl refl (λ more. refl, tt)) c.lookup.ensures.text
