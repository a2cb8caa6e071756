use Rattle.std.proofs.Common.{[], ◌∷◌, arith, refl}
use Rattle.std.proofs.lemmas.List.Sorted.{IsPermutation-refl, IsPermutation-swap}
use Rattle.std.proofs.lemmas.Result.{IfOk-weaker}
use Rattle.std.specs.Prelude.{codes}
use Rattle.csv.specs.Records.{field_at}
use Rattle.csv.specs.Writing.{escaped, fields_text, is_blank}
use Rattle.keyed_columns.specs.ColumnNames.{distinct}
use Rattle.keyed_columns.specs.Names.{repeats}
use Rattle.keyed_columns.specs.Placed.{placed}
use Rattle.command_callers.proofs.KnownLaws.{reads_changes}
use Rattle.command_callers.proofs.KnownTables.{known_text}
use Rattle.command_callers.proofs.LiteralTexts.{id_a, one_x, one_z, three_w, two_y, with_w_then_z, with_x_and_y}
use Rattle.command_callers.proofs.laws.changes_read.Goals as goal

pub returns : goal.returns
unfolding distinct escaped field_at fields_text is_blank placed repeats
returns c =
    IfOk-weaker c.diff.result _ _ (λ answer told. reads_changes (told refl) c.law_diff_reads.ensures (record { key = refl; renames = refl; order = refl })
    refl (refl, refl, refl, omega arith) tt id_a id_a (one_x ∷ two_y ∷ []) (three_w ∷ one_z ∷ [])
    (known_text _ _ _ _ _ c.as_slice.ensures refl with_x_and_y refl) (known_text _ _ _ _ _ c.as_slice-2.ensures refl with_w_then_z refl)
    ((codes "1" ∷ [], codes "x" ∷ []) ∷ (codes "2" ∷ [], codes "y" ∷ []) ∷ []) ((codes "1" ∷ [], codes "z" ∷ []) ∷ (codes "3" ∷ [], codes "w" ∷ []) ∷ [])
    (tt, (refl, tt)) (tt, (refl, tt)) (IsPermutation-refl _) (IsPermutation-swap _ _ 0 1 (omega arith) (omega arith) refl)) c.diff.ensures.csv
