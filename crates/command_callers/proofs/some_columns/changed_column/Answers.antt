use Rattle.std.proofs.Common.{[], ◌∷◌, refl}
use Rattle.std.proofs.lemmas.List.Sorted.{IsPermutation-refl}
use Rattle.std.proofs.lemmas.Result.{IfOk-weaker}
use Rattle.std.specs.Prelude.{codes}
use Rattle.csv.specs.Records.{field_at}
use Rattle.csv.specs.Writing.{escaped, fields_text, is_blank}
use Rattle.keyed_columns.specs.ColumnNames.{distinct}
use Rattle.keyed_columns.specs.Names.{repeats}
use Rattle.keyed_columns.specs.Placed.{placed}
use Rattle.command_callers.proofs.KnownOnly.{only_bytes, only_differs}
use Rattle.command_callers.proofs.KnownTables.{known_text}
use Rattle.command_callers.proofs.SomeColumns.{id_b_a, one_u_x, one_v_y, only-a, with_u_x, with_v_y}
use Rattle.command_callers.proofs.some_columns.changed_column.Goals as goal

pub returns-clause-status : goal.returns-clause-status
unfolding distinct field_at repeats
returns-clause-status c =
    IfOk-weaker c.diff.result _ _ (λ answer told. only_differs (told refl) (record { key = refl; renames = refl; order = refl }) (codes "a" ∷ []) only-a id_b_a id_b_a (one_u_x ∷ []) (one_v_y ∷ [])
    (known_text _ _ _ _ _ c.as_slice.ensures refl with_u_x refl) (known_text _ _ _ _ _ c.as_slice-2.ensures refl with_v_y refl) ((codes "1" ∷ [], codes "x" ∷ []) ∷ [])
    ((codes "1" ∷ [], codes "y" ∷ []) ∷ []) (tt, tt) (tt, tt) (IsPermutation-refl _) (IsPermutation-refl _) refl refl) c.diff.ensures.csv

pub returns-clause-bytes : goal.returns-clause-bytes
unfolding distinct escaped field_at fields_text is_blank placed repeats
returns-clause-bytes c =
    IfOk-weaker c.diff.result _ _ (λ answer told. only_bytes (told refl) (record { key = refl; renames = refl; order = refl }) (codes "a" ∷ []) only-a id_b_a id_b_a (one_u_x ∷ []) (one_v_y ∷ [])
    (known_text _ _ _ _ _ c.as_slice.ensures refl with_u_x refl) (known_text _ _ _ _ _ c.as_slice-2.ensures refl with_v_y refl) ((codes "1" ∷ [], codes "x" ∷ []) ∷ [])
    ((codes "1" ∷ [], codes "y" ∷ []) ∷ []) (tt, tt) (tt, tt) (IsPermutation-refl _) (IsPermutation-refl _)) c.diff.ensures.csv
