use Rattle.std.proofs.Common.{[], ◌∷◌, refl}
use Rattle.std.proofs.lemmas.List.Sorted.{IsPermutation-refl}
use Rattle.std.proofs.lemmas.Result.{IfOk-weaker}
use Rattle.std.specs.Prelude.{codes}
use Rattle.csv.specs.Records.{field_at}
use Rattle.csv.specs.Writing.{escaped, fields_text, is_blank}
use Rattle.keyed_columns.specs.ColumnNames.{distinct}
use Rattle.keyed_columns.specs.Names.{repeats}
use Rattle.keyed_columns.specs.Placed.{placed}
use Rattle.keyed_files.specs.JoinedRows.{each_before}
use Rattle.command_callers.proofs.KnownJoinText.{outer_bytes}
use Rattle.command_callers.proofs.KnownTables.{known_text}
use Rattle.command_callers.proofs.LiteralTexts.{id_a, one_x, one_y, with_x, with_y}
use Rattle.command_callers.proofs.shared_column.Goals as goal

pub returns-clause-status : goal.returns-clause-status
returns-clause-status c = IfOk-weaker c.join.result _ _ (λ answer told. (told refl).status) c.join.ensures.answer

pub returns-clause-bytes : goal.returns-clause-bytes
unfolding distinct each_before escaped field_at fields_text is_blank placed repeats
returns-clause-bytes c =
    IfOk-weaker c.join.result _ _ (λ answer told. let joins = told refl in
    outer_bytes joins (record { key = refl; renames = refl; order = refl }) id_a id_a (one_x ∷ []) (one_y ∷ [])
    (known_text _ _ _ _ _ c.as_slice.ensures refl with_x refl) (known_text _ _ _ _ _ c.as_slice-2.ensures refl with_y refl)
    ((codes "1" ∷ [], codes "x" ∷ []) ∷ []) ((codes "1" ∷ [], codes "y" ∷ []) ∷ [])
    (tt, tt) (tt, tt) (IsPermutation-refl _) (IsPermutation-refl _) refl) c.join.ensures.answer
