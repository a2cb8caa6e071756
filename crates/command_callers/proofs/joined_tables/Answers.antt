use Rattle.std.proofs.Common.{◌≡◌, refl}
use Rattle.std.proofs.lemmas.List.Sorted.{IsPermutation-refl}
use Rattle.std.proofs.lemmas.Result.{IfOk-weaker}
use Rattle.csv.specs.Records.{field_at}
use Rattle.csv.specs.Writing.{escaped, fields_text, is_blank}
use Rattle.keyed_requests.specs.declared.request.Kind.TheVariants as kind
use Rattle.keyed_columns.specs.ColumnNames.{distinct}
use Rattle.keyed_columns.specs.Names.{repeats}
use Rattle.keyed_columns.specs.Placed.{placed}
use Rattle.keyed_files.specs.JoinedRows.{each_before}
use Rattle.command_callers.specs.Cases.{joined_text}
use Rattle.command_callers.proofs.KnownJoinText.{anti_bytes, inner_bytes, left_join_bytes, outer_bytes, right_join_bytes, semi_bytes}
use Rattle.command_callers.proofs.KnownTables.{known_text}
use Rattle.command_callers.proofs.LiteralTexts.{with_x_and_y, with_z_and_w}
use Rattle.command_callers.proofs.joined_tables.Goals as goal

pub returns-clause-status : goal.returns-clause-status
returns-clause-status c = IfOk-weaker c.join.result _ _ (λ answer told. (told refl).status) c.join.ensures.answer

pub returns-clause-bytes : goal.returns-clause-bytes
unfolding distinct each_before escaped field_at fields_text is_blank placed repeats
returns-clause-bytes c =
    IfOk-weaker c.join.result _ _ (λ answer told.
    let joins = told refl in
    let left = known_text _ _ _ _ _ c.as_slice.ensures refl with_x_and_y refl in
    let right = known_text _ _ _ _ _ c.as_slice-2.ensures refl with_z_and_w refl in
    (elim c.args.kind as (λ made. c.args.kind ≡ made → answer.bytes.items ≡ joined_text made) [
      | kind.Outer ↦ outer_bytes joins (record { key = refl; renames = refl; order = refl }) _ _ _ _ left right _ _ (tt, (refl, tt)) (tt, (refl, tt)) (IsPermutation-refl _) (IsPermutation-refl _)
      | kind.Inner ↦ inner_bytes joins (record { key = refl; renames = refl; order = refl }) _ _ _ _ left right _ _ (tt, (refl, tt)) (tt, (refl, tt)) (IsPermutation-refl _) (IsPermutation-refl _)
      | kind.Left ↦ left_join_bytes joins (record { key = refl; renames = refl; order = refl }) _ _ _ _ left right _ _ (tt, (refl, tt)) (tt, (refl, tt)) (IsPermutation-refl _) (IsPermutation-refl _)
      | kind.Right ↦ right_join_bytes joins (record { key = refl; renames = refl; order = refl }) _ _ _ _ left right _ _ (tt, (refl, tt)) (tt, (refl, tt)) (IsPermutation-refl _) (IsPermutation-refl _)
      | kind.Semi ↦ semi_bytes joins (record { key = refl; renames = refl; order = refl }) _ _ _ _ left right _ _ (tt, (refl, tt)) (tt, (refl, tt)) (IsPermutation-refl _) (IsPermutation-refl _)
      | kind.Anti ↦ anti_bytes joins (record { key = refl; renames = refl; order = refl }) _ _ _ _ left right _ _ (tt, (refl, tt)) (tt, (refl, tt)) (IsPermutation-refl _) (IsPermutation-refl _)
    ]) refl) c.join.ensures.answer
