use Rattle.std.proofs.Common.{[], ◌∷◌, refl}
use Rattle.std.proofs.lemmas.List.Sorted.{IsPermutation-refl}
use Rattle.std.specs.Prelude.{codes}
use Rattle.csv.specs.Records.{field_at}
use Rattle.csv.specs.Writing.{escaped, fields_text, is_blank}
use Rattle.keyed_requests.specs.declared.request.Colours.TheVariants.{Off}
use Rattle.keyed_requests.specs.declared.request.Look.TheVariants.{Table}
use Rattle.keyed_columns.specs.ColumnNames.{distinct}
use Rattle.keyed_columns.specs.Names.{repeats}
use Rattle.keyed_columns.specs.Placed.{placed}
use Rattle.keyed_jobs.specs.declared.answer.Answer.{Answer}
use Rattle.keyed_jobs.specs.declared.answer.Outcome.TheVariants.{Made}
use Rattle.command_callers.proofs.KnownDiff.{diff_bytes, diff_differs}
use Rattle.command_callers.proofs.KnownSorted.{as_whole}
use Rattle.command_callers.proofs.KnownTables.{known_text}
use Rattle.command_callers.proofs.LiteralTexts.{id_a, one_x, one_y, with_x, with_y}
use Rattle.command_callers.proofs.sorted.changed_row.Goals as goal

pub returns-clause-status : goal.returns-clause-status
unfolding distinct field_at repeats
returns-clause-status c =
    let answer : Answer = record { bytes = c.diff_sorted.new.output; status = c.in_ok-finished.finished.status; outcome = Made } in
    let whole = as_whole _ (Table Off) _ _ _ _ c.new-bytes.result.items answer c.new-bytes.ensures.items (c.in_ok-finished.ensures.whole refl) in
    diff_differs whole (record { key = refl; renames = refl; order = refl }) id_a id_a (one_x ∷ []) (one_y ∷ [])
    (known_text _ _ _ _ _ c.as_slice.ensures refl with_x refl) (known_text _ _ _ _ _ c.as_slice-2.ensures refl with_y refl) ((codes "1" ∷ [], codes "x" ∷ []) ∷ [])
    ((codes "1" ∷ [], codes "y" ∷ []) ∷ []) (tt, tt) (tt, tt) (IsPermutation-refl _) (IsPermutation-refl _) refl refl

pub returns-clause-bytes : goal.returns-clause-bytes
unfolding distinct escaped field_at fields_text is_blank placed repeats
returns-clause-bytes c =
    let answer : Answer = record { bytes = c.diff_sorted.new.output; status = c.in_ok-finished.finished.status; outcome = Made } in
    let whole = as_whole _ (Table Off) _ _ _ _ c.new-bytes.result.items answer c.new-bytes.ensures.items (c.in_ok-finished.ensures.whole refl) in
    diff_bytes whole (record { key = refl; renames = refl; order = refl }) id_a id_a (one_x ∷ []) (one_y ∷ [])
    (known_text _ _ _ _ _ c.as_slice.ensures refl with_x refl) (known_text _ _ _ _ _ c.as_slice-2.ensures refl with_y refl) ((codes "1" ∷ [], codes "x" ∷ []) ∷ [])
    ((codes "1" ∷ [], codes "y" ∷ []) ∷ []) (tt, tt) (tt, tt) (IsPermutation-refl _) (IsPermutation-refl _)
