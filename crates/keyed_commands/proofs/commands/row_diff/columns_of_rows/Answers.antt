use Rattle.std.proofs.Common.{inl}
use Rattle.keyed_files.proofs.ReadingLemmas.{same-err}
use Rattle.keyed_commands.proofs.UnansweredLemmas.{memory-apart}
use Rattle.keyed_commands.proofs.commands.row_diff.columns_of_rows.Goals as goal

pub returns-in_err-columns-clause-why : goal.returns-in_err-columns-clause-why
returns-in_err-columns-clause-why g c =
    same-err c.from_residual.result c.in_err-columns.field-0.0 _ c.from_residual.ensures.1
    (memory-apart _ c.in_err-columns.ensures.why.2, inl c.in_err-columns.ensures.file)
