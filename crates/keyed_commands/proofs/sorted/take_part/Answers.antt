use Rattle.std.proofs.Common.{inl, inr}
use Rattle.keyed_files.proofs.ReadingLemmas.{same-err}
use Rattle.keyed_commands.proofs.sorted.take_part.Goals as goal

pub returns-in_err-left-clause-why : goal.returns-in_err-left-clause-why
returns-in_err-left-clause-why g c =
    same-err c.from_residual.result c.in_err-left.field-0.0 _ c.from_residual.ensures.1
    (inl (c.in_err-left.ensures.file, c.in_err-left.ensures.why))

pub returns-in_err-right-clause-why : goal.returns-in_err-right-clause-why
returns-in_err-right-clause-why g c =
    same-err c.from_residual-in_err-right.result c.in_err-right.field-0.0 _ c.from_residual-in_err-right.ensures.1
    (inr (c.in_err-right.ensures.file, c.in_err-right.ensures.why))
