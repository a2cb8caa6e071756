use Rattle.std.proofs.Common.{inr}
use Rattle.keyed_files.proofs.ReadingLemmas.{same-err}
use Rattle.keyed_files.proofs.opened.Opened.rename.Goals as goal

pub returns-clause-named : goal.returns-clause-named
returns-clause-named g c = (c.rename_key.new.self.source.value, c.in_ok-rename_key.ensures.renamed, c.in_ok-rename_key-2.ensures.renamed)

pub returns-in_err-rename_key-2-clause-why : goal.returns-in_err-rename_key-2-clause-why
returns-in_err-rename_key-2-clause-why g c =
    same-err c.from_residual-in_err-rename_key-2.result c.in_err-rename_key-2.field-0.0 _ c.from_residual-in_err-rename_key-2.ensures.1
    (inr (c.rename_key.new.self.source.value, c.in_ok-rename_key.ensures.renamed, c.in_err-rename_key-2.ensures.why))
