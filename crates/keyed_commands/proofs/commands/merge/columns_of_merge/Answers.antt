use Rattle.std.proofs.Common.{◌∷◌, [], inl, refl}
use Rattle.keyed_faults.specs.Outside.{IsApart}
use Rattle.keyed_files.proofs.ReadingLemmas.{same-err}
use Rattle.keyed_jobs.proofs.UnreadLemmas.{told-of}
use Rattle.keyed_commands.proofs.UnansweredLemmas.{apart-memory, memory-apart}
use Rattle.keyed_commands.proofs.commands.merge.columns_of_merge.Goals as goal

pub returns-in_err-all-clause-why : goal.returns-in_err-all-clause-why
returns-in_err-all-clause-why g c =
    same-err c.from_residual.result c.in_err-all.field-0.0 _ c.from_residual.ensures.1
    (told-of IsApart c.columns_of.result c.in_err-all.field-0.0 c.in_err-all.ensures.why c.columns_of.ensures.why, inl c.in_err-all.ensures.file)

pub returns-in_err-columns-clause-why : goal.returns-in_err-columns-clause-why
returns-in_err-columns-clause-why g c =
    same-err c.from_residual-in_err-columns.result c.in_err-columns.field-0.0 _ c.from_residual-in_err-columns.ensures.1
    (memory-apart _ c.in_err-columns.ensures.why.2, inl c.in_err-columns.ensures.file)

pub returns-clause-why : goal.returns-clause-why
returns-clause-why g c = apart-memory c.at-3.result c.spell_as.result (c.args.base.now.file ∷ []) c.args.base.now.file (inl refl) c.at-3.ensures.file c.at-3.ensures.why
