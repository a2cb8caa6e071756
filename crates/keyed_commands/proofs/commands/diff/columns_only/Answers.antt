use Rattle.std.proofs.lemmas.Result.{IfOk-weaker}
use Rattle.std.proofs.Common.{inl, inr, refl}
use Rattle.keyed_files.proofs.ReadingLemmas.{same-err}
use Rattle.keyed_commands.specs.Unanswered.{files_of}
use Rattle.keyed_commands.proofs.UnansweredLemmas.{apart-of}
use Rattle.keyed_commands.proofs.commands.diff.columns_only.Goals as goal

pub returns-clause-columns : goal.returns-clause-columns
returns-clause-columns g c = IfOk-weaker c.at.result _ _ (λ columns is. (c.in_ok-all.all, c.in_ok-all.ensures.columns, rw is at c.picked_columns-picked.ensures.kept)) c.at.ensures.value

pub returns-in_err-all-clause-why : goal.returns-in_err-all-clause-why
returns-in_err-all-clause-why g c =
    same-err c.from_residual.result c.in_err-all.field-0.0 _ c.from_residual.ensures.1 (c.in_err-all.ensures.why, inl c.in_err-all.ensures.file)

pub returns-clause-why : goal.returns-clause-why
returns-clause-why g c = apart-of c.at.result c.picked_columns-picked.result (files_of c.args.versions.now) c.args.versions.now.next.file (inr (inl refl)) c.at.ensures.file c.at.ensures.why c.picked_columns-picked.ensures.why
