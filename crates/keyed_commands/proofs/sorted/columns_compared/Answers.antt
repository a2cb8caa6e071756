use Rattle.std.proofs.Common.{inl, inr, refl}
use Rattle.std.proofs.lemmas.Result.{IfOk-weaker}
use Rattle.keyed_faults.specs.Outside.{IsApart}
use Rattle.keyed_files.proofs.ReadingLemmas.{same-err}
use Rattle.keyed_jobs.proofs.UnreadLemmas.{told-of}
use Rattle.keyed_commands.specs.Unanswered.{files_of}
use Rattle.keyed_commands.proofs.UnansweredLemmas.{apart-of}
use Rattle.keyed_commands.proofs.sorted.columns_compared.Goals as goal

pub returns-clause-columns : goal.returns-clause-columns
returns-clause-columns g c =
    IfOk-weaker c.at-3.result _ _ (λ columns is. (c.in_ok-columns.columns, c.in_ok-columns.ensures.columns, rw is at c.picked_columns.ensures.kept)) c.at-3.ensures.value

pub returns-in_err-columns-clause-why : goal.returns-in_err-columns-clause-why
returns-in_err-columns-clause-why g c =
    same-err c.from_residual.result c.in_err-columns.field-0.0 _ c.from_residual.ensures.1
    (c.in_err-columns.ensures.why, inl c.in_err-columns.ensures.file)

pub returns-in_err-tolerances-clause-why : goal.returns-in_err-tolerances-clause-why
returns-in_err-tolerances-clause-why g c =
    same-err c.from_residual-in_err-tolerances.result c.in_err-tolerances.field-0.0 _ c.from_residual-in_err-tolerances.ensures.1
    (told-of IsApart c.new.result c.in_err-tolerances.field-0.0 c.in_err-tolerances.ensures.why c.new.ensures.why, inr (inl c.in_err-tolerances.ensures.file))

pub returns-in_err-at-clause-why : goal.returns-in_err-at-clause-why
returns-in_err-at-clause-why g c =
    same-err c.from_residual-in_err-at.result c.in_err-at.field-0.0 _ c.from_residual-in_err-at.ensures.1
    (told-of IsApart c.check_known.result c.in_err-at.field-0.0 c.in_err-at.ensures.why c.check_known.ensures.why, inr (inl c.in_err-at.ensures.file))

pub returns-clause-why : goal.returns-clause-why
returns-clause-why g c =
    let versions = c.args.versions.now in
    apart-of c.at-3.result c.picked_columns.result (files_of versions) versions.next.file (inr (inl refl)) c.at-3.ensures.file c.at-3.ensures.why c.picked_columns.ensures.why
