use Rattle.std.proofs.Common.{subst₂}
use Rattle.std.specs.Prelude.{is_none}
use Rattle.keyed_tables.specs.Arranged.{noted}
use Rattle.keyed_commands.specs.AppliedTexts.{AnswersApplied}
use Rattle.keyed_commands.proofs.commands.apply.apply_in.Goals as goal

pub returns : goal.returns
returns c =
    let job = c.args.job.now in
    subst₂ (λ old changes. AnswersApplied job.form job.columns.now (noted job.order) (is_none job.row_order.files) old changes c.in_ok-answer.answer)
    c.in_ok-made.ensures.old c.in_ok-made.ensures.changes
    (record { fits = c.in_ok-answer.ensures.fits; misfits = c.in_ok-answer.ensures.misfits })
