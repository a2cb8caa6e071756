use Rattle.std.proofs.Common.{inl, inr, subst}
use Rattle.std.specs.Prelude.{is_none}
use Rattle.std.proofs.lemmas.Result.{IfErr-weaker, IfOk-weaker}
use Rattle.keyed_requests.specs.AnswerForm.{in_style}
use Rattle.keyed_tables.specs.Arranged.{noted}
use Rattle.keyed_jobs.specs.Answers.{IsTableFile}
use Rattle.keyed_jobs.specs.NotedStyles.{IsStyleBy}
use Rattle.keyed_commands.specs.OverlayAnswers.{rows_laid}
use Rattle.keyed_files.proofs.ReadingLemmas.{same-err}
use Rattle.keyed_commands.proofs.UnansweredLemmas.{IfErr-and, memory-apart}
use Rattle.keyed_commands.proofs.commands.overlay.overlay_files.Goals as goal

pub returns-clause-answer : goal.returns-clause-answer
returns-clause-answer g c =
    let laid = c.in_ok-laid.laid in
    let job = c.lay_all.new.job in
    let style = c.style_under-style.result in
    let read = c.in_ok-laid.ensures in
    IfOk-weaker c.at.result _ _
    (λ answer is. record {
      tables = read.laid.0;
      read = read.laid.1;
      notes = read.notes;
      overlaid = record {
        rows = rows_laid laid;
        keys = noted job.order;
        by_cells = is_none job.row_order.files;
        laid = read.laid.2;
        answers = record {
          style = style;
          styled = subst (λ j. IsStyleBy j.form.writing.heading c.args.first_style style) read.same c.style_under-style.ensures;
          text = subst (λ j. IsTableFile (in_style style j.form) j.columns.now (noted job.order) (is_none job.row_order.files) (rows_laid laid) answer.bytes.items)
              read.same
              (subst (λ j. IsTableFile j.form j.columns.now (noted j.order) (is_none j.row_order.files) (rows_laid laid) answer.bytes.items)
              c.in_style-job.ensures (rw is at c.answer_laid.ensures.text));
          status = rw is at c.answer_laid.ensures.status;
          outcome = rw is at c.answer_laid.ensures.outcome;
        };
        order = λ unordered. let after = read.unordered unordered in (after.keys, after.rows);
      };
    }) c.at.ensures.value

pub returns-in_err-laid-clause-why : goal.returns-in_err-laid-clause-why
returns-in_err-laid-clause-why g c =
    same-err c.from_residual.result c.in_err-laid.field-0.0 _ c.from_residual.ensures.1
    (inr c.in_err-laid.ensures.why)

pub returns-clause-why : goal.returns-clause-why
returns-clause-why g c =
    IfErr-weaker c.at.result _ _ (λ fault both. inl both)
    (IfErr-and c.at.result _ _ (IfErr-weaker c.at.result _ _ (λ fault why. memory-apart fault.reason why.2) c.at.ensures.why) c.at.ensures.file)
