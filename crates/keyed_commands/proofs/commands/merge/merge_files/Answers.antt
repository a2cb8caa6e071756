use Rattle.std.proofs.Common.{ap, inl, inr, subst}
use Rattle.std.specs.Prelude.{is_none}
use Rattle.std.proofs.lemmas.Result.{IfErr-weaker, IfOk-weaker}
use Rattle.keyed_requests.specs.AnswerForm.{in_style}
use Rattle.keyed_tables.specs.Arranged.{noted}
use Rattle.keyed_jobs.specs.MarkedText.{all_as_they_stand}
use Rattle.keyed_jobs.specs.NotedStyles.{IsStyleBy, watched_left}
use Rattle.keyed_commands.specs.MergedTexts.{AnswersAs}
use Rattle.keyed_files.proofs.ReadingLemmas.{same-err}
use Rattle.keyed_commands.specs.Unanswered.{files_of_three}
use Rattle.keyed_commands.proofs.UnansweredLemmas.{apart-of, merge-unspelled}
use Rattle.keyed_commands.proofs.commands.merge.merge_files.Goals as goal

pub returns-clause-answer : goal.returns-clause-answer
returns-clause-answer g c =
    let versions = c.in_ok-versions.versions in
    let job = c.read_versions.new.job in
    let style = c.style_under-style.result in
    let read = c.in_ok-versions.ensures in
    IfOk-weaker c.at.result _ _
    (λ answer is as_written. record {
      base = versions.base.pairs.items;
      ours = versions.ours.pairs.items;
      theirs = versions.theirs.pairs.items;
      base_read = read.base;
      ours_read = read.ours;
      theirs_read = read.theirs;
      notes = read.notes;
      merged = record {
        style = style;
        styled = subst (λ j. IsStyleBy j.form.writing.heading c.args.first_style style) read.same c.style_under-style.ensures;
        keys = noted job.order;
        by_cells = is_none job.row_order.files;
        merged = subst (λ j. AnswersAs (in_style style j.form) j.columns.now (noted job.order) (is_none job.row_order.files)
            versions.base.pairs.items versions.ours.pairs.items versions.theirs.pairs.items (all_as_they_stand j.columns.now) answer c.args.how.unit c.args.how.conflicts)
            read.same
            (subst (λ j. AnswersAs j.form j.columns.now (noted j.order) (is_none j.row_order.files)
            versions.base.pairs.items versions.ours.pairs.items versions.theirs.pairs.items (all_as_they_stand j.columns.now) answer c.args.how.unit c.args.how.conflicts)
            c.in_style-job.ensures ((rw is at c.merge_tables.ensures.answer) as_written));
        order = λ unordered. let after = read.unordered unordered in (after.keys, after.rows);
      };
    }) c.at.ensures.value

pub returns-in_err-versions-clause-why : goal.returns-in_err-versions-clause-why
returns-in_err-versions-clause-why g c =
    same-err c.from_residual.result c.in_err-versions.field-0.0 _ c.from_residual.ensures.1
    (inr c.in_err-versions.ensures.why)

pub returns-in_err-spelling-clause-why : goal.returns-in_err-spelling-clause-why
returns-in_err-spelling-clause-why g c =
    let read = c.in_ok-versions.ensures in
    let told = c.in_err-spelling.field-0.0 in
    same-err c.from_residual-in_err-spelling.result told _ c.from_residual-in_err-spelling.ensures.1
    (merge-unspelled (watched_left g.R.Read.remaining) _ c.args.job.columns.now _ c.args.base.now c.args.sides.now c.read_versions.new.sides.first told read.first_named read.first_header
    (ap (λ job. job.columns.now) read.same) c.in_err-spelling.ensures.file c.in_err-spelling.ensures.why)

pub returns-clause-why : goal.returns-clause-why
returns-clause-why g c =
    IfErr-weaker c.at.result _ _ (λ fault apart. inl apart)
    (apart-of c.at.result c.merge_tables.result (files_of_three c.args.base.now c.args.sides.now) c.read_versions.new.sides.next.file (inr (inr (inl c.in_ok-versions.ensures.next_named))) c.at.ensures.file c.at.ensures.why c.merge_tables.ensures.why)
