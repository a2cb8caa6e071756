use Rattle.std.proofs.Common.{◌∙◌, ap, ap₂, inl, inr, subst}
use Rattle.std.specs.Prelude.{is_none}
use Rattle.std.proofs.lemmas.Result.{IfErr-weaker, IfOk-weaker}
use Rattle.keyed_requests.specs.AnswerForm.{in_style}
use Rattle.keyed_tables.specs.Arranged.{noted}
use Rattle.keyed_jobs.specs.MadeChanges.{made_in, made_with, missing_by}
use Rattle.keyed_jobs.specs.NotedStyles.{IsStyleBy, watched_left}
use Rattle.keyed_jobs.specs.Turned.{changes_in}
use Rattle.keyed_commands.specs.PartlyAnswers.{AnswersPartly}
use Rattle.keyed_files.proofs.ReadingLemmas.{same-err}
use Rattle.keyed_commands.specs.Unanswered.{files_of}
use Rattle.keyed_commands.proofs.UnansweredLemmas.{apart-memory, change-unspelled, memory-apart}
use Rattle.keyed_commands.proofs.commands.partly.partly_files.Goals as goal

pub returns-clause-partly : goal.returns-clause-partly
returns-clause-partly g c =
    let tables = c.in_ok-tables.tables in
    let job = c.read_to_change.new.self in
    let style = c.style_under-style.result in
    let read = c.in_ok-tables.ensures in
    let how = c.args.how.now in
    let direction = c.args.direction in
    let source = c.args.inputs.now in
    let old = tables.0.pairs.items in
    let made = made_in source.first.source.value.header.names source.next.source.value.header.names c.args.job.columns.now direction old tables.1.pairs.items in
    let styled = c.in_style-job.result in
    let missing = rw c.in_ok-missing.ensures.value at c.missing_columns-missing.ensures
    ∙ ap₂ (λ before after. missing_by before after c.args.job.columns.now.rest) c.header-before.ensures c.header-after.ensures in
    IfOk-weaker c.at-2.result _ _
    (λ partly is. record {
      old = tables.0.pairs.items;
      changes = tables.1.pairs.items;
      old_read = read.table;
      changes_read = read.changes;
      notes = read.notes;
      applied = record {
        style = style;
        styled = subst (λ j. IsStyleBy j.form.writing.heading c.args.first_style style) read.same c.style_under-style.ensures;
        keys = noted job.order;
        by_cells = is_none job.row_order.files;
        applied = subst (λ j. AnswersPartly direction how partly (in_style style j.form) j.columns.now (noted job.order) (is_none job.row_order.files) old made)
            read.same
            (subst (λ j. AnswersPartly direction how partly j.form j.columns.now (noted j.order) (is_none j.row_order.files) old made)
            c.in_style-job.ensures
            (subst (λ missing. AnswersPartly direction how partly styled.form styled.columns.now (noted styled.order) (is_none styled.row_order.files) old (made_with missing old (changes_in direction tables.1.pairs.items)))
            missing (rw is at c.partly_in.ensures)));
        order = λ unordered. let after = read.unordered unordered in (after.keys, after.rows);
      };
    }) c.at-2.ensures.value

pub returns-in_err-missing-clause-why : goal.returns-in_err-missing-clause-why
returns-in_err-missing-clause-why g c =
    same-err c.from_residual.result c.in_err-missing.field-0.0 _ c.from_residual.ensures.1
    (inl (memory-apart _ c.in_err-missing.ensures.why.2, inr (inl c.in_err-missing.ensures.file)))

pub returns-in_err-tables-clause-why : goal.returns-in_err-tables-clause-why
returns-in_err-tables-clause-why g c =
    same-err c.from_residual-in_err-tables.result c.in_err-tables.field-0.0 _ c.from_residual-in_err-tables.ensures.1
    (inr c.in_err-tables.ensures.why)

pub returns-in_err-spelling-clause-why : goal.returns-in_err-spelling-clause-why
returns-in_err-spelling-clause-why g c =
    let read = c.in_ok-tables.ensures in
    let told = c.in_err-spelling.field-0.0 in
    same-err c.from_residual-in_err-spelling.result told _ c.from_residual-in_err-spelling.ensures.1
    (change-unspelled (watched_left g.R.Read.remaining) _ c.args.job.columns.now _ c.args.inputs.now c.read_to_change.new.inputs.first told read.first_named read.first_header
    (ap (λ job. job.columns.now) read.same) c.in_err-spelling.ensures.file c.in_err-spelling.ensures.why)

pub returns-clause-why : goal.returns-clause-why
returns-clause-why g c =
    IfErr-weaker c.at-2.result _ _ (λ fault apart. inl apart)
    (apart-memory c.at-2.result c.partly_in.result (files_of c.args.inputs.now) c.read_to_change.new.inputs.next.file (inr (inl c.in_ok-tables.ensures.next_named)) c.at-2.ensures.file c.at-2.ensures.why)
