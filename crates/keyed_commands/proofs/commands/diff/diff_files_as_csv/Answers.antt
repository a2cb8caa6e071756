use Rattle.std.proofs.Common.{◌∙◌, ap, ap₂, inl, inr, subst}
use Rattle.std.specs.Prelude.{is_none}
use Rattle.std.proofs.lemmas.Result.{IfErr-weaker, IfOk-weaker}
use Rattle.keyed_columns.specs.ChangedColumns.{marked_names}
use Rattle.keyed_columns.specs.Names.{compared}
use Rattle.keyed_tables.specs.Arranged.{noted}
use Rattle.keyed_jobs.specs.Answers.{IsDiffText}
use Rattle.keyed_jobs.proofs.ReadLemmas.{status-between}
use Rattle.keyed_files.proofs.ReadingLemmas.{same-err}
use Rattle.keyed_commands.specs.Unanswered.{files_of}
use Rattle.keyed_commands.proofs.UnansweredLemmas.{apart-memory}
use Rattle.keyed_commands.proofs.commands.diff.diff_files_as_csv.Goals as goal

pub returns-clause-answer : goal.returns-clause-answer
returns-clause-answer g c =
    let tables = c.in_ok-tables.tables in
    let marked = c.in_ok-marked.marked in
    let job = c.read_both.new.self in
    let read = c.in_ok-tables.ensures in
    let headers = c.column_changes.ensures ∙ ap₂ (λ before after. compared before after) (ap (λ header. header.names) read.first_header) (ap (λ header. header.names) read.next_header) in
    IfOk-weaker c.at.result _ _
    (λ answer is. record {
      old = tables.0.pairs.items;
      new = tables.1.pairs.items;
      old_read = read.first;
      new_read = read.next;
      notes = read.notes;
      changes = record {
        marked = marked;
        keys = noted job.order;
        by_cells = is_none job.row_order.files;
        changes = subst (λ j. IsDiffText j.form j.columns.now (noted job.order) (is_none job.row_order.files) marked tables.0.pairs.items tables.1.pairs.items answer.bytes.items)
            read.same (rw is at c.diff_as_csv-answer.ensures.text);
        order = λ unordered. let after = read.unordered unordered in (after.keys, after.rows);
      };
      marks = c.in_ok-marked.ensures.marked ∙ ap₂ marked_names (ap (λ header. header.names) read.first_header) (ap (λ header. header.names) read.next_header);
      status = status-between c.column_changes.result _ _ _ _ answer.status headers (rw is at c.diff_as_csv-answer.ensures.status);
    }) c.at.ensures.value

pub returns-in_err-tables-clause-why : goal.returns-in_err-tables-clause-why
returns-in_err-tables-clause-why g c =
    same-err c.from_residual.result c.in_err-tables.field-0.0 _ c.from_residual.ensures.1
    (inr c.in_err-tables.ensures.why)

pub returns-in_err-marked-clause-why : goal.returns-in_err-marked-clause-why
returns-in_err-marked-clause-why g c =
    same-err c.from_residual-in_err-marked.result c.in_err-marked.field-0.0 _ c.from_residual-in_err-marked.ensures.1
    (inl (c.in_err-marked.ensures.why, inr (inl (c.in_err-marked.ensures.file ∙ c.in_ok-tables.ensures.next_named))))

pub returns-clause-why : goal.returns-clause-why
returns-clause-why g c =
    IfErr-weaker c.at.result _ _ (λ fault apart. inl apart)
    (apart-memory c.at.result c.diff_as_csv-answer.result (files_of c.args.versions.now) c.read_both.new.tables.next.file (inr (inl c.in_ok-tables.ensures.next_named)) c.at.ensures.file c.at.ensures.why)
