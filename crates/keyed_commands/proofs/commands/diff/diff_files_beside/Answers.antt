use Rattle.std.proofs.Common.{◌≡◌, ◌∙◌, ap, ap₂, inl, inr, subst}
use Rattle.std.specs.Prelude.{◌||◌, is_none}
use Rattle.std.proofs.lemmas.Result.{IfErr-weaker, IfOk-weaker}
use Rattle.keyed_columns.specs.ChangedColumns.{marked_names}
use Rattle.keyed_columns.specs.Names.{compared, has_lone}
use Rattle.keyed_tables.specs.Arranged.{noted}
use Rattle.keyed_jobs.specs.Answers.{columns_differ}
use Rattle.keyed_jobs.specs.Beside.{AnswersBeside}
use Rattle.keyed_jobs.specs.TablesRead.{headers_differ}
use Rattle.keyed_files.proofs.ReadingLemmas.{same-err}
use Rattle.keyed_faults.specs.Outside.{IsApart}
use Rattle.keyed_jobs.proofs.UnreadLemmas.{told-of}
use Rattle.keyed_commands.specs.Unanswered.{files_of}
use Rattle.keyed_commands.proofs.UnansweredLemmas.{apart-memory}
use Rattle.keyed_commands.proofs.commands.diff.diff_files_beside.Goals as goal

pub returns-clause-answer : goal.returns-clause-answer
returns-clause-answer g c =
    let tables = c.in_ok-tables.tables in
    let marked = c.in_ok-marked.marked in
    let job = c.read_both.new.self in
    let read = c.in_ok-tables.ensures in
    let before = c.args.versions.now.first.source.value.header.names in
    let after = c.args.versions.now.next.source.value.header.names in
    let headers = c.column_changes.ensures ∙ ap₂ (λ before after. compared before after) (ap (λ header. header.names) read.first_header) (ap (λ header. header.names) read.next_header) in
    let marks = c.in_ok-marked.ensures.marked ∙ ap₂ marked_names (ap (λ header. header.names) read.first_header) (ap (λ header. header.names) read.next_header) in
    let differ : columns_differ c.column_changes.result ≡ headers_differ before after = ap (λ p. has_lone p.0 p.1 || has_lone p.1 p.0) headers in
    IfOk-weaker c.at-2.result _ _
    (λ answer is. record {
      old = tables.0.pairs.items;
      new = tables.1.pairs.items;
      old_read = read.first;
      new_read = read.next;
      notes = read.notes;
      beside = record {
        compared = c.in_ok-compared.compared.items;
        are = rw (c.header-before.ensures, c.header-after.ensures) at (rw c.in_ok-compared.ensures.value at c.compared_columns-compared.ensures.compared);
        keys = noted job.order;
        by_cells = is_none job.row_order.files;
        changes = subst (λ j. AnswersBeside j.form j.columns.now (noted job.order) (is_none job.row_order.files) c.in_ok-compared.compared.items (marked_names before after) (headers_differ before after)
            tables.0.pairs.items tables.1.pairs.items answer) read.same
            (subst (λ m. AnswersBeside job.form job.columns.now (noted job.order) (is_none job.row_order.files) c.in_ok-compared.compared.items m (headers_differ before after)
            tables.0.pairs.items tables.1.pairs.items answer) marks
            (subst (λ d. AnswersBeside job.form job.columns.now (noted job.order) (is_none job.row_order.files) c.in_ok-compared.compared.items marked d
            tables.0.pairs.items tables.1.pairs.items answer) differ
            (subst (λ k. AnswersBeside job.form job.columns.now (noted job.order) (is_none job.row_order.files) k marked (columns_differ c.column_changes.result)
            tables.0.pairs.items tables.1.pairs.items answer) c.deref.ensures.value (rw is at c.diff_beside-answer.ensures))));
        order = λ unordered. let after = read.unordered unordered in (after.keys, after.rows);
      };
    }) c.at-2.ensures.value

pub returns-in_err-compared-clause-why : goal.returns-in_err-compared-clause-why
returns-in_err-compared-clause-why g c =
    same-err c.from_residual.result c.in_err-compared.field-0.0 _ c.from_residual.ensures.1
    (inl (
      told-of IsApart c.compared_columns-compared.result c.in_err-compared.field-0.0 c.in_err-compared.ensures.why c.compared_columns-compared.ensures.why,
      inr (inl c.in_err-compared.ensures.file),
    ))

pub returns-in_err-tables-clause-why : goal.returns-in_err-tables-clause-why
returns-in_err-tables-clause-why g c =
    same-err c.from_residual-in_err-tables.result c.in_err-tables.field-0.0 _ c.from_residual-in_err-tables.ensures.1
    (inr c.in_err-tables.ensures.why)

pub returns-in_err-marked-clause-why : goal.returns-in_err-marked-clause-why
returns-in_err-marked-clause-why g c =
    same-err c.from_residual-in_err-marked.result c.in_err-marked.field-0.0 _ c.from_residual-in_err-marked.ensures.1
    (inl (c.in_err-marked.ensures.why, inr (inl (c.in_err-marked.ensures.file ∙ c.in_ok-tables.ensures.next_named))))

pub returns-clause-why : goal.returns-clause-why
returns-clause-why g c =
    IfErr-weaker c.at-2.result _ _ (λ fault apart. inl apart)
    (apart-memory c.at-2.result c.diff_beside-answer.result (files_of c.args.versions.now) c.read_both.new.tables.next.file (inr (inl c.in_ok-tables.ensures.next_named)) c.at-2.ensures.file c.at-2.ensures.why)
