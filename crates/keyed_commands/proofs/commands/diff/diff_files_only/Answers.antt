use Rattle.std.proofs.Common.{◌≡◌, ◌∙◌, ap, ap₂, inl, inr, subst}
use Rattle.std.specs.Prelude.{is_none}
use Rattle.std.proofs.lemmas.Result.{IfErr-weaker, IfOk-weaker}
use Rattle.keyed_columns.specs.ChangedColumns.{marked_columns}
use Rattle.keyed_columns.specs.Names.{compared}
use Rattle.keyed_tables.specs.Arranged.{noted}
use Rattle.keyed_jobs.specs.Answers.{IsDiffText}
use Rattle.keyed_jobs.specs.TablesRead.{IsStatusBetween}
use Rattle.keyed_jobs.proofs.ReadLemmas.{status-between}
use Rattle.keyed_commands.specs.Reported.{names_among}
use Rattle.keyed_files.proofs.ReadingLemmas.{same-err}
use Rattle.keyed_commands.specs.Unanswered.{files_of}
use Rattle.keyed_commands.proofs.UnansweredLemmas.{apart-kept, apart-memory, memory-apart}
use Rattle.keyed_commands.proofs.commands.diff.diff_files_only.Goals as goal

pub returns-clause-answer : goal.returns-clause-answer
returns-clause-answer g c =
    let tables = c.in_ok-tables.tables in
    let marked = c.in_ok-marked.marked in
    let job = c.read_both.new.self in
    let read = c.in_ok-tables.ensures in
    let before = c.args.versions.now.first.source.value.header.names in
    let after = c.args.versions.now.next.source.value.header.names in
    let first = rw c.in_ok-earlier.ensures.value at c.names_among-earlier.ensures in
    let next = rw c.in_ok-later.ensures.value at c.names_among-later.ensures in
    let headers = c.new-columns.ensures ∙ ap₂ (λ p q. compared p q)
    (first ∙ ap (names_among job.columns.now) (c.header.ensures ∙ ap (λ header. header.names) read.first_header))
    (next ∙ ap (names_among job.columns.now) (c.header-2.ensures ∙ ap (λ header. header.names) read.next_header)) in
    IfOk-weaker c.at-3.result _ _
    (λ answer is. record {
      old = tables.0.pairs.items;
      new = tables.1.pairs.items;
      old_read = read.first;
      new_read = read.next;
      notes = read.notes;
      changes = record {
        marked = marked;
        keys = noted job.order;
        by_cells = is_none job.row_order.files;
        changes = subst (λ j. IsDiffText j.form j.columns.now (noted job.order) (is_none job.row_order.files) marked tables.0.pairs.items tables.1.pairs.items answer.bytes.items)
            read.same (rw is at c.diff_as_csv-answer.ensures.text);
        order = λ unordered. let after = read.unordered unordered in (after.keys, after.rows);
      };
      marks = subst (λ j. marked ≡ marked_columns j.columns.now before after) read.same
          (c.in_ok-marked.ensures.marked ∙ ap₂ (marked_columns job.columns.now) (ap (λ header. header.names) read.first_header) (ap (λ header. header.names) read.next_header));
      status = subst (λ j. IsStatusBetween (names_among j.columns.now before) (names_among j.columns.now after) tables.0.pairs.items tables.1.pairs.items answer.status) read.same
          (status-between c.new-columns.result _ _ _ _ answer.status headers (rw is at c.diff_as_csv-answer.ensures.status));
    }) c.at-3.ensures.value

pub returns-in_err-tables-clause-why : goal.returns-in_err-tables-clause-why
returns-in_err-tables-clause-why g c =
    same-err c.from_residual.result c.in_err-tables.field-0.0 _ c.from_residual.ensures.1
    (inr c.in_err-tables.ensures.why)

pub returns-in_err-marked-clause-why : goal.returns-in_err-marked-clause-why
returns-in_err-marked-clause-why g c =
    same-err c.from_residual-in_err-marked.result c.in_err-marked.field-0.0 _ c.from_residual-in_err-marked.ensures.1
    (inl (apart-kept c.args.versions.now c.read_both.new.tables c.in_err-marked.field-0.0 c.in_ok-tables.ensures.first_named c.in_ok-tables.ensures.next_named c.in_err-marked.ensures.why))

pub returns-in_err-earlier-clause-why : goal.returns-in_err-earlier-clause-why
returns-in_err-earlier-clause-why g c =
    same-err c.from_residual-in_err-earlier.result c.in_err-earlier.field-0.0 _ c.from_residual-in_err-earlier.ensures.1
    (inl (memory-apart _ c.in_err-earlier.ensures.why.2, inl (c.in_err-earlier.ensures.file ∙ c.in_ok-tables.ensures.first_named)))

pub returns-in_err-later-clause-why : goal.returns-in_err-later-clause-why
returns-in_err-later-clause-why g c =
    same-err c.from_residual-in_err-later.result c.in_err-later.field-0.0 _ c.from_residual-in_err-later.ensures.1
    (inl (memory-apart _ c.in_err-later.ensures.why.2, inr (inl (c.in_err-later.ensures.file ∙ c.in_ok-tables.ensures.next_named))))

pub returns-clause-why : goal.returns-clause-why
returns-clause-why g c =
    IfErr-weaker c.at-3.result _ _ (λ fault apart. inl apart)
    (apart-memory c.at-3.result c.diff_as_csv-answer.result (files_of c.args.versions.now) c.read_both.new.tables.next.file (inr (inl c.in_ok-tables.ensures.next_named)) c.at-3.ensures.file c.at-3.ensures.why)
