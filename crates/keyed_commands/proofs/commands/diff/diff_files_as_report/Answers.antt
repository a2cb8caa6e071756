use Rattle.std.proofs.Common.{◌∙◌, ap, ap₂, inl, inr, subst}
use Rattle.std.specs.Prelude.{is_none}
use Rattle.std.proofs.lemmas.Result.{IfErr-weaker, IfOk-weaker}
use Rattle.keyed_columns.specs.Names.{compared}
use Rattle.keyed_tables.specs.Arranged.{noted}
use Rattle.keyed_jobs.specs.TablesRead.{IsStatusBetween}
use Rattle.keyed_jobs.proofs.ReadLemmas.{status-between}
use Rattle.keyed_commands.specs.Reported.{IsTold, TellsChanges, names_among}
use Rattle.keyed_files.proofs.ReadingLemmas.{same-err}
use Rattle.keyed_commands.specs.Unanswered.{files_of}
use Rattle.keyed_commands.proofs.UnansweredLemmas.{apart-of, memory-apart}
use Rattle.keyed_commands.proofs.commands.diff.diff_files_as_report.Goals as goal

pub returns-clause-answer : goal.returns-clause-answer
returns-clause-answer g c =
    let tables = c.in_ok-tables.tables in
    let job = c.read_both.new.self in
    let read = c.in_ok-tables.ensures in
    let before = c.args.versions.now.first.source.value.header.names in
    let after = c.args.versions.now.next.source.value.header.names in
    let first = rw c.in_ok-before.ensures.value at c.names_among-before.ensures in
    let next = rw c.in_ok-after.ensures.value at c.names_among-after.ensures in
    let headers = c.new-columns.ensures ∙ ap₂ (λ p q. compared p q)
    (first ∙ ap (names_among job.columns.now) (c.header.ensures ∙ ap (λ header. header.names) read.first_header))
    (next ∙ ap (names_among job.columns.now) (c.header-2.ensures ∙ ap (λ header. header.names) read.next_header)) in
    IfOk-weaker c.at-3.result _ _
    (λ answer is whole looks. record {
      old = tables.0.pairs.items;
      new = tables.1.pairs.items;
      old_read = read.first;
      new_read = read.next;
      status = subst (λ j. IsStatusBetween (names_among j.columns.now before) (names_among j.columns.now after) tables.0.pairs.items tables.1.pairs.items answer.status) read.same
          (status-between c.new-columns.result _ _ _ _ answer.status headers (let told = rw is at c.diff_as_report-answer.ensures.status in told whole));
      notes = read.notes;
      told = record {
        keys = noted job.order;
        by_cells = is_none job.row_order.files;
        table = λ is_told. subst (λ j. TellsChanges c.args.how.view j.groups j.columns.now (noted job.order) (is_none job.row_order.files)
            tables.0.pairs.items tables.1.pairs.items answer.bytes.items) read.same
            (let tells = rw is at c.diff_as_report-answer.ensures.table in tells whole (subst (λ format. IsTold format c.args.how.view) looks is_told));
        order = λ unordered. let after = read.unordered unordered in (after.keys, after.rows);
      };
    }) c.at-3.ensures.value

pub returns-in_err-tables-clause-why : goal.returns-in_err-tables-clause-why
returns-in_err-tables-clause-why g c =
    same-err c.from_residual.result c.in_err-tables.field-0.0 _ c.from_residual.ensures.1
    (inr c.in_err-tables.ensures.why)

pub returns-in_err-before-clause-why : goal.returns-in_err-before-clause-why
returns-in_err-before-clause-why g c =
    same-err c.from_residual-in_err-before.result c.in_err-before.field-0.0 _ c.from_residual-in_err-before.ensures.1
    (inl (memory-apart _ c.in_err-before.ensures.why.2, inl (c.in_err-before.ensures.file ∙ c.in_ok-tables.ensures.first_named)))

pub returns-in_err-after-clause-why : goal.returns-in_err-after-clause-why
returns-in_err-after-clause-why g c =
    same-err c.from_residual-in_err-after.result c.in_err-after.field-0.0 _ c.from_residual-in_err-after.ensures.1
    (inl (memory-apart _ c.in_err-after.ensures.why.2, inr (inl (c.in_err-after.ensures.file ∙ c.in_ok-tables.ensures.next_named))))

pub returns-clause-why : goal.returns-clause-why
returns-clause-why g c =
    IfErr-weaker c.at-3.result _ _ (λ fault apart. inl apart)
    (apart-of c.at-3.result c.diff_as_report-answer.result (files_of c.args.versions.now) c.read_both.new.tables.next.file (inr (inl c.in_ok-tables.ensures.next_named)) c.at-3.ensures.file c.at-3.ensures.why c.diff_as_report-answer.ensures.why)
