use Rattle.std.proofs.Common.{◌∙◌, inl, inr, refl, subst}
use Rattle.std.specs.Prelude.{is_none}
use Rattle.keyed_tables.specs.Arranged.{noted}
use Rattle.keyed_commands.specs.JoinAnswers.{IsJoinText}
use Rattle.keyed_files.proofs.ReadingLemmas.{same-err}
use Rattle.keyed_commands.proofs.UnansweredLemmas.{memory-apart}
use Rattle.keyed_commands.proofs.commands.join.join_files.Goals as goal

pub returns-clause-answer : goal.returns-clause-answer
returns-clause-answer g c =
    let tables = c.in_ok-tables.tables in
    let form = c.args.form.now in
    let job = c.read_sides.new.self in
    let read = c.in_ok-tables.ensures in
    λ csv. record {
      left = tables.0.pairs.items;
      right = tables.1.pairs.items;
      left_read = read.left;
      right_read = read.right;
      notes = read.notes;
      join = record {
        keys = noted job.order;
        by_cells = is_none job.row_order.files;
        join = subst (λ j. IsJoinText j.form j.columns.now form.header (noted job.order) (is_none job.row_order.files) form.kind tables.0.pairs.items tables.1.pairs.items c.in_ok-bytes.bytes.items)
            read.same ((rw c.in_ok-bytes.ensures.value at c.write_join.ensures) csv);
        order = λ unordered. let after = read.unordered unordered in (after.keys, after.rows);
      };
      status = refl;
      outcome = refl;
    }

pub returns-in_err-tables-clause-why : goal.returns-in_err-tables-clause-why
returns-in_err-tables-clause-why g c =
    same-err c.from_residual.result c.in_err-tables.field-0.0 _ c.from_residual.ensures.1
    (inr c.in_err-tables.ensures.why)

pub returns-in_err-bytes-clause-why : goal.returns-in_err-bytes-clause-why
returns-in_err-bytes-clause-why g c =
    same-err c.from_residual-in_err-bytes.result c.in_err-bytes.field-0.0 _ c.from_residual-in_err-bytes.ensures.1
    (inl (memory-apart _ c.in_err-bytes.ensures.why.2, inr (inl (c.in_err-bytes.ensures.file ∙ c.in_ok-tables.ensures.next_named))))
