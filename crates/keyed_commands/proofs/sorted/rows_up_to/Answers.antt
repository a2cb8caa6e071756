use Rattle.std.proofs.Common.{◌∙◌, inl, inr}
use Rattle.keyed_files.proofs.ReadingLemmas.{same-err}
use Rattle.keyed_commands.proofs.UnansweredSortedLemmas.{gathering-told, kept-file}
use Rattle.keyed_commands.proofs.sorted.rows_up_to.Goals as goal

pub returns-clause-takes : goal.returns-clause-takes
returns-clause-takes g c = (
  c.in_ok-rows.rows.items,
  c.in_ok-rows.ensures.rows,
  (rw c.in_ok-table.ensures.value at c.unique_rows.ensures.rows, rw c.in_ok-table.ensures.value at c.unique_rows.ensures.unique),
)

pub returns-in_err-rows-clause-file : goal.returns-in_err-rows-clause-file
returns-in_err-rows-clause-file g c =
    same-err c.from_residual.result c.in_err-rows.field-0.0 _ c.from_residual.ensures.1 c.in_err-rows.ensures.file

pub returns-in_err-rows-clause-why : goal.returns-in_err-rows-clause-why
returns-in_err-rows-clause-why g c =
    same-err c.from_residual.result c.in_err-rows.field-0.0 _ c.from_residual.ensures.1
    (inl c.in_err-rows.ensures.why)

pub returns-in_err-table-clause-file : goal.returns-in_err-table-clause-file
returns-in_err-table-clause-file g c =
    same-err c.from_residual-in_err-table.result c.in_err-table.field-0.0 _ c.from_residual-in_err-table.ensures.1
    (c.in_err-table.ensures.file ∙ kept-file c.args.bound.now c.args.parts.now c.take_up_to.new.self c.in_ok-rows.rows.items c.in_ok-rows.ensures.rows)

pub returns-in_err-table-clause-why : goal.returns-in_err-table-clause-why
returns-in_err-table-clause-why g c =
    let rows = c.in_ok-rows.rows.items in
    same-err c.from_residual-in_err-table.result c.in_err-table.field-0.0 _ c.from_residual-in_err-table.ensures.1
    (inr (
      rows,
      c.take_up_to.new.self.waiting.items,
      c.in_ok-rows.ensures.rows.0.waiting,
      gathering-told rows c.unique_rows.result c.in_err-table.field-0.0 c.in_err-table.ensures.why c.unique_rows.ensures.repeated,
    ))
