use Rattle.std.proofs.Common.{◌≡◌, [], ap, arith, rules}
use Rattle.std.proofs.lemmas.Grind.{common_steps}
use Rattle.keyed_files.specs.Rows.{table_rows}
use Rattle.keyed_files.proofs.SpelledLemmas.{none-left, table-then}
use Rattle.keyed_files.proofs.spelled_table.Spelled.put_table.Goals as goal

pub loop-row-preserved : goal.loop-row-preserved
loop-row-preserved c end h =
    c.loop-row.invariant end (table-then c.args.self.form c.args.self.columns.now.order.items _ _ _ _ _ c.in-Some.row c.in-Some.ensures.steps.0 c.in_ok-put_group.ensures h)

pub returns : goal.returns
returns c =
    let none : c.loop-row.row-iterator.rest.items ≡ [] = first_of (search rules, grind (arith, common_steps)) in
    c.loop-row.invariant _ (none-left c.args.self.form _ _ (ap (table_rows c.args.self.columns.now.order.items) none))

pub loop-row-preserved-in_ok-put_group : goal.loop-row-preserved-in_ok-put_group
loop-row-preserved-in_ok-put_group c end h =
    c.loop-row.invariant end (table-then c.args.self.form c.args.self.columns.now.order.items _ _ _ _ _ c.in-Some.row c.in-Some.ensures.steps.0 c.in_ok-put_group.ensures h)

pub loop-row-preserved-in_ok-put_group-2 : goal.loop-row-preserved-in_ok-put_group-2
loop-row-preserved-in_ok-put_group-2 c end h =
    c.loop-row.invariant end (table-then c.args.self.form c.args.self.columns.now.order.items _ _ _ _ _ c.in-Some.row c.in-Some.ensures.steps.0 c.in_ok-put_group.ensures h)
