use Rattle.std.proofs.Common.{◌≡◌, [], arith, rules}
use Rattle.std.specs.Prelude.{is_none}
use Rattle.std.proofs.lemmas.Grind.{common_steps}
use Rattle.keyed_commands.proofs.JoinLemmas.{join_none, join_then}
use Rattle.keyed_commands.proofs.commands.join.put_rows.Goals as goal

pub loop-row-preserved : goal.loop-row-preserved
loop-row-preserved g c end h =
    c.loop-row.invariant end (join_then c.args.job.now.columns.now g.T.JoinedRow.shows (is_none c.args.job.now.row_order.files) g.T.JoinedRow.alike _ _ _ c.in-Some.row _ _ c.in-Some.ensures.steps.0 c.in_ok-put_row.ensures h)

pub returns : goal.returns
returns g c =
    let none : c.loop-row.row-iterator.rest.items ≡ [] = first_of (search rules, grind (arith, common_steps)) in
    c.loop-row.invariant _ (join_none c.args.job.now.columns.now g.T.JoinedRow.shows (is_none c.args.job.now.row_order.files) g.T.JoinedRow.alike _ _ none)
