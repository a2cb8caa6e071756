use Rattle.std.proofs.Common.{◌≡◌, [], ap, arith, rules}
use Rattle.std.proofs.lemmas.Grind.{common_steps}
use Rattle.keyed_files.proofs.WritingLemmas.{no-rows-left}
use Rattle.keyed_jobs.specs.ChangeRows.{change_rows, changes_rows}
use Rattle.keyed_jobs.proofs.ChangeLemmas.{change-then}
use Rattle.keyed_jobs.proofs.changes.put_changes.Goals as goal

pub loop-row-preserved : goal.loop-row-preserved
loop-row-preserved c end h =
    c.loop-row.invariant end (change-then (λ change. change_rows c.args.columns.now.order.items change.0 change.1) _ _ _ _ _ c.in-Some.row c.in-Some.ensures.steps.0 c.in_ok-put_change.ensures h)

pub returns : goal.returns
returns c =
    let none : c.loop-row.row-iterator.rest.items ≡ [] = first_of (search rules, grind (arith, common_steps)) in
    c.loop-row.invariant _ (no-rows-left _ _ (ap (changes_rows c.args.columns.now.order.items) none))

pub loop-row-preserved-in_ok-put_change : goal.loop-row-preserved-in_ok-put_change
loop-row-preserved-in_ok-put_change c end h =
    c.loop-row.invariant end (change-then (λ change. change_rows c.args.columns.now.order.items change.0 change.1) _ _ _ _ _ c.in-Some.row c.in-Some.ensures.steps.0 c.in_ok-put_change.ensures h)

pub loop-row-preserved-in_ok-put_change-2 : goal.loop-row-preserved-in_ok-put_change-2
loop-row-preserved-in_ok-put_change-2 c end h =
    c.loop-row.invariant end (change-then (λ change. change_rows c.args.columns.now.order.items change.0 change.1) _ _ _ _ _ c.in-Some.row c.in-Some.ensures.steps.0 c.in_ok-put_change.ensures h)

pub loop-row-preserved-in_ok-put_change-3 : goal.loop-row-preserved-in_ok-put_change-3
loop-row-preserved-in_ok-put_change-3 c end h =
    c.loop-row.invariant end (change-then (λ change. change_rows c.args.columns.now.order.items change.0 change.1) _ _ _ _ _ c.in-Some.row c.in-Some.ensures.steps.0 c.in_ok-put_change.ensures h)

pub loop-row-preserved-in_ok-put_change-4 : goal.loop-row-preserved-in_ok-put_change-4
loop-row-preserved-in_ok-put_change-4 c end h =
    c.loop-row.invariant end (change-then (λ change. change_rows c.args.columns.now.order.items change.0 change.1) _ _ _ _ _ c.in-Some.row c.in-Some.ensures.steps.0 c.in_ok-put_change.ensures h)

pub loop-row-preserved-in_ok-put_change-5 : goal.loop-row-preserved-in_ok-put_change-5
loop-row-preserved-in_ok-put_change-5 c end h =
    c.loop-row.invariant end (change-then (λ change. change_rows c.args.columns.now.order.items change.0 change.1) _ _ _ _ _ c.in-Some.row c.in-Some.ensures.steps.0 c.in_ok-put_change.ensures h)

pub loop-row-preserved-in_ok-put_change-6 : goal.loop-row-preserved-in_ok-put_change-6
loop-row-preserved-in_ok-put_change-6 c end h =
    c.loop-row.invariant end (change-then (λ change. change_rows c.args.columns.now.order.items change.0 change.1) _ _ _ _ _ c.in-Some.row c.in-Some.ensures.steps.0 c.in_ok-put_change.ensures h)

pub loop-row-preserved-in_ok-put_change-7 : goal.loop-row-preserved-in_ok-put_change-7
loop-row-preserved-in_ok-put_change-7 c end h =
    c.loop-row.invariant end (change-then (λ change. change_rows c.args.columns.now.order.items change.0 change.1) _ _ _ _ _ c.in-Some.row c.in-Some.ensures.steps.0 c.in_ok-put_change.ensures h)

pub loop-row-preserved-in_ok-put_change-8 : goal.loop-row-preserved-in_ok-put_change-8
loop-row-preserved-in_ok-put_change-8 c end h =
    c.loop-row.invariant end (change-then (λ change. change_rows c.args.columns.now.order.items change.0 change.1) _ _ _ _ _ c.in-Some.row c.in-Some.ensures.steps.0 c.in_ok-put_change.ensures h)
