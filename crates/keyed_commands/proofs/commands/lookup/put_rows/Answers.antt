use Rattle.std.proofs.Common.{◌≡◌, [], ap, arith, map, rules}
use Rattle.std.proofs.lemmas.Grind.{common_steps}
use Rattle.eob_joins.specs.Lookup.{shown_lookup}
use Rattle.keyed_files.proofs.WritingLemmas.{no-rows-left}
use Rattle.keyed_jobs.proofs.ChangeLemmas.{change-then}
use Rattle.keyed_commands.specs.LookupAnswers.{shown_row, shown_rows}
use Rattle.keyed_commands.proofs.commands.lookup.put_rows.Goals as goal

pub loop-row-preserved : goal.loop-row-preserved
loop-row-preserved c end h =
    c.loop-row.invariant end (change-then (shown_row c.args.work.now.columns.now c.args.work.now.kind) _ _ _ _ _ (shown_lookup c.in-Some.row) (ap (map shown_lookup) c.in-Some.ensures.steps.0) c.in_ok-put_row.ensures h)

pub returns : goal.returns
returns c =
    let none : c.loop-row.row-iterator.rest.items ≡ [] = first_of (search rules, grind (arith, common_steps)) in
    c.loop-row.invariant _ (no-rows-left _ _ (ap (λ l. shown_rows c.args.work.now.columns.now c.args.work.now.kind (map shown_lookup l)) none))
