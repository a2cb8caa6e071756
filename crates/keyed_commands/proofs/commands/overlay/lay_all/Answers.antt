use Rattle.std.proofs.Common.{◌≡◌, ◌∷◌, ◌∙◌, [], ap, arith, rules, subst}
use Rattle.std.proofs.lemmas.Grind.{common_steps}
use Rattle.keyed_columns.specs.declared.columns.Columns.{Columns}
use Rattle.keyed_columns.specs.declared.content.Content.TheVariants.{Rows}
use Rattle.keyed_tables.specs.Arranged.{noted}
use Rattle.keyed_jobs.specs.NotedStyles.{watched_left}
use Rattle.keyed_jobs.specs.FileOrder.{OfKeys, noted_with}
use Rattle.keyed_jobs.specs.declared.job.Job.{Job}
use Rattle.keyed_commands.specs.OverlayAnswers.{LaysTables, rows_laid}
use Rattle.keyed_commands.proofs.OverlayLemmas.{lays_none, lays_then, notes_none, notes_then}
use Rattle.keyed_files.proofs.ReadingLemmas.{same-err}
use Rattle.keyed_commands.specs.UnansweredOverlay.{ExplainsOne}
use Rattle.keyed_commands.proofs.UnansweredOverlayLemmas.{laid-here, laid-later}
use Rattle.keyed_commands.proofs.commands.overlay.lay_all.Goals as goal

pub loop-table-preserved : goal.loop-table-preserved
loop-table-preserved g c =
    let job = c.args.job.now in
    let before = c.loop-table.invariant in
    let one = c.in_ok-laid.ensures in
    let laid = subst (λ j. LaysTables g.R.Read.remaining c.args.layer j.groups j.columns.now (rows_laid c.loop-table.laid) (c.in-Some.table ∷ []) (rows_laid c.in_ok-laid.laid)) before.same one.laid in
    let set : Job Columns → Job Columns = λ j. record j { order = c.lay.new.job.order; row_order = c.lay.new.job.row_order } in
    record {
      laid = λ rows more. before.laid rows (lays_then g.R.Read.remaining c.args.layer job.groups job.columns.now _ _ c.in-Some.table _ _ rows c.in-Some.ensures.steps.0 laid more);
      rises = laid.2.rises;
      notes = λ after more. before.notes after (notes_then g.R.Read.remaining job.columns.now _ _ c.in-Some.table _ _ after c.in-Some.ensures.steps.0
          (subst (λ j. OfKeys (watched_left g.R.Read.remaining) Rows j.columns.now c.in-Some.table.source.value (λ keys. noted c.lay.new.job.order ≡ noted_with (noted c.loop-table.job.order) keys)) before.same one.notes) more);
      same = one.same ∙ ap set before.same;
      unordered = λ unordered. one.unordered (before.unordered unordered);
      why = λ fault later. before.why fault (laid-later g.R.Read.remaining job.groups job.columns.now _ _ c.in-Some.table fault c.in-Some.ensures.steps.0 later);
    }

pub returns-clause-laid : goal.returns-clause-laid
returns-clause-laid g c =
    let job = c.args.job.now in
    let none : c.loop-table.table-iterator.rest.items ≡ [] = first_of (search rules, grind (arith, common_steps)) in
    c.loop-table.invariant.laid _ (lays_none g.R.Read.remaining c.args.layer job.groups job.columns.now (rows_laid c.loop-table.laid) _ none c.loop-table.invariant.rises)

pub returns-clause-notes : goal.returns-clause-notes
returns-clause-notes g c =
    let none : c.loop-table.table-iterator.rest.items ≡ [] = first_of (search rules, grind (arith, common_steps)) in
    c.loop-table.invariant.notes _ (notes_none g.R.Read.remaining c.args.job.now.columns.now _ _ none)

pub returns-in_err-laid-clause-why : goal.returns-in_err-laid-clause-why
returns-in_err-laid-clause-why g c =
    same-err c.from_residual.result c.in_err-laid.field-0.0 _ c.from_residual.ensures.1
    (c.loop-table.invariant.why _ (laid-here g.R.Read.remaining c.args.job.now.groups c.args.job.now.columns.now _ _ c.in-Some.table _ c.in-Some.ensures.steps.0
    (subst (λ job. ExplainsOne g.R.Read.remaining job.groups job.columns.now c.in-Some.table c.in_err-laid.field-0.0) c.loop-table.invariant.same c.in_err-laid.ensures.why)))
