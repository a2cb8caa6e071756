use Rattle.std.proofs.Common.{◌∙◌, ◌++◌, ◌∷◌, [], ap, map, subst}
use Rattle.std.proofs.lemmas.List.{take_all}
use Rattle.std.specs.List.{AllZip}
use Rattle.keyed_reports.specs.RowChanges.{row_behind}
use Rattle.keyed_reports.specs.TableLines.{IsLineOfRow}
use Rattle.keyed_reports.proofs.TableLemmas.{line-more}
use Rattle.keyed_reports.proofs.table.grid_of.Goals as goal

pub loop-row-init : goal.loop-row-init
loop-row-init c = (c.in_ok-heading.heading, [], c.in_ok-grid.ensures, c.in_ok-heading.ensures, tt)

pub loop-row-preserved : goal.loop-row-preserved
loop-row-preserved c =
    let was = c.loop-row.invariant in
    let line = c.in_ok-line.line in
    let report = c.args.report.now in (
      was.0,
      was.1 ++ line ∷ [],
      c.in_ok-push.ensures.items ∙ ap (λ l. l ++ line ∷ []) was.2,
      was.3,
      line-more (IsLineOfRow report.alikes.now c.args.shown.now) row_behind report.rows.now c.loop-row.row-index c.row-item.result was.1 line c.loop-row-test.true c.row-item.is was.4
          c.in_ok-line.ensures,
    )

pub returns : goal.returns
returns c =
    let was = c.loop-row.invariant in
    let report = c.args.report.now in (
      was.0,
      was.1,
      was.2,
      was.3,
      subst (λ rows. AllZip (IsLineOfRow report.alikes.now c.args.shown.now) (map row_behind rows) was.1) (take_all c.loop-row.row-index report.rows.now c.loop-row-test.false) was.4,
    )
