use Rattle.std.proofs.Common.{◌∙◌, ◌++◌, ap, ap₂, length, map, subst, sym}
use Rattle.std.proofs.lemmas.List.{length-map}
use Rattle.std.specs.Prelude.{string_bytes}
use Rattle.keyed_reports.specs.RowChanges.{row_behind}
use Rattle.keyed_reports.specs.SaidAfter.{text_after}
use Rattle.keyed_reports.specs.ShownColumns.{columns_shown}
use Rattle.keyed_reports.specs.TableLines.{IsTextOfRows}
use Rattle.keyed_reports.proofs.TableLemmas.{versions-behind}
use Rattle.keyed_reports.proofs.table.table.Goals as goal

pub returns : goal.returns
returns c =
    let report = c.args.report.now in
    let before = string_bytes c.in_ok-before.before in
    let lines = string_bytes c.in_ok-rows.rows in
    let found = c.in_ok-shown.ensures
    ∙ ap (columns_shown report.view.shown report.alikes.now (length report.columns.now.rest)) (versions-behind report.rows.now) in
    let flags = c.deref.ensures.value ∙ found in
    let after = c.in_ok-after.ensures ∙ ap₂ (λ count shown. text_after count report.more shown report.counts) (sym (length-map report.rows.now row_behind)) (c.deref-2.ensures.value ∙ found) in
    λ narrow. (
      before,
      lines,
      subst (λ shown. IsTextOfRows report.alikes.now shown report.columns.now (map row_behind report.rows.now) lines) flags (c.in_ok-rows.ensures narrow),
      c.in_ok-text.ensures ∙ ap₂ (λ next last. before ++ (next ++ last)) c.deref-3.ensures (c.deref-4.ensures ∙ after),
    )
