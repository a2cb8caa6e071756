use Rattle.std.proofs.Common.{◌≡◌, ◌∙◌, Bool, true, false, ap, map, not, refl}
use Rattle.keyed_reports.specs.RowChanges.{count_in, is_lone, count_of, rows_eq}
use Rattle.keyed_reports.proofs.RowLemmas.{is_left, left_more, lone_all, lone_passed, lone_put}
use Rattle.keyed_reports.proofs.changed_rows.lone_rows.Goals.{then-not-take_one+in_ok-push, else-not-take_one}
use Rattle.keyed_reports.proofs.changed_rows.lone_rows.Goals as goal

pub loop-row-preserved : goal.loop-row-preserved
loop-row-preserved c =
    let rows = c.args.rows.now in
    let others = c.args.others.now in
    let i = c.loop-row.row-index in
    let row = c.row-item.result in
    let inside = c.loop-row-test.true in
    let at = c.row-item.is in
    let before = c.loop-row.invariant in
    let lone : (b : Bool) → c.take_one.result ≡ b → is_lone rows_eq rows others (i, row) ≡ not b =
    λ b e. is_left (count_in c.loop-row.counts row) (count_of rows_eq row others) _ c.take_one.result b c.take_one.ensures.was (before.left row) e in
    record {
      left = λ q. left_more rows_eq rows others i row inside at q (count_in c.loop-row.counts q) (count_in c.take_one.new.counts q) (c.take_one.ensures.counts q) (before.left q);
      found = elim c.if-not-take_one.branch [
        | then-not-take_one+in_ok-push w ↦
            ap (λ found. map (λ r. r.now) found.items) w.lone-is ∙ lone_put rows_eq rows others i row inside at c.loop-row.lone.items w.push.new.self.items _ refl w.in_ok-push.ensures.items (lone false w.if-not-take_one.true) before.found
        | else-not-take_one w ↦
            ap (λ found. map (λ r. r.now) found.items) w.lone-is ∙ lone_passed rows_eq rows others i row inside at c.loop-row.lone.items (lone true w.if-not-take_one.false) before.found
      ];
    }

pub returns : goal.returns
returns c = c.loop-row.invariant.found ∙ lone_all rows_eq c.args.rows.now c.args.others.now c.loop-row.row-index c.loop-row-test.false
