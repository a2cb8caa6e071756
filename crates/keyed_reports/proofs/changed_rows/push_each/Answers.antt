use Rattle.std.proofs.Common.{map}
use Rattle.keyed_reports.specs.RowChanges.{row_behind}
use Rattle.keyed_reports.proofs.RowLemmas.{each_put}
use Rattle.keyed_reports.proofs.changed_rows.push_each.Goals as goal

pub returns : goal.returns
returns c =
    let gone = c.in_ok-push_removed.ensures in
    let all = each_put c.args.key.now c.args.gone.now c.args.come.now (map row_behind c.args.rows.now.items) in
    rw (gone, all) at c.push_added.ensures
