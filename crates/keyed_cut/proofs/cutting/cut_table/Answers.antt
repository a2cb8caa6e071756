use Rattle.std.proofs.Common.{subst, sym}
use Rattle.keyed_cut.specs.Counted.{CountsRest}
use Rattle.keyed_cut.proofs.cutting.cut_table.Goals as goal

pub returns : goal.returns
returns g c =
    subst (λ counts. CountsRest g.R.File.Read.remaining c.args.bounds.now.keys.items c.args.table.now counts) (sym c.in_ok-end.ensures)
    c.in_ok-partition_rows.ensures.counted
