use Rattle.std.proofs.Common.{◌∙◌, sym}
use Rattle.std.specs.Cmp.Lexicographic.{bytes_decides, pointwise_decides}
use Rattle.keyed_jobs.proofs.row_order.is_same.Goals as goal

pub returns : goal.returns
returns c e = (pointwise_decides bytes_decides c.args.row.now c.args.other.now).0 (sym c.eq.ensures ∙ e)
