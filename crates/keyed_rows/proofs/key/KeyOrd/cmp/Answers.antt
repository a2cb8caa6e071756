use Rattle.keyed_rows.proofs.Beginnings.{begins_order}
use Rattle.keyed_rows.specs.Kept.{block_in}
use Rattle.keyed_rows.specs.Layout.{cells_of}
use Rattle.keyed_rows.proofs.key.KeyOrd.cmp.Goals as goal

pub returns-in_default : goal.returns-in_default
returns-in_default c =
    rw (← c.self.view_is, ← c.other.view_is)
    (begins_order (cells_of (block_in c.self.inside.kept)) (cells_of (block_in c.other.inside.kept)) c.self.inside.first c.other.inside.first c.cmp.result c.self.invariant.1 c.other.invariant.1 c.cmp.ensures c.in_default.not-Equal)
