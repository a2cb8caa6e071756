use Rattle.std.proofs.Common.{rules}
use Rattle.std.proofs.lemmas.List.Sorted.{IsPartitionPoint-from_clause}
use Rattle.std.specs.Ordering.{is_le}
use Rattle.keyed_parts.proofs.PartLemmas.{parted, point_is_part}
use Rattle.keyed_parts.proofs.boundaries.Boundaries.part_of.Goals as goal

pub returns-clause-part : goal.returns-clause-part
returns-clause-part g c =
    let bounds = c.args.self.now.keys.items in
    let cmp = g.K.Ord.cmp in
    let parts = parted cmp g.met.K.Ord.total bounds c.args.key.now c.args.self.now.sorted in
    point_is_part cmp g.met.K.Ord.total bounds c.args.key.now c.partition_point.result (rw c.deref.ensures.value at c.partition_point.ensures.bound)
    (IsPartitionPoint-from_clause (λ b. is_le (cmp b c.args.key.now)) bounds c.partition_point.result (rw c.deref.ensures.value at c.partition_point.ensures.partitioned) parts (λ a r q k. search rules))
