use Rattle.std.proofs.Common.{ap, map}
use Rattle.std.proofs.lemmas.List.{length-map}
use Rattle.eob_joins.specs.Groups.{key_runs}
use Rattle.eob_joins.proofs.GroupLemmas.{fewer_left}
use Rattle.keyed_tables.proofs.KeyLemmas.{key_cmp, keys_total}
use Rattle.keyed_tables.proofs.OrderLemmas.{more_groups}
use Rattle.keyed_tables.proofs.gather.group_rows.Goals as goal

pub groups-smaller : goal.groups-smaller
groups-smaller c =
    let row = c.in-Some.row in
    rw (length-map, length-map) at (fewer_left key_cmp (row.key, row.cells) (map (λ row. (row.key, row.cells)) c.pop_front.new.self.items)
    (map (λ row. (row.key, row.cells)) c.groups.rows.items) (map (λ row. (row.key, row.cells)) c.take_group.new.rows.items)
    (ap (map (λ row. (row.key, row.cells))) c.in-Some.ensures.items) c.in_ok-group-in-Some.ensures.rest)

pub groups-preserved : goal.groups-preserved
groups-preserved c =
    let row = c.in-Some.row in
    more_groups key_cmp keys_total c.groups.groups.items c.push.new.self.items (row.key, row.cells)
    (map (λ row. (row.key, row.cells)) c.pop_front.new.self.items) (map (λ row. (row.key, row.cells)) c.groups.rows.items) (map (λ row. (row.key, row.cells)) c.take_group.new.rows.items)
    (key_runs key_cmp (map (λ row. (row.key, row.cells)) c.args.rows.items))
    (ap (map (λ row. (row.key, row.cells))) c.in-Some.ensures.items) c.in_ok-group-in-Some.ensures.rest
    (rw (← c.in_ok-group-in-Some.ensures.values) c.in_ok-push-in-Some.ensures.items) c.groups.invariant
