use Rattle.std.proofs.Common.{◌≡◌, [], Vec, append-nil, arith, sym, ap, subst}
use Rattle.std.proofs.lemmas.Grind.{common_steps}
use Rattle.eob_lists.specs.Join.{Rising}
use Rattle.eob_joins.specs.Groups.{AreGroups, key_runs, shown_group}
use Rattle.eob_joins.proofs.GroupLemmas.{AreGroups-groups, fewer_left, more_groups, rises_raw}
use Rattle.eob_joins.proofs.groups.group_by_key.Goals as goal

pub groups-smaller : goal.groups-smaller
groups-smaller g c =
    fewer_left g.K.Ord.cmp (c.in-Some.key, c.in-Some.first) c.pop_front.new.self.items c.groups.list.items c.take_group.new.list.items
    c.in-Some.ensures.items c.in_ok-values-in-Some.ensures.rest

pub groups-preserved : goal.groups-preserved
groups-preserved g c =
    more_groups g.K.Ord.cmp g.met.K.Ord.total shown_group c.groups.groups.items c.push.new.self.items (c.in-Some.key, c.in_ok-values-in-Some.values) (c.in-Some.key, c.in-Some.first)
    c.pop_front.new.self.items c.groups.list.items c.take_group.new.list.items (key_runs g.K.Ord.cmp c.args.list.items)
    c.in-Some.ensures.items c.in_ok-values-in-Some.ensures.rest c.in_ok-push-in-Some.ensures.items (ap (λ vs. (c.in-Some.key, vs)) c.in_ok-values-in-Some.ensures.values) c.groups.invariant

pub returns-in-None-clause-groups : goal.returns-in-None-clause-groups
returns-in-None-clause-groups g c =
    let none : c.groups.list.items ≡ [] = grind (arith, common_steps) in
    let whole = rw (none, append-nil) at c.groups.invariant in
    subst (AreGroups g.K.Ord.cmp c.args.list.items) (sym whole) (AreGroups-groups g.K.Ord.cmp g.met.K.Ord.total c.args.list.items c.requires)

pub returns-in-None-clause-rises : goal.returns-in-None-clause-rises
returns-in-None-clause-rises g c =
    let none : c.groups.list.items ≡ [] = grind (arith, common_steps) in
    let whole = rw (none, append-nil) at c.groups.invariant in
    rises_raw g.K.Ord.cmp (λ (v : Vec g.row.V.Denot g.row.M.Denot). v.items) c.groups.groups.items
    (subst (Rising g.K.Ord.cmp) (sym whole) (AreGroups-groups g.K.Ord.cmp g.met.K.Ord.total c.args.list.items c.requires).rises)
