use Rattle.std.proofs.Common.{◌≡◌, ◌∙◌, None, Some, is_some, sym, ap}
use Rattle.std.specs.Map.{lookup}
use Rattle.eob_both.specs.declared.either_or_both.EitherOrBoth.TheVariants.{Right}
use Rattle.indexmap.specs.IndexMap.{insert_entry}
use Rattle.indexmap.proofs.CallerLemmas.{insert_entry-new}
use Rattle.eob_joins.proofs.MapJoinLemmas.{join_absent, join_present}
use Rattle.eob_joins.proofs.maps.put_right.Goals as goal

pub returns-in-Some : goal.returns-in-Some
returns-in-Some g c p ys h none =
    let eq = g.K.PartialEq.eq in
    let held = c.args.rows.now.entries in
    let new = c.set_right.new.row in
    let writes = c.get_mut.follows.holds new in
    let found : lookup (eq c.args.key) held ≡ Some c.in-Some.row.now = sym c.in-Some.ensures.value in
    join_present g.met.K.Eq.laws p ys c.args.key c.args.b held (c.get_mut.follows.lender new).entries c.in-Some.row.now new h none found
    c.set_right.ensures.left c.set_right.ensures.right writes.1 (writes.3 (ap is_some found)).0

pub returns-in_ok-insert-in-None : goal.returns-in_ok-insert-in-None
returns-in_ok-insert-in-None g c p ys h none =
    let eq = g.K.PartialEq.eq in
    let m = c.args.rows.now in
    let missed : lookup (eq c.args.key) m.entries ≡ None = sym c.in-None.ensures.value in
    join_absent g.met.K.Eq.laws p ys c.args.key c.args.b m.entries c.insert.new.self.entries h none missed
    (c.in_ok-insert-in-None.ensures.entries ∙ ap (λ n. insert_entry eq n.entries c.args.key (Right c.args.b)) c.get_mut.follows.holds-at-none ∙ insert_entry-new eq m c.args.key (Right c.args.b) missed)
