use Rattle.std.proofs.lemmas.Result.{on_ok_weaker}
use Rattle.eob_joins.proofs.MapJoinLemmas.{join_made}
use Rattle.eob_joins.proofs.maps.put_entries.Goals as goal

pub returns : goal.returns
returns g c =
    let p = c.in_ok-put_lefts.ensures in
    on_ok_weaker c.put_rights.result
    (λ q. (p.0, p.1, p.2, (q.0, q.1, q.2, join_made g.met.K.Eq.laws p.0.items q.0.items c.args.rows.now.entries c.put_lefts.new.rows.entries c.put_rights.new.rows.entries c.requires.empty p.3 q.3)))
    c.put_rights.ensures
