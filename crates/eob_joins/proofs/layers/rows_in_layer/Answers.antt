use Rattle.std.proofs.Common.{arith, ap, sym, ◌∙◌, ◌≡◌, length, map}
use Rattle.std.proofs.lemmas.Iterator.Adapters.{YieldsList-from_vec}
use Rattle.std.proofs.lemmas.Iterator.Consumers.{YieldsList-end}
use Rattle.std.proofs.lemmas.List.{map-id}
use Rattle.std.specs.Vec.Iter.{into_iter_len}
use Rattle.eob_joins.specs.Layers.{from_layer}
use Rattle.eob_joins.proofs.layers.rows_in_layer.Goals as goal

pub returns : goal.returns
returns g c =
    let made = c.into_iter-entry-iterator.ensures.into_iter_gives in
    let counted : into_iter_len c.into_iter-entry-iterator.result ≡ length c.args.list.items = grind arith in
    let given = YieldsList-from_vec c.args.list.items made.0 counted in
    let whole = sym (map-id c.loop-entry.yielded) ∙ (YieldsList-end given c.loop-entry.yielded c.loop-entry.entry-iterator c.loop-entry.yielded_by c.next.result c.next.new.self c.in-None.is c.next.ensures.steps).0 in
    c.loop-entry.invariant ∙ ap (map (from_layer c.args.layer)) whole
