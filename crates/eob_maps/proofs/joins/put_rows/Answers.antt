use Rattle.std.proofs.Common.{arith, ap, sym, ◌∙◌, ◌≡◌, length}
use Rattle.std.proofs.lemmas.Iterator.Adapters.{YieldsList-from_vec}
use Rattle.std.proofs.lemmas.Iterator.Consumers.{YieldsList-end}
use Rattle.std.proofs.lemmas.List.{map-id}
use Rattle.std.proofs.lemmas.Map.{update_all_push}
use Rattle.std.specs.BTreeMap.{get}
use Rattle.std.specs.Map.{update_all}
use Rattle.std.specs.Ordering.{eq_by_cmp}
use Rattle.std.specs.Vec.Iter.{into_iter_len}
use Rattle.eob_maps.proofs.joins.put_rows.Goals as goal

pub loop-row-preserved : goal.loop-row-preserved
loop-row-preserved g c k =
    c.in_ok-insert.ensures.updates.0 k
    ∙ update_all_push (eq_by_cmp g.K.Ord.cmp) (get g.K.Ord.cmp c.args.base) (get g.K.Ord.cmp c.loop-row.map) c.loop-row.yielded c.in-Some.row k (c.loop-row.invariant k)

pub loop-row-preserved-in_ok-insert : goal.loop-row-preserved-in_ok-insert
loop-row-preserved-in_ok-insert g c k =
    c.in_ok-insert.ensures.updates.0 k
    ∙ update_all_push (eq_by_cmp g.K.Ord.cmp) (get g.K.Ord.cmp c.args.base) (get g.K.Ord.cmp c.loop-row.map) c.loop-row.yielded c.in-Some.row k (c.loop-row.invariant k)

pub returns : goal.returns
returns g c k =
    let made = c.into_iter-row-iterator.ensures.into_iter_gives in
    let counted : into_iter_len c.into_iter-row-iterator.result ≡ length c.args.rows.items = grind arith in
    let given = YieldsList-from_vec c.args.rows.items made.0 counted in
    let whole = sym (map-id c.loop-row.yielded) ∙ (YieldsList-end given c.loop-row.yielded c.loop-row.row-iterator c.loop-row.yielded_by c.next.result c.next.new.self c.in-None.is c.next.ensures.steps).0 in
    c.loop-row.invariant k ∙ ap (λ xs. update_all (eq_by_cmp g.K.Ord.cmp) (get g.K.Ord.cmp c.args.base) xs k) whole
