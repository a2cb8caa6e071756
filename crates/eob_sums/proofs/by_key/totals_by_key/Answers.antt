use Rattle.std.proofs.Common.{arith, ◌≡◌, ◌<◌, ◌^◌, length}
use Rattle.std.proofs.lemmas.Iterator.Adapters.{YieldsList-from_vec}
use Rattle.std.proofs.lemmas.Iterator.Consumers.{YieldsList-turn}
use Rattle.std.specs.BTreeMap.{get}
use Rattle.std.specs.Vec.Iter.{into_iter_len}
use Rattle.eob_sums.proofs.SumLemmas.{total_under-fits, total_under-push}
use Rattle.eob_sums.proofs.by_key.totals_by_key.Goals as goal

pub add_number-requires : goal.add_number-requires
add_number-requires g c =
    let made = c.into_iter-row-iterator.ensures.into_iter_gives in
    let counted : into_iter_len c.into_iter-row-iterator.result ≡ length c.args.rows.items = grind arith in
    let given = YieldsList-from_vec c.args.rows.items made.0 counted in
    let turn = YieldsList-turn given c.loop-row.yielded c.loop-row.row-iterator c.loop-row.yielded_by c.next.result c.next.new.self c.in-Some.row c.in-Some.is c.next.ensures.steps in
    let bound : length c.args.rows.items < 2 ^ 64 = grind arith in
    total_under-fits g.K.Ord.cmp c.loop-row.yielded c.in-Some.row.0 _ (c.loop-row.invariant c.in-Some.row.0) (omega (arith, turn.0, bound))

pub loop-row-preserved : goal.loop-row-preserved
loop-row-preserved g c k =
    total_under-push g.K.Ord.cmp g.met.K.Ord.total c.loop-row.yielded c.in-Some.row (get g.K.Ord.cmp c.add_number.new.totals) (get g.K.Ord.cmp c.loop-row.totals) c.loop-row.invariant c.in_ok-add_number.ensures.0 k
