use Rattle.std.proofs.Common.{arith, ap, sym, ◌∙◌, ◌≡◌, [], length}
use Rattle.std.proofs.lemmas.Iterator.Adapters.{YieldsList-from_vec}
use Rattle.std.proofs.lemmas.Iterator.Consumers.{YieldsList-end}
use Rattle.std.proofs.lemmas.List.{map-id}
use Rattle.std.specs.BTreeMap.{insert_entry}
use Rattle.std.specs.Vec.Iter.{into_iter_len}
use Rattle.eob_maps.proofs.EntryLemmas.{put_all, put_all-push, put_rising}
use Rattle.eob_maps.proofs.entries.into_map.Goals as goal

pub loop-row-preserved : goal.loop-row-preserved
loop-row-preserved g c =
    c.in_ok-insert.ensures.entries
    ∙ ap (λ es. insert_entry g.K.Ord.cmp es c.in-Some.row.0 c.in-Some.row.1) c.loop-row.invariant
    ∙ sym (put_all-push g.K.Ord.cmp [] c.loop-row.yielded c.in-Some.row)

pub loop-row-preserved-in_ok-insert : goal.loop-row-preserved-in_ok-insert
loop-row-preserved-in_ok-insert g c =
    c.in_ok-insert.ensures.entries
    ∙ ap (λ es. insert_entry g.K.Ord.cmp es c.in-Some.row.0 c.in-Some.row.1) c.loop-row.invariant
    ∙ sym (put_all-push g.K.Ord.cmp [] c.loop-row.yielded c.in-Some.row)

pub returns : goal.returns
returns g c =
    let made = c.into_iter-row-iterator.ensures.into_iter_gives in
    let counted : into_iter_len c.into_iter-row-iterator.result ≡ length c.args.rows.items = grind arith in
    let given = YieldsList-from_vec c.args.rows.items made.0 counted in
    let whole = sym (map-id c.loop-row.yielded) ∙ (YieldsList-end given c.loop-row.yielded c.loop-row.row-iterator c.loop-row.yielded_by c.next.result c.next.new.self c.in-None.is c.next.ensures.steps).0 in
    c.loop-row.invariant ∙ ap (put_all g.K.Ord.cmp []) whole ∙ put_rising g.K.Ord.cmp g.met.K.Ord.total c.args.rows.items c.requires
