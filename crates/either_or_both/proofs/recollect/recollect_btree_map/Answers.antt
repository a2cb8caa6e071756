use Rattle.std.proofs.lemmas.Result.{IfOk-weaker}
use Rattle.eob_both.specs.Collector.{contents_at}
use Rattle.eob_both.specs.Contents.{IsRisingMap, IsSameRisingMap}
use Rattle.eob_both.specs.Places.{left_place, right_place}
use Rattle.eob_both.proofs.SameLemmas.{recollected, same_rising_map}
use Rattle.either_or_both.proofs.recollect.recollect_btree_map.Goals as goal

pub returns : goal.returns
returns g c =
    let left = contents_at (λ m. m.entries) (left_place c.args.pair) in
    let right = contents_at (λ m. m.entries) (right_place c.args.pair) in
    IfOk-weaker c.recollect_walked.result _ _
    (λ v h. recollected (λ m. m.entries) (λ m. m.entries) (IsRisingMap g.K1.Ord.cmp) (IsSameRisingMap g.K1.Ord.cmp) (IsRisingMap g.K2.Ord.cmp) (IsSameRisingMap g.K2.Ord.cmp) h.0 left right v h.1 h.2
    (λ held. same_rising_map g.K1.Ord.cmp g.met.K1.Ord.total left held h.3) (λ held. same_rising_map g.K2.Ord.cmp g.met.K2.Ord.total right held h.4) h.5)
    c.recollect_walked.ensures
