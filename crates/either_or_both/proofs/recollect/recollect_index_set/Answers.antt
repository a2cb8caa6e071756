use Rattle.std.proofs.Common.{◌≡◌}
use Rattle.std.proofs.lemmas.Result.{IfOk-weaker}
use Rattle.eob_both.specs.Collector.{contents_at}
use Rattle.eob_both.specs.Contents.{AreFirstItems}
use Rattle.eob_both.specs.Places.{left_place, right_place}
use Rattle.eob_both.proofs.SameLemmas.{pair_of_contents, recollected, same_items}
use Rattle.either_or_both.proofs.recollect.recollect_index_set.Goals as goal

pub returns : goal.returns
returns g c =
    let left = contents_at (λ m. m.keys) (left_place c.args.pair) in
    let right = contents_at (λ m. m.keys) (right_place c.args.pair) in
    IfOk-weaker c.recollect_walked.result _ _
    (λ v h. pair_of_contents (λ m. m.keys) (λ m. m.keys) left right v (recollected (λ m. m.keys) (λ m. m.keys) (AreFirstItems g.K1.PartialEq.eq) (λ xs held. held ≡ xs) (AreFirstItems g.K2.PartialEq.eq) (λ xs held. held ≡ xs) h.0 left right v h.1 h.2
    (λ held. same_items g.K1.PartialEq.eq g.met.K1.Eq.laws left held h.3) (λ held. same_items g.K2.PartialEq.eq g.met.K2.Eq.laws right held h.4) h.5))
    c.recollect_walked.ensures
