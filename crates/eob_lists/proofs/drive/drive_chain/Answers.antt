use Rattle.std.proofs.Common.{◌++◌}
use Rattle.eob_both.specs.Places.{left_place, right_place}
use Rattle.eob_both.proofs.ChainLemmas.{chain_of_places}
use Rattle.eob_lists.proofs.drive.drive_chain.Goals as goal

pub drive_walk-requires : goal.drive_walk-requires
drive_walk-requires g c =
    let r = c.requires in
    (record { view = r.0; items = r.1 ++ r.2 }, chain_of_places _ _ r.0 r.1 r.2 (left_place c.args.pair) (right_place c.args.pair) c.into_iter_chain-walk.result r.3 r.4 c.into_iter_chain-walk.ensures.left_side c.into_iter_chain-walk.ensures.right_side)

pub returns : goal.returns
returns g c = λ view p q a b. c.drive_walk.ensures.answers (record { view = view; items = p ++ q })
    (chain_of_places _ _ view p q (left_place c.args.pair) (right_place c.args.pair) c.into_iter_chain-walk.result a b c.into_iter_chain-walk.ensures.left_side c.into_iter_chain-walk.ensures.right_side)
