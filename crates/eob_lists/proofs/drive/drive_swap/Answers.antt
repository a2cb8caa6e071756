use Rattle.eob_both.specs.Places.{left_place, right_place, map_places}
use Rattle.eob_both.specs.Aligned.{aligned}
use Rattle.eob_both.proofs.SwapLemmas.{swap_of_places}
use Rattle.eob_lists.proofs.drive.drive_swap.Goals as goal

pub drive-requires : goal.drive-requires
drive-requires g c =
    let r = c.requires in (
      record { view = map_places r.0.view r.1.view; items = aligned r.0.items r.1.items },
      swap_of_places _ _ _ _ _ _ _ _ (left_place c.args.pair) (right_place c.args.pair) c.into_iter_swap.result r.2 r.3 c.into_iter_swap.ensures.left_side c.into_iter_swap.ensures.right_side,
    )

pub returns-clause-answers : goal.returns-clause-answers
returns-clause-answers g c = λ a b k l. c.in_ok-answers.ensures.answers (record { view = map_places a.view b.view; items = aligned a.items b.items })
    (swap_of_places _ _ _ _ a.view b.view a.items b.items (left_place c.args.pair) (right_place c.args.pair) c.into_iter_swap.result k l c.into_iter_swap.ensures.left_side c.into_iter_swap.ensures.right_side)

pub returns-clause-rest : goal.returns-clause-rest
returns-clause-rest g c = λ a b k l. c.in_ok-answers.ensures.rest (record { view = map_places a.view b.view; items = aligned a.items b.items })
    (swap_of_places _ _ _ _ a.view b.view a.items b.items (left_place c.args.pair) (right_place c.args.pair) c.into_iter_swap.result k l c.into_iter_swap.ensures.left_side c.into_iter_swap.ensures.right_side)
