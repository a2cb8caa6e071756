use Rattle.std.proofs.Common.{length, sym, ap, subst, ◌∙◌, arith}
use Rattle.std.proofs.lemmas.List.{length_push}
use Rattle.std.specs.Iterator.{IsFinite}
use Rattle.eob_both.proofs.ApartLemmas.{apart_start, apart_front, apart_back, apart_end_front, apart_end_back}
use Rattle.eob_known_lists.proofs.drive.take_in_turn.Goals as goal
use Rattle.eob_known_lists.proofs.drive.take_in_turn.Goals.{in-Some+in_ok-push+in-None, in_default}

pub loop-first-init : goal.loop-first-init
loop-first-init g c = (
  λ list h. apart_start h c.new-fronts.ensures.items c.new-backs.ensures.items,
  ap length c.new-fronts.ensures.items ∙ sym (ap length c.new-backs.ensures.items),
)

pub loop-first-init-derived : goal.loop-first-init-derived
loop-first-init-derived g c = let one = c.requires.1.after 1 in (one.callable, subst IsFinite (sym one.counted) tt)

pub next_back-requires : goal.next_back-requires
next_back-requires g c =
    let front = apart_front c.in-Some.first _ _ c.in-Some.ensures.steps c.in_ok-push.ensures.items (c.loop-first.invariant.0 c.requires.0 c.requires.1) in
    (front.to_come.after 1).callable_back

pub loop-first-preserved-derived : goal.loop-first-preserved-derived
loop-first-preserved-derived g c =
    let front = apart_front c.in-Some.first _ _ c.in-Some.ensures.steps c.in_ok-push.ensures.items (c.loop-first.invariant.0 c.requires.0 c.requires.1) in
    let both = apart_back c.in-Some-next_back.last _ _ c.in-Some-next_back.ensures.steps c.in_ok-push-in-Some-next_back.ensures.items front in
    let one = both.to_come.after 1 in (one.callable, subst IsFinite (sym one.counted) tt)

pub loop-first-preserved : goal.loop-first-preserved
loop-first-preserved g c =
    let fronts = ap length c.in_ok-push.ensures.items ∙ length_push _ c.in-Some.first in
    let backs = ap length c.in_ok-push-in-Some-next_back.ensures.items ∙ length_push _ c.in-Some-next_back.last in (
      λ list h.
          apart_back c.in-Some-next_back.last _ _ c.in-Some-next_back.ensures.steps c.in_ok-push-in-Some-next_back.ensures.items
          (apart_front c.in-Some.first _ _ c.in-Some.ensures.steps c.in_ok-push.ensures.items (c.loop-first.invariant.0 list h)),
      omega (arith, fronts, backs, c.loop-first.invariant.1),
    )

pub returns-clause-list : goal.returns-clause-list
returns-clause-list g c = λ list h. elim c.match-next.branch [
  | in-Some+in_ok-push+in-None w ↦ rw w.fronts-is (apart_end_back _ w.in-None.ensures.steps (apart_front w.in-Some.first _ _ w.in-Some.ensures.steps w.in_ok-push.ensures.items (c.loop-first.invariant.0 list h)))
  | in_default w ↦ rw w.fronts-is (apart_end_front _ w.in_default.ensures.steps (c.loop-first.invariant.0 list h))
]

pub returns-clause-turns : goal.returns-clause-turns
returns-clause-turns g c = elim c.match-next.branch [
  | in-Some+in_ok-push+in-None w ↦
      let fronts = ap length w.in_ok-push.ensures.items ∙ length_push _ w.in-Some.first in
      rw w.fronts-is (omega (arith, fronts, c.loop-first.invariant.1), omega (arith, fronts, c.loop-first.invariant.1))
  | in_default w ↦ rw w.fronts-is (omega (arith, c.loop-first.invariant.1), omega (arith, c.loop-first.invariant.1))
]
