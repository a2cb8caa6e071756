use Rattle.std.proofs.Common.{ap, sym, append-nil, ◌∙◌, arith, [], ◌++◌, map, drop, ◌≡◌}
use Rattle.std.proofs.Math.ListN.{drop_of_length-le}
use Rattle.std.specs.Option.{option_map}
use Rattle.eob_lists.specs.Answers.{answers}
use Rattle.eob_lists.proofs.DriveLemmas.{kept}
use Rattle.eob_lists.proofs.drive.drive_walk.Goals as goal

pub loop-end-init : goal.loop-end-init
loop-end-init g c = record {
  bounded = λ list h. (list.items, h, ap (λ l. map (option_map list.view) l ++ answers list.items c.args.ends.now) c.in_ok-answers.ensures.items, omega arith);
  counted = λ list h. (list.items, h, ap (λ l. map (option_map list.view) l ++ answers list.items c.args.ends.now) c.in_ok-answers.ensures.items, omega arith);
}

pub call_end-requires-clause-front : goal.call_end-requires-clause-front
call_end-requires-clause-front g c = ((c.loop-end.invariant.bounded c.requires.0 c.requires.1).1.after 1).callable

pub call_end-requires-clause-back : goal.call_end-requires-clause-back
call_end-requires-clause-back g c = ((c.loop-end.invariant.bounded c.requires.0 c.requires.1).1.after 1).callable_back

pub loop-end-preserved : goal.loop-end-preserved
loop-end-preserved g c = record {
  bounded = λ list h. kept _ _ _ list.items c.args.ends.now c.loop-end.walk c.loop-end.answers.items c.loop-end.end-index c.call_end.result c.call_end.new.walk c.push.new.self.items
      c.loop-end-test.true c.call_end.ensures c.in_ok-push.ensures.items (c.loop-end.invariant.bounded list h);
  counted = λ list h. kept _ _ _ list.items c.args.ends.now c.loop-end.walk c.loop-end.answers.items c.loop-end.end-index c.call_end.result c.call_end.new.walk c.push.new.self.items
      c.loop-end-test.true c.call_end.ensures c.in_ok-push.ensures.items (c.loop-end.invariant.counted list h);
}

pub returns-clause-answers : goal.returns-clause-answers
returns-clause-answers g c = λ list h.
    let k = c.loop-end.invariant.bounded list h in
    let past : drop c.loop-end.end-index c.args.ends.now ≡ [] = drop_of_length-le c.args.ends.now c.loop-end-test.false in
    sym (append-nil (map (option_map list.view) c.loop-end.answers.items)) ∙ ap (λ l. map (option_map list.view) c.loop-end.answers.items ++ answers k.0 l) (sym past) ∙ k.2

pub returns-clause-rest : goal.returns-clause-rest
returns-clause-rest g c = λ list h.
    let k = c.loop-end.invariant.counted list h in
    (k.0, k.1, omega (arith, k.3))
