use Rattle.std.proofs.Common.{arith, ap, sym, ◌∙◌, ◌≡◌, ◌++◌, ◌∷◌, [], length}
use Rattle.std.proofs.lemmas.Iterator.Adapters.{YieldsList-from_vec}
use Rattle.std.proofs.lemmas.Iterator.Consumers.{YieldsList-end}
use Rattle.std.proofs.lemmas.List.{map-id}
use Rattle.std.specs.Vec.Iter.{into_iter_len}
use Rattle.eob_both.specs.Places.{left_place, right_place}
use Rattle.eob_both.specs.Sides.{lefts, rights}
use Rattle.eob_both.proofs.SideLemmas.{filter_map-push_none, filter_map-push_some}
use Rattle.eob_lists.proofs.regroup.split_sides.Goals as goal

pub loop-value-preserved-in-Continue-branch-3 : goal.loop-value-preserved-in-Continue-branch-3
loop-value-preserved-in-Continue-branch-3 g c =
    let before = c.loop-value in
    record {
      in_left = c.in_ok-push-in-Left.ensures.items ∙ ap (λ l. l ++ c.in-Left.l ∷ []) before.invariant.in_left ∙ sym (filter_map-push_some left_place before.yielded c.in-Some.value c.in-Left.l (ap left_place c.in-Left.is));
      in_right = before.invariant.in_right ∙ sym (filter_map-push_none right_place before.yielded c.in-Some.value (ap right_place c.in-Left.is));
    }

pub loop-value-preserved-in-Continue-branch-5 : goal.loop-value-preserved-in-Continue-branch-5
loop-value-preserved-in-Continue-branch-5 g c =
    let before = c.loop-value in
    record {
      in_left = c.in_ok-push-in-Both.ensures.items ∙ ap (λ l. l ++ c.in-Both.l ∷ []) before.invariant.in_left ∙ sym (filter_map-push_some left_place before.yielded c.in-Some.value c.in-Both.l (ap left_place c.in-Both.is));
      in_right = c.in_ok-push-in-Both-2.ensures.items ∙ ap (λ l. l ++ c.in-Both.r ∷ []) before.invariant.in_right ∙ sym (filter_map-push_some right_place before.yielded c.in-Some.value c.in-Both.r (ap right_place c.in-Both.is));
    }

pub loop-value-preserved : goal.loop-value-preserved
loop-value-preserved g c =
    let before = c.loop-value in
    record {
      in_left = before.invariant.in_left ∙ sym (filter_map-push_none left_place before.yielded c.in-Some.value (ap left_place c.in-Right.is));
      in_right = c.in_ok-push-in-Right.ensures.items ∙ ap (λ l. l ++ c.in-Right.r ∷ []) before.invariant.in_right ∙ sym (filter_map-push_some right_place before.yielded c.in-Some.value c.in-Right.r (ap right_place c.in-Right.is));
    }

pub returns : goal.returns
returns g c =
    let made = c.into_iter-value-iterator.ensures.into_iter_gives in
    let counted : into_iter_len c.into_iter-value-iterator.result ≡ length c.args.list.items = grind arith in
    let given = YieldsList-from_vec c.args.list.items made.0 counted in
    let whole = sym (map-id c.loop-value.yielded) ∙ (YieldsList-end given c.loop-value.yielded c.loop-value.value-iterator c.loop-value.yielded_by c.next.result c.next.new.self c.in-None.is c.next.ensures.steps).0 in
    (c.loop-value.invariant.in_left ∙ ap lefts whole, c.loop-value.invariant.in_right ∙ ap rights whole)
