use Rattle.std.proofs.Common.{arith, ap, sym, ◌∙◌, ◌≡◌, ◌++◌, ◌∷◌, [], length}
use Rattle.std.proofs.lemmas.Iterator.Adapters.{YieldsList-from_vec}
use Rattle.std.proofs.lemmas.Iterator.Consumers.{YieldsList-end}
use Rattle.std.proofs.lemmas.List.{map-id}
use Rattle.std.specs.Option.{option_map}
use Rattle.std.specs.Vec.Iter.{into_iter_len}
use Rattle.eob_both.proofs.SideLemmas.{filter_map-push_none, filter_map-push_some}
use Rattle.eob_joins.specs.Tables.{kept}
use Rattle.eob_joins.specs.Changes.{applied}
use Rattle.eob_joins.proofs.changes.applied_rows.Goals as goal

pub loop-row-preserved-in-Continue-branch-2 : goal.loop-row-preserved-in-Continue-branch-2
loop-row-preserved-in-Continue-branch-2 g c =
    c.in_ok-push-in-Some-applied_row.ensures.items ∙ ap (λ l. l ++ c.in-Some-applied_row.kept ∷ []) c.loop-row.invariant ∙ sym (filter_map-push_some (λ z. option_map (λ w. (z.0, w)) (applied z.1)) c.loop-row.yielded c.in-Some.row c.in-Some-applied_row.kept (sym c.in-Some-applied_row.ensures))

pub loop-row-preserved : goal.loop-row-preserved
loop-row-preserved g c =
    c.loop-row.invariant ∙ sym (filter_map-push_none (λ z. option_map (λ w. (z.0, w)) (applied z.1)) c.loop-row.yielded c.in-Some.row (sym c.in-None-applied_row.ensures))

pub returns : goal.returns
returns g c =
    let made = c.into_iter-row-iterator.ensures.into_iter_gives in
    let counted : into_iter_len c.into_iter-row-iterator.result ≡ length c.in_ok-joined.joined.items = grind arith in
    let given = YieldsList-from_vec c.in_ok-joined.joined.items made.0 counted in
    let whole = sym (map-id c.loop-row.yielded) ∙ (YieldsList-end given c.loop-row.yielded c.loop-row.row-iterator c.loop-row.yielded_by c.next.result c.next.new.self c.in-None.is c.next.ensures.steps).0 in
    (c.in_ok-joined.joined.items, c.in_ok-joined.ensures.join, c.loop-row.invariant ∙ ap (kept applied) whole)
