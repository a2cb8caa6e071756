use Rattle.std.proofs.Common.{arith, ap, sym, ◌∙◌, ◌≡◌, ◌++◌, ◌∷◌, [], length}
use Rattle.std.proofs.lemmas.Iterator.Adapters.{YieldsList-from_vec}
use Rattle.std.proofs.lemmas.Iterator.Consumers.{YieldsList-end}
use Rattle.std.proofs.lemmas.List.{map-id}
use Rattle.std.specs.Option.{option_map}
use Rattle.std.specs.Vec.Iter.{into_iter_len}
use Rattle.eob_both.proofs.SideLemmas.{filter_map-push_none, filter_map-push_some}
use Rattle.eob_joins.specs.Marked.{settled_value, unresolved_versions}
use Rattle.eob_joins.specs.Tables.{kept}
use Rattle.eob_joins.proofs.marked.part_marked.Goals as goal

pub loop-key-preserved-in-Continue-1 : goal.loop-key-preserved-in-Continue-1
loop-key-preserved-in-Continue-1 g c = (
  c.in_ok-push-in-Settled.ensures.items ∙ ap (λ l. l ++ (c.in-Some.key, c.in-Settled.value) ∷ []) c.loop-key.invariant.0
      ∙ sym (filter_map-push_some (λ z. option_map (λ w. (z.0, w)) (settled_value z.1)) c.loop-key.yielded (c.in-Some.key, c.in-Some.row) (c.in-Some.key, c.in-Settled.value) (ap (λ m. option_map (λ w. (c.in-Some.key, w)) (settled_value m)) c.in-Settled.is)),
  c.loop-key.invariant.1
      ∙ sym (filter_map-push_none (λ z. option_map (λ w. (z.0, w)) (unresolved_versions z.1)) c.loop-key.yielded (c.in-Some.key, c.in-Some.row) (ap (λ m. option_map (λ w. (c.in-Some.key, w)) (unresolved_versions m)) c.in-Settled.is)),
)

pub loop-key-preserved : goal.loop-key-preserved
loop-key-preserved g c = (
  c.loop-key.invariant.0
      ∙ sym (filter_map-push_none (λ z. option_map (λ w. (z.0, w)) (settled_value z.1)) c.loop-key.yielded (c.in-Some.key, c.in-Some.row) (ap (λ m. option_map (λ w. (c.in-Some.key, w)) (settled_value m)) c.in-Unresolved.is)),
  c.in_ok-push-in-Unresolved.ensures.items ∙ ap (λ l. l ++ (c.in-Some.key, c.in-Unresolved.versions) ∷ []) c.loop-key.invariant.1
      ∙ sym (filter_map-push_some (λ z. option_map (λ w. (z.0, w)) (unresolved_versions z.1)) c.loop-key.yielded (c.in-Some.key, c.in-Some.row) (c.in-Some.key, c.in-Unresolved.versions) (ap (λ m. option_map (λ w. (c.in-Some.key, w)) (unresolved_versions m)) c.in-Unresolved.is)),
)

pub returns-clause-settled : goal.returns-clause-settled
returns-clause-settled g c =
    let made = c.into_iter-key-iterator.ensures.into_iter_gives in
    let counted : into_iter_len c.into_iter-key-iterator.result ≡ length c.args.rows.items = grind arith in
    let given = YieldsList-from_vec c.args.rows.items made.0 counted in
    let whole = sym (map-id c.loop-key.yielded) ∙ (YieldsList-end given c.loop-key.yielded c.loop-key.key-iterator c.loop-key.yielded_by c.next.result c.next.new.self c.in-None.is c.next.ensures.steps).0 in
    c.loop-key.invariant.0 ∙ ap (kept settled_value) whole

pub returns-clause-unresolved : goal.returns-clause-unresolved
returns-clause-unresolved g c =
    let made = c.into_iter-key-iterator.ensures.into_iter_gives in
    let counted : into_iter_len c.into_iter-key-iterator.result ≡ length c.args.rows.items = grind arith in
    let given = YieldsList-from_vec c.args.rows.items made.0 counted in
    let whole = sym (map-id c.loop-key.yielded) ∙ (YieldsList-end given c.loop-key.yielded c.loop-key.key-iterator c.loop-key.yielded_by c.next.result c.next.new.self c.in-None.is c.next.ensures.steps).0 in
    c.loop-key.invariant.1 ∙ ap (kept unresolved_versions) whole
