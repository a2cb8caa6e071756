use Rattle.std.proofs.Common.{arith, ap, sym, subst, ◌∙◌, ◌≡◌, ◌++◌, ◌∷◌, [], length, Some, None, append-nil}
use Rattle.std.proofs.lemmas.Iterator.Adapters.{YieldsList-from_vec}
use Rattle.std.proofs.lemmas.Iterator.Consumers.{YieldsList-end}
use Rattle.std.proofs.lemmas.List.{map-id}
use Rattle.std.specs.Vec.Iter.{into_iter_len}
use Rattle.eob_joins.proofs.SettledLemmas.{kept_as-push}
use Rattle.eob_joins.specs.Settled.{KeptAs}
use Rattle.eob_joins.specs.Marked.{MarkedAs}
use Rattle.eob_joins.proofs.marked.marked_rows.Goals as goal

pub loop-key-preserved-in-Continue-branch-3 : goal.loop-key-preserved-in-Continue-branch-3
loop-key-preserved-in-Continue-branch-3 g c =
    let marks = MarkedAs g.V.PartialEq.eq (g.S.Settle.can c.args.rule.now) (g.S.Settle.gives c.args.rule.now) in
    let became = subst (marks c.in-Some.versions) c.in-Some-2.is c.in_ok-row.ensures in
    let pushed = kept_as-push marks c.loop-key.yielded c.loop-key.rows.items (c.in-Some.key, c.in-Some.versions) (Some c.in-Some-2.row) c.loop-key.invariant became in
    subst (KeptAs marks (c.loop-key.yielded ++ (c.in-Some.key, c.in-Some.versions) ∷ [])) (sym c.in_ok-push-in-Some-2.ensures.items) pushed

pub loop-key-preserved : goal.loop-key-preserved
loop-key-preserved g c =
    let marks = MarkedAs g.V.PartialEq.eq (g.S.Settle.can c.args.rule.now) (g.S.Settle.gives c.args.rule.now) in
    let became = subst (marks c.in-Some.versions) c.in-None-2.is c.in_ok-row.ensures in
    let passed = kept_as-push marks c.loop-key.yielded c.loop-key.rows.items (c.in-Some.key, c.in-Some.versions) None c.loop-key.invariant became in
    subst (KeptAs marks (c.loop-key.yielded ++ (c.in-Some.key, c.in-Some.versions) ∷ [])) (append-nil c.loop-key.rows.items) passed

pub returns : goal.returns
returns g c =
    let marks = MarkedAs g.V.PartialEq.eq (g.S.Settle.can c.args.rule.now) (g.S.Settle.gives c.args.rule.now) in
    let made = c.into_iter-key-iterator.ensures.into_iter_gives in
    let counted : into_iter_len c.into_iter-key-iterator.result ≡ length c.args.all.items = grind arith in
    let given = YieldsList-from_vec c.args.all.items made.0 counted in
    let whole = sym (map-id c.loop-key.yielded) ∙ (YieldsList-end given c.loop-key.yielded c.loop-key.key-iterator c.loop-key.yielded_by c.next.result c.next.new.self c.in-None.is c.next.ensures.steps).0 in
    subst (λ l. KeptAs marks l c.loop-key.rows.items) whole c.loop-key.invariant
