use Rattle.std.proofs.Common.{◌∙◌, refl, sym, ap, true}
use Rattle.std.proofs.iter.runs.Made.{run}
use Rattle.eob_both.specs.declared.either_or_both.EitherOrBoth.TheVariants.{Left}
use Rattle.indexmap.specs.IndexMap.{insert_entry}
use Rattle.eob_joins.proofs.MapJoinLemmas.{one_left}
use Rattle.eob_joins.proofs.maps.put_lefts.Goals as goal

pub loop-key-preserved : goal.loop-key-preserved
loop-key-preserved g c =
    c.in_ok-put_left.ensures ∙ ap (λ es. insert_entry g.K.PartialEq.eq es c.in-Some.key (Left c.in-Some.a)) c.loop-key.invariant
    ∙ sym (one_left g.met.K.Eq.laws c.args.rows.now.entries c.loop-key.yielded c.in-Some.key c.in-Some.a)

pub returns : goal.returns
returns g c =
    let p = run _ _ c.loop-key.yielded true (_, c.loop-key.yielded_by, λ w. (_, c.in-None.ensures.steps)) in
    (p, c.into_iter-key-iterator.ensures.into_iter_gives, refl, c.loop-key.invariant)
