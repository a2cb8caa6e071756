use Rattle.std.proofs.Common.{◌∙◌, ◌∷◌, ◌++◌, [], ap, sym}
use Rattle.keyed_columns.specs.declared.columns.Place.TheVariants as at
use Rattle.keyed_columns.proofs.ColumnLemmas.{key-more}
use Rattle.keyed_columns.proofs.columns.key_first.Goals as goal

pub loop-place-preserved : goal.loop-place-preserved
loop-place-preserved c =
    let place = c.loop-place.place in
    c.in_ok-push.ensures.items ∙ ap (λ l. l ++ (at.Key place ∷ [])) c.loop-place.invariant ∙ sym (key-more place)
