use Rattle.std.proofs.Common.{◌≡◌, ◌∙◌, ◌+◌, ◌∷◌, ap, drop, sym}
use Rattle.std.proofs.lemmas.List.{drop_all, drop_more}
use Rattle.keyed_cut.proofs.ListingTextLemmas.{part-then, parts-end}
use Rattle.keyed_cut.proofs.listing.put_parts.Goals as goal

pub loop-place-preserved : goal.loop-place-preserved
loop-place-preserved c end h =
    let bounds = c.args.bounds.now in
    let i = c.loop-place.place in
    let bound = c.index-bounds-place.result in
    let at : drop i bounds ≡ bound ∷ drop (i + 1) bounds = drop_more bounds i bound c.loop-place-test.true ∙ ap (λ first. first ∷ drop (i + 1) bounds) (sym c.index-bounds-place.is) in
    c.loop-place.invariant end (part-then c.args.cells c.args.counts.now bounds i (i + 1) _ _ end bound at c.in_ok-put_part.ensures h)

pub returns : goal.returns
returns c =
    let i = c.loop-place.place in
    c.loop-place.invariant _ (parts-end c.args.cells c.args.counts.now c.args.bounds.now i (i + 1) _ (drop_all i c.args.bounds.now c.loop-place-test.false))
