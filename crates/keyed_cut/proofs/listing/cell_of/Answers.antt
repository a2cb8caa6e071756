use Rattle.std.proofs.Common.{◌∙◌, [], ap, refl}
use Rattle.std.specs.Prelude.{slice_get, unwrap_or}
use Rattle.std.proofs.lemmas.Iterator.Consumers.{YieldsList-from_first, nth_from_yields_List}
use Rattle.keyed_cut.proofs.ListingTextLemmas.{or-empty}
use Rattle.keyed_cut.proofs.listing.cell_of.Goals as goal

pub returns : goal.returns
returns c =
    let found = nth_from_yields_List c.nth.result _ _ c.nth.ensures.ran (YieldsList-from_first (λ x. x.now) (λ cells. cells) c.iter.result refl) in
    ap (λ cell. cell.now) c.unwrap_or.ensures ∙ or-empty c.nth.result _
    ∙ ap (λ cell. unwrap_or cell []) (found ∙ ap (λ cells. slice_get cells c.args.place) c.iter.ensures.rest)
