use Rattle.std.proofs.Common.{◌≡◌, ◌∙◌, [], ◌∷◌, ◌++◌, append_assoc, ap, sym}
use Rattle.keyed_cut.specs.Listing.{from_names}
use Rattle.keyed_cut.proofs.ListingTextLemmas.{kept-other, kept-this}
use Rattle.keyed_cut.proofs.listing.key_columns.Goals as goal

pub loop-name-preserved : goal.loop-name-preserved
loop-name-preserved c =
    ap (λ names. c.loop-name.names ++ names) (sym (kept-other _ _ _ c.in-Some.ensures.steps (sym c.starts_with.ensures.value ∙ c.if-starts_with.false))) ∙ c.loop-name.invariant
