use Rattle.std.proofs.Common.{sym, ◌∙◌}
use Rattle.std.proofs.lemmas.Result.{IfOk-weaker}
use Rattle.eob_both.specs.Places.{map_places}
use Rattle.eob_known_lists.specs.Listed.{place_as_is}
use Rattle.eob_known_lists.proofs.OwnLemmas.{answers_as_is}
use Rattle.eob_known_lists.proofs.drive.drive_swap_owned.Goals as goal

pub returns-clause-answers : goal.returns-clause-answers
returns-clause-answers g c = IfOk-weaker c.drive_swap_listed.result _ _
    (λ d h. sym (answers_as_is (map_places g.L.Listing.view g.R.Listing.view) (place_as_is g.L.Listing.view g.R.Listing.view g.met.L.OwnListing.as_is g.met.R.OwnListing.as_is) d.answers.items) ∙ h)
    c.drive_swap_listed.ensures.answers
