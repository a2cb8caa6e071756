use Rattle.std.proofs.Common.{sym, ◌∙◌}
use Rattle.std.proofs.lemmas.Result.{IfOk-weaker}
use Rattle.eob_known_lists.proofs.OwnLemmas.{answers_as_is}
use Rattle.eob_known_lists.proofs.drive.drive_chain_owned.Goals as goal

pub returns : goal.returns
returns g c = IfOk-weaker c.drive_chain_listed.result _ _ (λ v h. sym (answers_as_is g.T.Listing.view g.met.T.OwnListing.as_is v.items) ∙ h) c.drive_chain_listed.ensures
