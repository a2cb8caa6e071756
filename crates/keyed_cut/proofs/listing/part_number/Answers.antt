use Rattle.std.proofs.Common.{◌≡◌, IfOk, string_bytes, subst}
use Rattle.keyed_cut.proofs.ListingTextLemmas.{number-padded}
use Rattle.keyed_cut.proofs.listing.part_number.Goals as goal

pub returns : goal.returns
returns c = subst (λ bytes. IfOk c.format.result (λ number. string_bytes number ≡ bytes)) (number-padded c.args.part) (rw c.laid_out.ensures at c.format.ensures.ok)
