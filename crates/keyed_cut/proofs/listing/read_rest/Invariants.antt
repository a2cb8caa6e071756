use Rattle.keyed_cut.specs.Listing.{ReadsKeysOn}
use Rattle.keyed_cut.proofs.listing.read_rest.Given as goal

abbrev pub invariant-loop : goal.invariant-loop
invariant-loop g l = ReadsKeysOn g.F.Read.remaining l.places l.fn.source l.source l.fn.keys.items l.keys.items
