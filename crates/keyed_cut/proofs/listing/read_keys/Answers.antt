use Rattle.std.proofs.Common.{subst}
use Rattle.keyed_cut.specs.Listing.{ReadsKeys}
use Rattle.keyed_cut.proofs.ListingLemmas.{keys-later}
use Rattle.keyed_cut.proofs.listing.read_keys.Goals as goal

pub returns-then-len-lt-MOST_PARTS : goal.returns-then-len-lt-MOST_PARTS
returns-then-len-lt-MOST_PARTS g c =
    let rest = subst (λ old. ReadsKeys g.F.Read.remaining c.args.places.now c.read_key.new.self old c.read_rest.new.keys.items) c.new-keys.ensures.items c.in_ok-read_rest.ensures in
    keys-later g.F.Read.remaining c.args.places.now c.args.source.now c.read_key.new.self c.read_rest.new.keys.items
    (rw c.in-Some.is at c.in_ok-_any.ensures.gives) rest
