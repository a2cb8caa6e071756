use Rattle.keyed_cut.proofs.ListingLemmas.{keys-all, keys-and, keys-none}
use Rattle.keyed_cut.proofs.listing.read_rest.Goals as goal

pub loop-init : goal.loop-init
loop-init g c = keys-none g.F.Read.remaining c.args.places.now c.args.source.now c.args.keys.now.items

pub returns-in-None : goal.returns-in-None
returns-in-None g c =
    keys-all g.F.Read.remaining c.args.places.now c.args.source.now c.loop.source c.read_key.new.self c.args.keys.now.items c.loop.keys.items c.loop.invariant
    (rw c.in-None.is at c.in_ok-key.ensures.gives)

pub loop-preserved : goal.loop-preserved
loop-preserved g c =
    keys-and g.F.Read.remaining c.args.places.now c.args.source.now c.loop.source c.read_key.new.self c.in-Some.key c.args.keys.now.items c.loop.keys.items
    c.put.new.items.items c.loop.invariant (rw c.in-Some.is at c.in_ok-key.ensures.gives) (rw c.in-Some.is at c.in_ok-key.ensures.key) c.in_ok-put-in-Some.ensures
