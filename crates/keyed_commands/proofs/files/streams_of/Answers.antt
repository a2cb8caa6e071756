use Rattle.std.proofs.Common.{◌≡◌, [], append-nil, arith, rules, subst}
use Rattle.std.proofs.lemmas.Grind.{common_steps}
use Rattle.keyed_commands.specs.Requested.{AreStreamsOf}
use Rattle.keyed_commands.proofs.RequestLemmas.{no-streams}
use Rattle.keyed_commands.proofs.files.streams_of.Goals as goal

pub returns : goal.returns
returns g c =
    let none : c.loop-named.named-iterator.rest.items ≡ [] = first_of (search rules, grind (arith, common_steps)) in
    subst (AreStreamsOf c.args.files.items) (append-nil c.loop-named.streams.items) (c.loop-named.invariant [] (no-streams _ _ _ none))
