use Rattle.std.proofs.Common.{◌≡◌, ◌∙◌, [], ap, arith, rules, sym}
use Rattle.std.proofs.lemmas.Grind.{common_steps}
use Rattle.indexmap.specs.IndexSet.{insert_all}
use Rattle.keyed_tables.proofs.ArrangeLemmas.{key_eq}
use Rattle.keyed_tables.proofs.PlaceLemmas.{set_of_distinct}
use Rattle.keyed_tables.proofs.placed.set_of.Goals as goal

pub returns : goal.returns
returns c =
    let none : c.loop-key.key-iterator.rest.items ≡ [] = first_of (search rules, grind (arith, common_steps)) in
    ap (insert_all key_eq c.loop-key.set.keys) (sym none) ∙ c.loop-key.invariant ∙ set_of_distinct c.args.keys.items c.requires
