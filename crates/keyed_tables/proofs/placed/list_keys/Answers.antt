use Rattle.std.proofs.Common.{◌≡◌, arith, rules, subst, sym}
use Rattle.std.proofs.lemmas.Grind.{common_steps}
use Rattle.std.specs.List.{IsDistinct}
use Rattle.keyed_tables.specs.Placed.{placed}
use Rattle.keyed_tables.proofs.ArrangeLemmas.{key_eq}
use Rattle.keyed_tables.proofs.PlaceLemmas.{distinct_placed, keys_equiv, keys_exact}
use Rattle.keyed_tables.proofs.placed.list_keys.Goals as goal

pub returns-clause-distinct : goal.returns-clause-distinct
returns-clause-distinct c =
    let ours = c.args.ours.now.keys in
    let theirs = c.args.theirs.now.keys in
    let all : c.loop-key.keys.items ≡ placed key_eq ours theirs = first_of (search rules, grind (arith, common_steps)) in
    subst (IsDistinct key_eq) (sym all)
    (distinct_placed key_eq keys_equiv keys_exact ours theirs c.as_slice-key-items.ensures.unique c.as_slice.ensures.unique)
