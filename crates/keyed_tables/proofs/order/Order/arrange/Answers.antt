use Rattle.std.proofs.Common.{ap, option_map, position, rules}
use Rattle.std.proofs.lemmas.Fn.{always_returns_same}
use Rattle.keyed_tables.proofs.ArrangeLemmas.{arranged, key_eq}
use Rattle.keyed_tables.proofs.order.Order.arrange.Goals as goal

pub returns-in_ok-sort_by_cached_key-in-Some-clause-order :
    goal.returns-in_ok-sort_by_cached_key-in-Some-clause-order
returns-in_ok-sort_by_cached_key-in-Some-clause-order g c =
    let keys = c.in-Some.keys.keys in
    arranged key_eq keys _ _ _ (ap (option_map (λ set. set.keys)) c.in-Some.is)
    (c.in_ok-sort_by_cached_key-in-Some.ensures.sorted (λ row. position (key_eq row.0) keys) (always_returns_same _ _ _ (λ a r f h. search rules)))
