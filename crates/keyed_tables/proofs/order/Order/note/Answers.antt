use Rattle.std.proofs.Common.{Some, ap, option_map, rules}
use Rattle.keyed_tables.proofs.ArrangeLemmas.{key_eq, one_noted}
use Rattle.keyed_tables.proofs.KeyLemmas.{key_cmp, same_level}
use Rattle.keyed_tables.proofs.order.Order.note.Goals as goal

pub returns-in_ok-insert : goal.returns-in_ok-insert
returns-in_ok-insert c =
    let key = c.args.key.now in
    let clone = c.in_ok-clone.field-0 in
    one_noted key_cmp key_eq key clone c.in-Some.keys.keys _ _ (ap (option_map (λ set. set.keys)) c.in-Some.is)
    (same_level clone key (search rules))
    (ap Some c.in_ok-insert.ensures.keys)
