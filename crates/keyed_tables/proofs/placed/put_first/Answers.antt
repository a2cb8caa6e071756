use Rattle.std.proofs.Common.{◌≡◌, ◌∙◌, ◌+◌, ◌++◌, ◌∷◌, [], ap, append_assoc, drop, rules, sym}
use Rattle.std.proofs.lemmas.List.{append-nil}
use Rattle.keyed_tables.specs.Placed.{new_first}
use Rattle.keyed_tables.proofs.ArrangeLemmas.{key_eq}
use Rattle.keyed_tables.proofs.PlaceLemmas.{first_ends, first_more, keys_equiv, keys_exact}
use Rattle.keyed_tables.proofs.placed.put_first.Goals as goal

pub returns-then-contains : goal.returns-then-contains
returns-then-contains c =
    let ours = c.args.ours.now.keys in
    let end = first_ends key_eq keys_equiv keys_exact ours c.args.theirs.now c.loop-key.key-index c.key-item.result (search rules) c.key-item.is (search rules) in
    sym (append-nil c.loop-key.keys.items) ∙ ap (λ l. c.loop-key.keys.items ++ l) (sym end) ∙ c.loop-key.invariant

pub loop-key-preserved : goal.loop-key-preserved
loop-key-preserved c =
    let ours = c.args.ours.now.keys in
    let key = c.key-item.result in
    let rest = new_first key_eq ours (drop (c.loop-key.key-index + 1) c.args.theirs.now) in
    let more = first_more key_eq keys_equiv keys_exact ours c.args.theirs.now c.loop-key.key-index key (search rules) c.key-item.is (search rules) in
    let pushed : c.push.new.self.items ≡ c.loop-key.keys.items ++ key ∷ [] = search rules in
    ap (λ l. l ++ rest) pushed ∙ append_assoc c.loop-key.keys.items (key ∷ []) rest ∙ ap (λ l. c.loop-key.keys.items ++ l) (sym more) ∙ c.loop-key.invariant
