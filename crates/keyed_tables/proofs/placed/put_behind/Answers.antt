use Rattle.std.proofs.Common.{◌≡◌, ◌∙◌, ◌++◌, OnOk, ap, drop, subst, sym}
use Rattle.std.proofs.lemmas.List.{append-nil}
use Rattle.keyed_tables.specs.Placed.{new_first}
use Rattle.keyed_tables.proofs.ArrangeLemmas.{key_eq}
use Rattle.keyed_tables.proofs.PlaceLemmas.{behind_at, behind_no, keys_equiv, keys_exact}
use Rattle.keyed_tables.proofs.placed.put_behind.Goals as goal

pub returns-in-Some : goal.returns-in-Some
returns-in-Some c =
    let ours = c.args.ours.now.keys in
    let theirs = c.args.theirs.now.keys in
    let rest = c.rest_behind.ensures ∙ ap (λ l. drop 1 (drop c.in-Some.place l)) c.as_slice.ensures.keys in
    let behind = behind_at key_eq keys_equiv keys_exact ours theirs c.args.key.now c.in-Some.place (sym c.in-Some.ensures.index) in
    subst (λ l. OnOk c.put_first.result (c.put_first.new.keys.items ≡ c.args.keys.now.items ++ l)) (ap (new_first key_eq ours) rest ∙ sym behind) c.put_first.ensures

pub returns-in-None : goal.returns-in-None
returns-in-None c =
    let none = behind_no key_eq keys_equiv keys_exact c.args.ours.now.keys c.args.theirs.now.keys c.args.key.now (sym c.in-None.ensures.found) in
    sym (ap (λ l. c.args.keys.now.items ++ l) none ∙ append-nil c.args.keys.now.items)
