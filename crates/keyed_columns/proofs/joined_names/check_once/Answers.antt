use Rattle.std.proofs.Common.{◌≡◌, ◌∙◌, ◌++◌, [], ◌∷◌, ap, append_assoc, sym, true}
use Rattle.keyed_columns.specs.Names.{names_in, repeats}
use Rattle.keyed_columns.proofs.JoinedLemmas.{none-twice, once-more}
use Rattle.keyed_columns.proofs.joined_names.check_once.Goals as goal

pub loop-name-init : goal.loop-name-init
loop-name-init c = record {
  all = ap (λ l. l ++ c.into_iter-name-iterator.result) c.new-there.ensures ∙ c.into_iter-name-iterator.ensures.into_iter_gives;
  once = ap (repeats []) c.new-there.ensures ∙ none-twice;
}

pub loop-name-preserved : goal.loop-name-preserved
loop-name-preserved c =
    let there = names_in c.loop-name.there in
    let name = c.in-Some.name.now in
    let new : c.in_ok-add.field-0 ≡ true = c.if-not-branch.false in
    record {
      all = ap (λ l. l ++ c.next.new.self) (c.in_ok-add.ensures.behind new) ∙ append_assoc there (name ∷ []) c.next.new.self
          ∙ ap (λ l. there ++ l) (sym c.in-Some.ensures.steps) ∙ c.loop-name.invariant.all;
      once = ap (repeats []) (c.in_ok-add.ensures.behind new) ∙ once-more there name c.loop-name.invariant.once (sym c.in_ok-add.ensures.is_new ∙ new);
    }
