use Rattle.std.proofs.Common.{[], ◌++◌, encode_utf8, refl, sym, ap, ◌∙◌, append-nil, append_assoc}
use Rattle.std.specs.Str.Iter.{char_indices_rest}
use Rattle.keyed_faults.proofs.ShownLemmas.{empty_is_nil, shown_append, shown_nothing, shown_of_eq}
use Rattle.keyed_faults.proofs.shown.show_words.Goals as goal

pub loop-at-init : goal.loop-at-init
loop-at-init g c plain = (
  [],
  shown_nothing _ _ plain,
  ap char_indices_rest c.into_iter-at-iterator.ensures.into_iter_gives ∙ c.char_indices-at-items.ensures.rest,
)

pub loop-at-preserved : goal.loop-at-preserved
loop-at-preserved g c plain =
    let now = c.loop-at.invariant plain in
    let steps = c.in-Some.ensures.steps in (
      now.0 ++ encode_utf8 c.in-Some.c,
      shown_append _ _ _ _ _ _ now.1 (c.in_ok-show_in_quotes.ensures now.1.wrote.plain refl),
      append_assoc now.0 (encode_utf8 c.in-Some.c) _ ∙ ap (λ l. now.0 ++ l) (sym steps.1) ∙ now.2,
    )

pub returns : goal.returns
returns g c plain ok =
    let now = c.loop-at.invariant plain in
    shown_of_eq _ _ _ _ _ (sym (append-nil now.0) ∙ ap (λ l. now.0 ++ l) (sym (empty_is_nil _ c.in-None.ensures.steps.0)) ∙ now.2) now.1
