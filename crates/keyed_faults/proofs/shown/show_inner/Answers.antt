use Rattle.std.proofs.Common.{[], ◌++◌, refl, sym, ap, ◌∙◌, append-nil, append_assoc}
use Rattle.std.specs.Str.Chunks.{utf8_chunks_rest}
use Rattle.keyed_faults.proofs.ShownLemmas.{empty_is_nil, shown_append, shown_nothing, shown_of_eq}
use Rattle.keyed_faults.proofs.shown.show_inner.Goals as goal

pub loop-chunk-init : goal.loop-chunk-init
loop-chunk-init g c plain = (
  [],
  shown_nothing _ _ plain,
  ap utf8_chunks_rest c.into_iter-chunk-iterator.ensures.into_iter_gives ∙ c.utf8_chunks-chunk-items.ensures.rest,
)

pub loop-chunk-preserved : goal.loop-chunk-preserved
loop-chunk-preserved g c plain =
    let now = c.loop-chunk.invariant plain in
    let steps = c.in-Some.ensures.steps in
    let valid = c.valid.result.now in
    let invalid = c.invalid.result.now in
    let words = shown_append _ _ _ _ _ _ now.1 (c.in_ok-show_words.ensures now.1.wrote.plain refl) in
    let both = shown_append _ _ _ _ _ _ words (c.in_ok-show_bytes.ensures words.wrote.plain refl) in (
      (now.0 ++ valid) ++ invalid,
      both,
      append_assoc (now.0 ++ valid) invalid _ ∙ append_assoc now.0 valid _ ∙ ap (λ l. now.0 ++ l) (rw (c.valid.ensures, c.invalid.ensures) (sym steps.0)) ∙ now.2,
    )

pub returns : goal.returns
returns g c plain ok =
    let now = c.loop-chunk.invariant plain in
    shown_of_eq _ _ _ _ _ (sym (append-nil now.0) ∙ ap (λ l. now.0 ++ l) (sym (empty_is_nil _ c.in-None.ensures.steps.0)) ∙ now.2) now.1
