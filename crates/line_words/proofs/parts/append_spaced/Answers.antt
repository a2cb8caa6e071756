use Rattle.std.proofs.Common.{◌++◌, ◌∷◌, sym, ap, ◌∙◌, append-nil}
use Rattle.std.proofs.lemmas.List.{take_rest}
use Rattle.line_words.proofs.GrowthLemmas.{extends_same, extends_trans}
use Rattle.line_words.proofs.PartLemmas.{part_more, join_none, spaced_all}
use Rattle.line_words.proofs.parts.append_spaced.Goals as goal

pub returns-in_default : goal.returns-in_default
returns-in_default g c = record {
  grown = extends_same _;
  text = sym (ap (λ l. c.args.output.now.items ++ l) (join_none (λ word. word.now) c.args.words.now c.in_default.len_below) ∙ append-nil _);
}

pub loop-word-init : goal.loop-word-init
loop-word-init g c = record { grown = extends_same _; text = sym (append-nil _) }

pub loop-word-preserved : goal.loop-word-preserved
loop-word-preserved g c =
    let i = c.loop-word.invariant in
    let a = c.in_ok-append_parts.ensures in
    record {
      grown = extends_trans _ _ _ i.grown a.grown;
      text = part_more (λ word. 32 ∷ word.now) _ c.loop-word.word-index _ _ c.loop-word.output.items _ c.loop-word-test.true i.text
          (a.text ∙ ap (λ l. c.loop-word.output.items ++ 32 ∷ l) (append-nil _));
    }

pub returns : goal.returns
returns g c =
    let i = c.loop-word.invariant in
    let a = c.in_ok-append_part.ensures in
    record {
      grown = extends_trans _ _ _ a.grown i.grown;
      text = spaced_all (λ word. word.now) c.args.words.now _ _ c.loop-word.word-index _ _ _ c.in-len1-up.len_at_least (take_rest c.args.words.now 1) a.text c.loop-word-test.false i.text;
    }
