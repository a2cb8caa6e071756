use Rattle.std.proofs.Common.{◌∷◌, sym, append-nil}
use Rattle.std.proofs.lemmas.List.{take_rest}
use Rattle.line_words.proofs.GrowthLemmas.{extends_same, extends_trans}
use Rattle.line_words.proofs.PartLemmas.{part_more}
use Rattle.walk_lines.specs.Commands.{item_text}
use Rattle.walk_lines.specs.Answers.{shown}
use Rattle.walk_lines.proofs.SpacedLemmas.{texts_all}
use Rattle.walk_lines.proofs.answer.items.append_items.Goals as goal

pub loop-item-init : goal.loop-item-init
loop-item-init g c = record { grown = extends_same _; text = sym (append-nil _) }

pub loop-item-preserved : goal.loop-item-preserved
loop-item-preserved g c =
    let i = c.loop-item.invariant in
    let a = c.in_ok-append_item-2.ensures in
    record {
      grown = extends_trans _ _ _ i.grown a.grown;
      text = part_more (λ item. 32 ∷ item_text (shown item)) _ c.loop-item.item-index _ _ c.loop-item.output.items _ c.loop-item-test.true i.text a.text;
    }

pub returns : goal.returns
returns g c =
    let i = c.loop-item.invariant in
    let a = c.in_ok-append_item.ensures in
    record {
      grown = extends_trans _ _ _ a.grown i.grown;
      text = texts_all item_text shown c.args.items.now _ _ c.loop-item.item-index _ _ _ c.in-len1-up.len_at_least (take_rest c.args.items.now 1) a.text c.loop-item-test.false i.text;
    }
