use Rattle.std.proofs.Common.{◌∷◌, sym, append-nil}
use Rattle.std.proofs.lemmas.List.{take_rest}
use Rattle.line_words.proofs.GrowthLemmas.{extends_same, extends_trans}
use Rattle.line_words.proofs.PartLemmas.{part_more}
use Rattle.walk_lines.specs.Texts.{row_text}
use Rattle.walk_lines.specs.Answers.{shown_row}
use Rattle.walk_lines.proofs.SpacedLemmas.{texts_all}
use Rattle.walk_lines.proofs.answer.joins.append_join.Goals as goal

pub loop-row-init : goal.loop-row-init
loop-row-init g c = record { grown = extends_same _; text = sym (append-nil _) }

pub loop-row-preserved : goal.loop-row-preserved
loop-row-preserved g c =
    let i = c.loop-row.invariant in
    let a = c.in_ok-append_row-2.ensures in
    record {
      grown = extends_trans _ _ _ i.grown a.grown;
      text = part_more (λ row. 32 ∷ row_text (shown_row row)) _ c.loop-row.row-index _ _ c.loop-row.output.items _ c.loop-row-test.true i.text a.text;
    }

pub returns : goal.returns
returns g c =
    let i = c.loop-row.invariant in
    let a = c.in_ok-append_row.ensures in
    record {
      grown = extends_trans _ _ _ a.grown i.grown;
      text = texts_all row_text shown_row c.args.joined.now _ _ c.loop-row.row-index _ _ _ c.in-len1-up.len_at_least (take_rest c.args.joined.now 1) a.text c.loop-row-test.false i.text;
    }
