use Rattle.std.proofs.Common.{◌∙◌, ◌++◌, ◌+◌, ap, drop}
use Rattle.keyed_text.specs.TextStyles.{style_with}
use Rattle.keyed_text.proofs.StyleLemmas.{notes-all, notes-more}
use Rattle.keyed_text.proofs.style_notes.StyleNotes.take.Goals as goal

pub loop-byte-preserved : goal.loop-byte-preserved
loop-byte-preserved c = λ none.
    let bytes = c.args.bytes.now in
    let i = c.loop-byte.byte-index in
    let held = c.loop-byte.invariant none in
    let step = c.take_byte.ensures held.0 in (
      ap (λ n. n.skipped) step ∙ held.0,
      λ rest. ap (λ n. style_with n (drop (i + 1) bytes ++ rest)) step
          ∙ notes-more c.args.self.now c.loop-byte.self bytes i c.loop-byte-test.true held.0 held.1 rest,
    )
