use Rattle.std.proofs.Common.{◌∙◌, ◌+◌, ◌++◌, ap, drop, sym}
use Rattle.std.proofs.lemmas.List.{drop_all, drop_more}
use Rattle.csv.specs.Writing.{default_writer, escaped}
use Rattle.keyed_text.proofs.SpellingLemmas.{escaped-more, escaped-none}
use Rattle.keyed_text.proofs.spelling.put_escaped.Goals as goal

pub loop-byte-preserved : goal.loop-byte-preserved
loop-byte-preserved c =
    let cell = c.args.cell.now in
    let text = c.loop-byte.text.items in
    let rest = drop (c.loop-byte.byte-index + 1) cell in
    ap (λ t. t ++ escaped default_writer rest) c.in_ok-put_byte.ensures ∙ escaped-more text _ rest
    ∙ ap (λ l. text ++ escaped default_writer l) (sym (drop_more cell c.loop-byte.byte-index _ c.loop-byte-test.true)) ∙ c.loop-byte.invariant

pub returns : goal.returns
returns c =
    sym (escaped-none c.loop-byte.text.items)
    ∙ ap (λ l. c.loop-byte.text.items ++ escaped default_writer l) (sym (drop_all c.loop-byte.byte-index c.args.cell.now c.loop-byte-test.false))
    ∙ c.loop-byte.invariant
