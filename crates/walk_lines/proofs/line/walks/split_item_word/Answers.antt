use Rattle.std.proofs.Common.{◌∷◌, sym, ap, ◌∙◌, subst, refl, true≢false}
use Rattle.line_words.specs.Words.{words, IsWordEnd}
use Rattle.walk_lines.specs.Commands.{item_text}
use Rattle.walk_lines.specs.Answers.{shown}
use Rattle.line_words.proofs.WordLemmas.{words_word, word_ahead}
use Rattle.line_words.proofs.NameLemmas.{end_no_name}
use Rattle.walk_lines.proofs.ItemLemmas.{item_once, item_word}
use Rattle.walk_lines.proofs.line.walks.split_item_word.Goals as goal

pub returns-in_err-item-clause-item : goal.returns-in_err-item-clause-item
returns-in_err-item-clause-item c =
    rw c.from_residual.ensures
    (λ item ws h e.
    let a = word_ahead c.args.bytes.now (item_text item) ws c.requires e in
    true≢false (sym (c.in_err-item.ensures.some item a.0 h (end_no_name a.0 a.2) a.1)))

pub returns-then-is_word_end-clause-item : goal.returns-then-is_word_end-clause-item
returns-then-is_word_end-clause-item c =
    let i = c.in_ok-item.ensures.item in
    let text = item_text (shown c.in_ok-item.item) in
    (ap words i.0 ∙ words_word text c.in_ok-item.rest.now (item_word (shown c.in_ok-item.item) i.1) (c.if-is_word_end.ensures.0 refl) ∙ ap (λ l. text ∷ l) (sym c.skip_spaces.ensures.words), i.1)

pub returns-else-is_word_end-clause-item : goal.returns-else-is_word_end-clause-item
returns-else-is_word_end-clause-item c item ws h e =
    let i = c.in_ok-item.ensures.item in
    let a = word_ahead c.args.bytes.now (item_text item) ws c.requires e in
    let once = item_once (shown c.in_ok-item.item) item c.in_ok-item.rest.now a.0 i.1 h i.2 (end_no_name a.0 a.2) (sym i.0 ∙ a.1) in
    true≢false (sym (c.if-is_word_end.ensures.1 (subst IsWordEnd (sym once) a.2)))
