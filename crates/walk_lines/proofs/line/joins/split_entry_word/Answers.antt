use Rattle.std.proofs.Common.{◌∷◌, sym, ap, ◌∙◌, subst, refl, true≢false}
use Rattle.line_words.specs.Words.{words, IsWordEnd}
use Rattle.line_words.proofs.NameLemmas.{end_no_name}
use Rattle.line_words.proofs.WordLemmas.{words_word, word_ahead}
use Rattle.walk_lines.specs.Commands.{entry_text}
use Rattle.walk_lines.specs.Answers.{shown_entry}
use Rattle.walk_lines.proofs.ItemLemmas.{entry_word}
use Rattle.walk_lines.proofs.TableLemmas.{entry_once}
use Rattle.walk_lines.proofs.line.joins.split_entry_word.Goals as goal

pub returns-in_err-entry-clause-entry : goal.returns-in_err-entry-clause-entry
returns-in_err-entry-clause-entry c =
    rw c.from_residual.ensures
    (λ entry ws h e.
    let a = word_ahead c.args.bytes.now (entry_text entry) ws c.requires e in
    true≢false (sym (c.in_err-entry.ensures.some entry.0 entry.1 a.0 h.0 h.1 (end_no_name a.0 a.2) a.1)))

pub returns-then-is_word_end-clause-entry : goal.returns-then-is_word_end-clause-entry
returns-then-is_word_end-clause-entry c =
    let i = c.in_ok-entry.ensures.names in
    let entry = shown_entry c.in_ok-entry.entry in
    (ap words i.0 ∙ words_word (entry_text entry) c.in_ok-entry.rest.now (entry_word entry (i.1, i.2)) (c.if-is_word_end.ensures.0 refl) ∙ ap (λ l. entry_text entry ∷ l) (sym c.skip_spaces.ensures.words), (i.1, i.2))

pub returns-else-is_word_end-clause-entry : goal.returns-else-is_word_end-clause-entry
returns-else-is_word_end-clause-entry c entry ws h e =
    let i = c.in_ok-entry.ensures.names in
    let a = word_ahead c.args.bytes.now (entry_text entry) ws c.requires e in
    let once = entry_once (shown_entry c.in_ok-entry.entry) entry c.in_ok-entry.rest.now a.0 (i.1, i.2) h i.3 (end_no_name a.0 a.2) (sym i.0 ∙ a.1) in
    true≢false (sym (c.if-is_word_end.ensures.1 (subst IsWordEnd (sym once.1) a.2)))
