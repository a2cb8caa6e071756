use Rattle.std.proofs.Common.{◌≡◌, ◌∷◌, sym, ap, ◌∙◌, subst, refl, true≢false}
use Rattle.std.specs.Prelude.{codes}
use Rattle.line_words.specs.Words.{words, IsWordEnd}
use Rattle.line_words.proofs.WordLemmas.{words_word, word_ahead}
use Rattle.walk_lines.proofs.TableLemmas.{slash_word}
use Rattle.walk_lines.proofs.line.joins.split_slash.Goals as goal

pub returns-in_err-rest : goal.returns-in_err-rest
returns-in_err-rest c =
    rw c.from_residual.ensures
    (λ others e.
    let a = word_ahead c.args.bytes.now (codes "/") others c.requires e in
    c.in_err-rest.ensures a.0 a.1)

pub returns-then-is_word_end : goal.returns-then-is_word_end
returns-then-is_word_end c = ap words c.in_ok-rest.ensures ∙ words_word (codes "/") c.in_ok-rest.rest.now slash_word (c.if-is_word_end.ensures.0 refl)

pub returns-else-is_word_end : goal.returns-else-is_word_end
returns-else-is_word_end c others e =
    let a = word_ahead c.args.bytes.now (codes "/") others c.requires e in
    let same : 47 ∷ a.0 ≡ 47 ∷ c.in_ok-rest.rest.now = sym a.1 ∙ c.in_ok-rest.ensures in
    let rest : a.0 ≡ c.in_ok-rest.rest.now = cc in
    true≢false (sym (c.if-is_word_end.ensures.1 (subst IsWordEnd rest a.2)))
