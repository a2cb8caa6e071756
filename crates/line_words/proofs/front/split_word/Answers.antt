use Rattle.std.proofs.Common.{◌≡◌, sym, ap, ◌∙◌, subst, length, get_or, arith}
use Rattle.line_words.proofs.WordLemmas.{word_none, word_split}
use Rattle.line_words.proofs.front.split_word.Goals as goal

pub returns-clause-none : goal.returns-clause-none
returns-clause-none c e =
    let s = c.skip_spaces-word.result.now in
    let z : c.word_len.result ≡ 0 = omega (arith, c.split_at.ensures.front_len, ap length e) in
    sym c.skip_spaces-word.ensures.words ∙ word_none s c.skip_spaces-word.ensures.ahead (λ l. subst (λ k. get_or s k 0 ≡ 32) z (c.word_len.ensures.end (omega arith)))

pub returns-clause-word : goal.returns-clause-word
returns-clause-word c ne =
    sym c.skip_spaces-word.ensures.words
    ∙ word_split c.skip_spaces-word.result.now c.word_len.result c.split_at.result.0.now c.split_at.result.1.now c.split_at.ensures.front c.split_at.ensures.back c.word_len.ensures.before c.word_len.ensures.end ne
