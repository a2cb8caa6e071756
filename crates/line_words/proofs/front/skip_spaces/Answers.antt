use Rattle.std.proofs.Common.{ap, ◌∙◌}
use Rattle.std.proofs.lemmas.List.{take_rest}
use Rattle.line_words.specs.Words.{words}
use Rattle.line_words.proofs.WordLemmas.{words_spaces}
use Rattle.line_words.proofs.front.skip_spaces.Goals as goal

pub returns-clause-words : goal.returns-clause-words
returns-clause-words c =
    let xs = c.args.bytes.now in
    let n = c.spaces_len.result in
    ap words (take_rest xs n) ∙ words_spaces n xs (λ k l m. c.spaces_len.ensures.before k l)
