use Rattle.line_words.proofs.GrowthLemmas.{extends_same}
use Rattle.walk_lines.proofs.answer.append_bad_line.Goals as goal

pub returns-in_err-text-clause-grown : goal.returns-in_err-text-clause-grown
returns-in_err-text-clause-grown g c = extends_same _
