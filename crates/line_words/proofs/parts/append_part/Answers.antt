use Rattle.line_words.proofs.GrowthLemmas.{extends_maybe}
use Rattle.line_words.proofs.parts.append_part.Goals as goal

pub returns-clause-grown : goal.returns-clause-grown
returns-clause-grown g c = extends_maybe _ _ _ _ c.extend_from_slice.ensures.items
