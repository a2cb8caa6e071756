use Rattle.keyed_laws.proofs.DiffedTextLemmas.{diffed-text-by-law, diffed-text-law}
use Rattle.keyed_laws.proofs.laws.law_diff_apply_texts.Goals as goal

pub returns : goal.returns
returns c = record { by = diffed-text-by-law; plain = diffed-text-law }
