use Rattle.std.proofs.Common.{ap, refl}
use Rattle.keyed_files.specs.Parts.{keys_in}
use Rattle.keyed_files.proofs.PartLemmas.{begun}
use Rattle.keyed_files.proofs.parts.Parts.new.Goals as goal

pub returns-clause-rises : goal.returns-clause-rises
returns-clause-rises g c = ap keys_in c.new.ensures.items

pub returns-clause-begins : goal.returns-clause-begins
returns-clause-begins g c = λ d e text given h. begun g.R.Read.remaining d e text given _ refl c.new.ensures.items h
