use Rattle.keyed_files.proofs.BufferLemmas.{range-passed}
use Rattle.keyed_files.proofs.buffer.Buffer.pass.Goals as goal

pub returns : goal.returns
returns c = let b = c.args.self.now in rw c.min.ensures (range-passed b.bytes.items b.at b.filled c.args.count)
