use Rattle.keyed_files.proofs.BufferLemmas.{grown-keeps, range-grown}
use Rattle.keyed_files.proofs.buffer.Buffer.read_behind.Goals as goal

pub returns-clause-kept : goal.returns-clause-kept
returns-clause-kept g c =
    let b = c.args.self.now in
    grown-keeps _ _ _ _ _ c.in_ok-count.ensures.taken (range-grown b.bytes.items c.read_from.new.bytes.items b.at b.filled _ b.ordered c.read_from.ensures.before)
