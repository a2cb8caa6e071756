use Rattle.std.proofs.KnownBytes.{Keeps-refl, Keeps-trans}
use Rattle.keyed_files.proofs.ahead.Ahead.read_first.Goals as goal

pub loop-init : goal.loop-init
loop-init g c = Keeps-refl _

pub loop-preserved : goal.loop-preserved
loop-preserved g c = Keeps-trans _ _ _ c.loop.invariant c.read_more.ensures.kept

pub returns-in_err-read_more : goal.returns-in_err-read_more
returns-in_err-read_more g c = Keeps-trans _ _ _ c.loop.invariant c.read_more.ensures.kept
