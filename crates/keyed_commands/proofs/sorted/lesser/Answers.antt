use Rattle.std.proofs.Common.{rules}
use Rattle.keyed_commands.proofs.KeyLemmas.{at_most_itself, lesser_else, lesser_first, only_right}
use Rattle.keyed_commands.proofs.sorted.lesser.Goals.{then-lt, else-lt}
use Rattle.keyed_commands.proofs.sorted.lesser.Goals as goal

pub returns-after-lt-clause-least : goal.returns-after-lt-clause-least
returns-after-lt-clause-least g c =
    rw (c.in-Some.is, c.in-Some-right.is) (elim c.if-lt.branch [
      | then-lt w ↦ rw (w.result-is) (lesser_first g.K.Ord.cmp g.met.K.Ord.total c.in-Some-right.other.now c.in-Some.key.now (search rules))
      | else-lt w ↦ rw (w.result-is) (lesser_else g.K.Ord.cmp g.met.K.Ord.total c.in-Some.key.now c.in-Some-right.other.now (search rules))
    ])

pub returns-in-None-right-clause-least : goal.returns-in-None-right-clause-least
returns-in-None-right-clause-least g c = rw (c.in-Some.is, c.in-None-right.is) (at_most_itself g.K.Ord.cmp g.met.K.Ord.total c.in-Some.key.now, tt)

pub returns-in-None-clause-least : goal.returns-in-None-clause-least
returns-in-None-clause-least g c = only_right g.K.Ord.cmp g.met.K.Ord.total (λ k. k.now) c.args.left c.args.right c.in-None.is
