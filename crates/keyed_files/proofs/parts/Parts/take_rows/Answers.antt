use Rattle.std.proofs.Common.{subst, sym}
use Rattle.keyed_files.specs.Parts.{Takes}
use Rattle.keyed_files.proofs.PartLemmas.{takes_all, takes_and, takes_none}
use Rattle.keyed_files.proofs.parts.Parts.take_rows.Goals as goal

pub loop-init : goal.loop-init
loop-init g c = subst (Takes c.args.bound.now c.args.self.now c.args.self.now) (sym c.new-rows.ensures.items) (takes_none c.args.bound.now c.args.self.now)

pub loop-preserved : goal.loop-preserved
loop-preserved g c =
    takes_and c.args.bound.now c.args.self.now c.loop.self c.pop.new.self c.loop.rows.items c.loop.invariant c.in-Some.ensures.same
    c.push.new.self.items c.in-Some.row c.in-Some.ensures.first c.in-Some.ensures.rest c.in_ok-push-in-Some.ensures.items

pub returns-in-None-clause-rows : goal.returns-in-None-clause-rows
returns-in-None-clause-rows g c =
    takes_all c.args.bound.now c.args.self.now c.loop.self c.pop.new.self c.loop.rows.items c.loop.invariant c.in-None.ensures.same
    c.in-None.ensures.first c.in-None.ensures.rest
