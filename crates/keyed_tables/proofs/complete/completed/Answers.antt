use Rattle.keyed_tables.proofs.CompletedLemmas.{changes-again, changes-rise, old-again, old-rises}
use Rattle.keyed_tables.proofs.complete.completed.Goals as goal

pub invariant_of-old : goal.invariant_of-old
invariant_of-old c = record { rises = old-rises c.args.missing.now c.args.old.pairs.items c.args.changes.pairs.items c.in_ok-joined.joined.items c.in_ok-joined.ensures.join _ c.in_ok-lists.ensures.old }

pub invariant_of-changes : goal.invariant_of-changes
invariant_of-changes c = record { rises = changes-rise c.args.missing.now c.args.old.pairs.items c.args.changes.pairs.items c.in_ok-joined.joined.items c.in_ok-joined.ensures.join _ c.in_ok-lists.ensures.changes }

pub returns-clause-old : goal.returns-clause-old
returns-clause-old c = old-again c.args.missing.now c.args.old.pairs.items c.args.changes.pairs.items c.in_ok-joined.joined.items c.in_ok-joined.ensures.join _ c.in_ok-lists.ensures.old c.args.old.rises

pub returns-clause-changes : goal.returns-clause-changes
returns-clause-changes c = changes-again c.args.missing.now c.args.old.pairs.items c.args.changes.pairs.items c.in_ok-joined.joined.items c.in_ok-joined.ensures.join _ c.in_ok-lists.ensures.changes c.args.changes.rises
