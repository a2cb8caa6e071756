use Rattle.std.proofs.Common.{ap, ◌∙◌}
use Rattle.std.specs.Iterator.{size}
use Rattle.eob_both.proofs.EndsLemmas.{to_come_uncounted}
use Rattle.eob_lists.proofs.drive.drive.Goals as goal

pub drive_walk-requires : goal.drive_walk-requires
drive_walk-requires g c = (c.requires.0, to_come_uncounted _ c.requires.0.view c.requires.0.items c.args.walk c.requires.1)

pub returns-clause-answers : goal.returns-clause-answers
returns-clause-answers g c = λ list h. c.in_ok-answers.ensures.answers list (to_come_uncounted _ list.view list.items c.args.walk h)

pub returns-clause-rest : goal.returns-clause-rest
returns-clause-rest g c = λ list h.
    let left = c.in_ok-answers.ensures.rest list h in
    c.len-rest.ensures.value ∙ ap size (left.1.after 1).counted ∙ left.2
