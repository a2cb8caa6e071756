use Rattle.std.proofs.Common.{ap, sym, ◌∙◌}
use Rattle.eob_both.specs.Values.{values_left}
use Rattle.eob_lists.specs.Answers.{answers, left_over}
use Rattle.eob_lists.proofs.ShownLemmas.{as_they_are, shown_to_come}
use Rattle.eob_lists.proofs.drive.drive_items.Goals as goal

pub drive-requires : goal.drive-requires
drive-requires g c = (record { view = λ x. x; items = values_left c.into_iter.result }, shown_to_come values_left c.into_iter.result)

pub returns-clause-answers : goal.returns-clause-answers
returns-clause-answers g c =
    sym (as_they_are c.in_ok-answers.answers.items)
    ∙ c.in_ok-answers.ensures.answers (record { view = λ x. x; items = values_left c.into_iter.result }) (shown_to_come values_left c.into_iter.result)
    ∙ ap (λ l. answers l c.args.ends.now) c.into_iter.ensures.into_iter_gives

pub returns-clause-rest : goal.returns-clause-rest
returns-clause-rest g c =
    c.in_ok-answers.ensures.rest (record { view = λ x. x; items = values_left c.into_iter.result }) (shown_to_come values_left c.into_iter.result)
    ∙ ap (λ l. left_over l c.args.ends.now) c.into_iter.ensures.into_iter_gives
