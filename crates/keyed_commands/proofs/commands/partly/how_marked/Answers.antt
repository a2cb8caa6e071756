use Rattle.std.proofs.Common.{subst}
use Rattle.keyed_files.specs.Gone.{IsTurned}
use Rattle.keyed_jobs.proofs.RejectedLemmas.{turned-on}
use Rattle.std.proofs.Common.{◌∙◌, ap, inl}
use Rattle.keyed_files.proofs.ReadingLemmas.{same-err}
use Rattle.keyed_commands.proofs.UnansweredLemmas.{among-one}
use Rattle.keyed_commands.proofs.commands.partly.how_marked.Goals as goal

pub returns-clause-same : goal.returns-clause-same
returns-clause-same g c =
    let back = c.turn.new.self.source.value in
    turned-on c.args.direction _ back _ c.turn.ensures.same
    (subst (λ direction. IsTurned direction back c.turn-2.new.self.source.value) c.other_way.ensures c.turn-2.ensures.same)

pub returns-in_err-going-clause-why : goal.returns-in_err-going-clause-why
returns-in_err-going-clause-why g c = same-err c.from_residual.result c.in_err-going.field-0.0 _ c.from_residual.ensures.1 c.in_err-going.ensures.why

pub returns-in_err-coming-clause-why : goal.returns-in_err-coming-clause-why
returns-in_err-coming-clause-why g c =
    same-err c.from_residual-in_err-coming.result c.in_err-coming.field-0.0 _ c.from_residual-in_err-coming.ensures.1
    (c.in_err-coming.ensures.why.0, inl (among-one _ _ c.in_err-coming.ensures.why.1 ∙ ap (λ changes. changes.file) c.turn.ensures.file))
