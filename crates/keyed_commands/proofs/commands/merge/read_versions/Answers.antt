use Rattle.std.proofs.Common.{◌∙◌, ap, inl, inr, subst, subst₂}
use Rattle.keyed_jobs.specs.TablesRead.{ReadsTable}
use Rattle.keyed_files.proofs.ReadingLemmas.{same-err}
use Rattle.keyed_jobs.specs.Unread.{ExplainsTable}
use Rattle.keyed_commands.proofs.commands.merge.read_versions.Goals as goal

pub returns-clause-base : goal.returns-clause-base
returns-clause-base g c =
    let table = c.in_ok-base.base.pairs.items in
    let source = c.args.base.now.source.value in
    let same = c.in_ok-ours.ensures.same in
    subst (λ groups. ReadsTable g.R.Read.remaining groups c.args.job.now.columns.now source table) (c.unordered.ensures.groups ∙ ap (λ job. job.groups) same)
    (subst (λ columns. ReadsTable g.R.Read.remaining c.unordered.result.groups columns source table) (ap (λ job. job.columns.now) same) c.in_ok-base.ensures.table)

pub returns-in_err-ours-clause-why : goal.returns-in_err-ours-clause-why
returns-in_err-ours-clause-why g c =
    same-err c.from_residual.result c.in_err-ours.field-0.0 _ c.from_residual.ensures.1
    (inr c.in_err-ours.ensures.why)

pub returns-in_err-base-clause-why : goal.returns-in_err-base-clause-why
returns-in_err-base-clause-why g c =
    let source = c.args.base.now.source.value in
    let told = c.in_err-base.field-0.0 in
    let same = c.in_ok-ours.ensures.same in
    same-err c.from_residual-in_err-base.result told _ c.from_residual-in_err-base.ensures.1
    (inl (
      c.in_err-base.ensures.file,
      subst₂ (λ groups columns. ExplainsTable g.R.Read.remaining groups columns source told.reason) (c.unordered.ensures.groups ∙ ap (λ job. job.groups) same)
          (ap (λ job. job.columns.now) same) c.in_err-base.ensures.why,
    ))
