use Rattle.std.proofs.Common.{[], ◌∷◌, ◌∙◌, inl, inr, refl, subst, subst₂, sym}
use Rattle.std.proofs.lemmas.Result.{IfErr-weaker, IfOk-weaker}
use Rattle.keyed_columns.specs.declared.columns.Columns.{Columns}
use Rattle.keyed_commands.specs.DiffOnly.{AreChangeColumnsBy}
use Rattle.keyed_commands.specs.Reported.{AreComparedColumns}
use Rattle.keyed_commands.proofs.DiffOnlyLemmas.{picked-streams}
use Rattle.keyed_commands.proofs.ReportLemmas.{report-streams}
use Rattle.keyed_files.proofs.ReadingLemmas.{same-err}
use Rattle.keyed_commands.specs.Unanswered.{ExplainsVersions}
use Rattle.keyed_commands.proofs.UnansweredLemmas.{diff-unanswered, opens-anew}
use Rattle.keyed_commands.proofs.commands.diff.diff.Goals as goal

pub returns-clause-csv : goal.returns-clause-csv
returns-clause-csv g c =
    let named = record c.in_ok-versions.versions { first = c.rename.new.self } in
    let P : Columns → Type 0 = λ columns. AreChangeColumnsBy c.args.how.view.columns c.args.settings.key named.first.source.value.header.names named.next.source.value.header.names columns in
    IfOk-weaker c.diff_files.result _ _
    (λ answer read csv. picked-streams g.R.Read.remaining c.args.settings c.args.old c.args.new c.in_ok-versions.versions
    (record c.in_ok-versions.versions { first = c.rename.new.self }) c.new-2.result answer c.args.how.view.columns c.in_ok-versions.ensures.first c.in_ok-versions.ensures.next
    c.in_ok-rename.ensures.named refl c.new-2.ensures.form c.new-2.ensures.groups c.new-2.ensures.unordered c.new-2.ensures.order
    (subst P (sym c.new-2.ensures.columns) (c.in_ok-columns.ensures.csv csv)) (read csv)) c.diff_files.ensures.csv

pub returns-clause-report : goal.returns-clause-report
returns-clause-report g c =
    let named = record c.in_ok-versions.versions { first = c.rename.new.self } in
    let P : Columns → Type 0 = λ columns. AreComparedColumns c.args.how.view.columns c.args.settings.key (named.first.source.value.header.names ∷ named.next.source.value.header.names ∷ []) columns in
    IfOk-weaker c.diff_files.result _ _
    (λ answer read report whole. report-streams g.R.Read.remaining c.args.settings c.args.how c.args.old c.args.new c.in_ok-versions.versions
    (record c.in_ok-versions.versions { first = c.rename.new.self }) c.new-2.result answer c.in_ok-versions.ensures.first c.in_ok-versions.ensures.next
    c.in_ok-rename.ensures.named refl c.new-2.ensures.groups c.new-2.ensures.unordered c.new-2.ensures.order
    (subst P (sym c.new-2.ensures.columns) (c.in_ok-columns.ensures.report report)) (read report whole)) c.diff_files.ensures.report

pub returns-in_err-versions-clause-why : goal.returns-in_err-versions-clause-why
returns-in_err-versions-clause-why g c =
    same-err c.from_residual.result c.in_err-versions.field-0.0 _ c.from_residual.ensures.1
    (inl c.in_err-versions.ensures.why)

pub returns-in_err-rename-clause-why : goal.returns-in_err-rename-clause-why
returns-in_err-rename-clause-why g c =
    same-err c.from_residual-in_err-rename.result c.in_err-rename.field-0.0 _ c.from_residual-in_err-rename.ensures.1
    (inr (inl (
      c.in_ok-versions.ensures.next_ready,
      (
        c.in_ok-versions.versions.first,
        record { ready = c.in_ok-versions.ensures.first_ready; named = c.in_ok-versions.ensures.first_named; reads = c.in_ok-versions.ensures.first },
        c.in_err-rename.ensures.file ∙ c.in_ok-versions.ensures.first_named,
        c.in_err-rename.ensures.why,
      ),
    )))

pub returns-in_err-columns-clause-why : goal.returns-in_err-columns-clause-why
returns-in_err-columns-clause-why g c =
    let versions = c.in_ok-versions.versions in
    same-err c.from_residual-in_err-columns.result c.in_err-columns.field-0.0 _ c.from_residual-in_err-columns.ensures.1
    (inr (inr (
      record versions { first = c.rename.new.self },
      opens-anew g.R.Read.remaining g.R.Read.remaining c.args.settings c.args.old versions.first c.rename.new.self
          (record { ready = c.in_ok-versions.ensures.first_ready; named = c.in_ok-versions.ensures.first_named; reads = c.in_ok-versions.ensures.first })
          c.in_ok-rename.ensures.same c.in_ok-rename.ensures.named,
      record { ready = c.in_ok-versions.ensures.next_ready; named = c.in_ok-versions.ensures.next_named; reads = c.in_ok-versions.ensures.next },
      inl c.in_err-columns.ensures.why,
    )))

pub returns-clause-why : goal.returns-clause-why
returns-clause-why g c =
    let versions = c.in_ok-versions.versions in
    let named = record versions { first = c.rename.new.self } in
    IfErr-weaker c.diff_files.result _ _
    (λ fault why. diff-unanswered g.R.Read.remaining c.args.settings c.args.how c.args.old c.args.new fault named c.in_ok-columns.columns
    (opens-anew g.R.Read.remaining g.R.Read.remaining c.args.settings c.args.old versions.first c.rename.new.self
    (record { ready = c.in_ok-versions.ensures.first_ready; named = c.in_ok-versions.ensures.first_named; reads = c.in_ok-versions.ensures.first })
    c.in_ok-rename.ensures.same c.in_ok-rename.ensures.named)
    (record { ready = c.in_ok-versions.ensures.next_ready; named = c.in_ok-versions.ensures.next_named; reads = c.in_ok-versions.ensures.next })
    (record { csv = c.in_ok-columns.ensures.csv; report = c.in_ok-columns.ensures.report })
    (subst₂ (λ groups columns. ExplainsVersions g.R.Read.remaining groups columns named fault) c.new-2.ensures.groups c.new-2.ensures.columns why)) c.diff_files.ensures.why
