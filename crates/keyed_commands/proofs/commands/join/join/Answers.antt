use Rattle.std.proofs.Common.{◌≡◌, ◌∙◌, [], ◌⊎◌, false, inl, inr, subst, subst₂, sym}
use Rattle.std.proofs.lemmas.Result.{IfErr-weaker, IfOk-weaker}
use Rattle.keyed_columns.specs.Keys.{AreJoinColumns}
use Rattle.keyed_columns.specs.Names.{repeats}
use Rattle.keyed_columns.specs.declared.columns.JoinColumns.{JoinColumns}
use Rattle.keyed_commands.specs.JoinAnswers.{JoinsSources, header_of_join}
use Rattle.keyed_commands.proofs.JoinLemmas.{join-streams}
use Rattle.keyed_faults.specs.Outside.{IsApart}
use Rattle.keyed_files.proofs.ReadingLemmas.{same-err}
use Rattle.keyed_jobs.specs.Unread.{ExplainsTables}
use Rattle.keyed_jobs.proofs.UnreadLemmas.{told-of}
use Rattle.keyed_commands.specs.Unanswered.{IsApartOf, files_of}
use Rattle.keyed_commands.proofs.UnansweredLemmas.{join-unanswered, names-apart}
use Rattle.keyed_commands.proofs.commands.join.join.Goals as goal

pub returns-clause-answer : goal.returns-clause-answer
returns-clause-answer g c =
    let kind : c.in_ok-form.form.kind ≡ c.args.how.kind = rw c.in_ok-form.ensures.value at c.new-made.ensures.kind in
    let format : c.in_ok-form.form.format ≡ c.args.how.format = rw c.in_ok-form.ensures.value at c.new-made.ensures.format in
    let header : c.in_ok-form.form.header ≡ header_of_join c.args.settings.form c.args.how c.in_ok-columns.columns = rw c.in_ok-form.ensures.value at c.new-made.ensures.header in
    let once : repeats [] c.in_ok-form.form.header ≡ false = rw c.in_ok-form.ensures.value at c.new-made.ensures.once in
    let P : JoinColumns → Type 0 = λ columns. AreJoinColumns c.args.settings.key c.in_ok-sides.sides.first.source.value.header.names
    c.in_ok-sides.sides.next.source.value.header.names columns in
    IfOk-weaker c.join_files.result _ _
    (λ answer read csv. join-streams g.R.Read.remaining c.args.settings c.args.how c.args.left c.args.right c.in_ok-sides.sides c.new-job.result c.in_ok-form.form.header answer
    c.in_ok-sides.ensures.first c.in_ok-sides.ensures.next c.new-job.ensures.form c.new-job.ensures.groups c.new-job.ensures.unordered c.new-job.ensures.order
    (subst P (sym c.new-job.ensures.columns) c.in_ok-columns.ensures.columns)
    csv (subst (λ columns. c.in_ok-form.form.header ≡ header_of_join c.args.settings.form c.args.how columns) (sym c.new-job.ensures.columns) header) once
    (subst (λ k. JoinsSources g.R.Read.remaining c.new-job.result k c.in_ok-form.form.header c.in_ok-sides.sides answer) kind (read (format ∙ csv)))) c.join_files.ensures.answer

pub returns-in_err-sides-clause-why : goal.returns-in_err-sides-clause-why
returns-in_err-sides-clause-why g c =
    same-err c.from_residual.result c.in_err-sides.field-0.0 _ c.from_residual.ensures.1
    (inl c.in_err-sides.ensures.why)

pub returns-in_err-columns-clause-why : goal.returns-in_err-columns-clause-why
returns-in_err-columns-clause-why g c =
    same-err c.from_residual-in_err-columns.result c.in_err-columns.field-0.0 _ c.from_residual-in_err-columns.ensures.1
    (inr (
      c.in_ok-sides.sides,
      record { ready = c.in_ok-sides.ensures.first_ready; named = c.in_ok-sides.ensures.first_named; reads = c.in_ok-sides.ensures.first },
      record { ready = c.in_ok-sides.ensures.next_ready; named = c.in_ok-sides.ensures.next_named; reads = c.in_ok-sides.ensures.next },
      inl (c.in_err-columns.ensures.why, inl c.in_err-columns.ensures.file),
    ))

pub returns-in_err-form-clause-why : goal.returns-in_err-form-clause-why
returns-in_err-form-clause-why g c =
    same-err c.from_residual-in_err-form.result c.in_err-form.field-0.0 _ c.from_residual-in_err-form.ensures.1
    (inr (
      c.in_ok-sides.sides,
      record { ready = c.in_ok-sides.ensures.first_ready; named = c.in_ok-sides.ensures.first_named; reads = c.in_ok-sides.ensures.first },
      record { ready = c.in_ok-sides.ensures.next_ready; named = c.in_ok-sides.ensures.next_named; reads = c.in_ok-sides.ensures.next },
      inl (
        told-of IsApart c.new-made.result c.in_err-form.field-0.0 c.in_err-form.ensures.why (IfErr-weaker c.new-made.result _ _ (names-apart _ _) c.new-made.ensures.twice),
        inr (inl c.in_err-form.ensures.file),
      ),
    ))

pub returns-clause-why : goal.returns-clause-why
returns-clause-why g c =
    IfErr-weaker c.join_files.result _ _
    (λ fault why. join-unanswered g.R.Read.remaining c.args.settings c.args.left c.args.right fault c.in_ok-sides.sides c.in_ok-columns.columns
    (record { ready = c.in_ok-sides.ensures.first_ready; named = c.in_ok-sides.ensures.first_named; reads = c.in_ok-sides.ensures.first })
    (record { ready = c.in_ok-sides.ensures.next_ready; named = c.in_ok-sides.ensures.next_named; reads = c.in_ok-sides.ensures.next }) c.in_ok-columns.ensures.columns
    (subst₂ (λ groups columns. IsApartOf (files_of c.in_ok-sides.sides) fault ⊎ ExplainsTables g.R.Read.remaining groups columns.left columns.right c.in_ok-sides.sides fault) c.new-job.ensures.groups c.new-job.ensures.columns why))
    c.join_files.ensures.why
