use Rattle.std.proofs.Common.{◌∙◌, ap, inl, inr, subst, subst₂, sym}
use Rattle.std.proofs.lemmas.Result.{IfErr-weaker, IfOk-weaker}
use Rattle.keyed_columns.specs.Keys.{AreChangedColumnsBy}
use Rattle.keyed_columns.specs.Spelled.{IsSpelledAs}
use Rattle.keyed_columns.specs.declared.columns.Columns.{Columns}
use Rattle.keyed_files.specs.Opening.{form_of, text_of_stream}
use Rattle.keyed_jobs.specs.NotedStyles.{watched_left}
use Rattle.keyed_commands.specs.AppliedTexts.{AppliesTexts}
use Rattle.keyed_commands.proofs.TextAnswerLemmas.{apply-streams, two-alike}
use Rattle.keyed_columns.specs.declared.content.Content.TheVariants.{Changes, Rows}
use Rattle.keyed_files.proofs.ReadingLemmas.{same-err}
use Rattle.keyed_commands.specs.Unanswered.{ExplainsChange}
use Rattle.keyed_commands.proofs.UnansweredLemmas.{both-of, change-unanswered, opens-anew, opens-kept, opens-same}
use Rattle.keyed_commands.proofs.commands.apply.apply.Goals as goal

pub returns-clause-answer : goal.returns-clause-answer
returns-clause-answer g c =
    let settings = c.args.settings in
    let direction = c.args.direction in
    let named = record c.in_ok-inputs.inputs { first = c.rename.new.self; next = c.turn.new.self } in
    let P : Columns → Type 0 = λ columns. AreChangedColumnsBy settings.key named.first.source.value.header.names named.next.source.value.header.names
    named.next.source.value.header.gone columns in
    IfOk-weaker c.apply_files.result _ _
    (λ answer read. two-alike (λ f h t u. AppliesTexts settings direction f h t u answer)
    (text_of_stream g.R.Read.remaining settings.form c.args.old) _ (text_of_stream g.R.Read.remaining settings.form c.args.changes) _
    (form_of settings.form c.args.old) _ (form_of settings.form c.args.changes) _
    c.in_ok-watched.ensures.text (c.unwatched-changes.ensures.text settings.form) c.in_ok-watched.ensures.form (c.unwatched-changes.ensures.form settings.form)
    (apply-streams (watched_left g.R.Read.remaining) settings direction c.in_ok-watched.watched.0 c.unwatched-changes.result c.in_ok-inputs.inputs
    named c.new-2.result c.in_ok-watched.watched.1 answer c.in_ok-watched.ensures.style c.in_ok-inputs.ensures.first c.in_ok-inputs.ensures.next
    c.in_ok-inputs.ensures.gone
    c.in_ok-rename.ensures.named c.turn.ensures.same c.new-2.ensures.form c.new-2.ensures.groups c.new-2.ensures.unordered c.new-2.ensures.order
    (subst P (sym c.new-2.ensures.columns) c.in_ok-columns.ensures.columns)
    (subst (IsSpelledAs named.first.source.value.header.spelling.names named.first.source.value.header.spelling.spelled) (sym c.new-2.ensures.columns) c.in_ok-columns.ensures.spelled)
    read)) c.apply_files.ensures.answer

pub returns-in_err-watched-clause-why : goal.returns-in_err-watched-clause-why
returns-in_err-watched-clause-why g c =
    same-err c.from_residual.result c.in_err-watched.field-0.0 _ c.from_residual.ensures.1
    (inl (inl (c.in_err-watched.ensures.file, c.in_err-watched.ensures.why)))

pub returns-in_err-inputs-clause-why : goal.returns-in_err-inputs-clause-why
returns-in_err-inputs-clause-why g c =
    same-err c.from_residual-in_err-inputs.result c.in_err-inputs.field-0.0 _ c.from_residual-in_err-inputs.ensures.1
    (inl (both-of c.args.old c.args.changes c.in_ok-watched.watched.0 c.unwatched-changes.result c.in_err-inputs.field-0.0 c.in_ok-watched.ensures.named
    c.unwatched-changes.ensures.named c.in_ok-watched.ensures.ready c.in_ok-watched.ensures.opens c.unwatched-changes.ensures.opens c.in_err-inputs.ensures.why))

pub returns-in_err-rename-clause-why : goal.returns-in_err-rename-clause-why
returns-in_err-rename-clause-why g c =
    same-err c.from_residual-in_err-rename.result c.in_err-rename.field-0.0 _ c.from_residual-in_err-rename.ensures.1
    (inr (inl (
      c.unwatched-changes.ensures.ready c.in_ok-inputs.ensures.next_ready,
      (
        c.in_ok-inputs.inputs.first,
        opens-kept g.R.Read.remaining (watched_left g.R.Read.remaining) c.args.settings.form Rows c.args.old c.in_ok-watched.watched.0 c.in_ok-inputs.inputs.first c.in_ok-watched.ensures.ready c.in_ok-watched.ensures.form
            c.in_ok-watched.ensures.text c.in_ok-watched.ensures.named c.in_ok-inputs.ensures.first_named c.in_ok-inputs.ensures.first,
        c.in_err-rename.ensures.file ∙ (c.in_ok-inputs.ensures.first_named ∙ c.in_ok-watched.ensures.named),
        c.in_err-rename.ensures.why,
      ),
    )))

pub returns-in_err-columns-clause-why : goal.returns-in_err-columns-clause-why
returns-in_err-columns-clause-why g c =
    let settings = c.args.settings in
    let inputs = c.in_ok-inputs.inputs in
    same-err c.from_residual-in_err-columns.result c.in_err-columns.field-0.0 _ c.from_residual-in_err-columns.ensures.1
    (inr (inr (
      record inputs { first = c.rename.new.self },
      opens-anew g.R.Read.remaining (watched_left g.R.Read.remaining) settings c.args.old inputs.first c.rename.new.self
          (opens-kept g.R.Read.remaining (watched_left g.R.Read.remaining) c.args.settings.form Rows c.args.old c.in_ok-watched.watched.0 c.in_ok-inputs.inputs.first c.in_ok-watched.ensures.ready c.in_ok-watched.ensures.form
          c.in_ok-watched.ensures.text c.in_ok-watched.ensures.named c.in_ok-inputs.ensures.first_named c.in_ok-inputs.ensures.first)
          c.in_ok-rename.ensures.same c.in_ok-rename.ensures.named,
      opens-same g.R.Read.remaining (watched_left g.R.Read.remaining) settings.form Changes c.args.changes c.unwatched-changes.result inputs.next (c.unwatched-changes.ensures.ready c.in_ok-inputs.ensures.next_ready)
          (c.unwatched-changes.ensures.form settings.form)
          (c.unwatched-changes.ensures.text settings.form) c.unwatched-changes.ensures.named c.in_ok-inputs.ensures.next_named c.in_ok-inputs.ensures.next,
      inl (c.in_err-columns.ensures.why, inl c.in_err-columns.ensures.file),
    )))

pub returns-clause-why : goal.returns-clause-why
returns-clause-why g c =
    let settings = c.args.settings in
    let inputs = c.in_ok-inputs.inputs in
    let named = record inputs { first = c.rename.new.self } in
    IfErr-weaker c.apply_files.result _ _
    (λ fault why. change-unanswered g.R.Read.remaining (watched_left g.R.Read.remaining) settings c.args.direction c.args.old c.args.changes fault named c.turn.new.self c.in_ok-columns.columns
    (opens-anew g.R.Read.remaining (watched_left g.R.Read.remaining) settings c.args.old inputs.first c.rename.new.self
    (opens-kept g.R.Read.remaining (watched_left g.R.Read.remaining) c.args.settings.form Rows c.args.old c.in_ok-watched.watched.0 c.in_ok-inputs.inputs.first c.in_ok-watched.ensures.ready c.in_ok-watched.ensures.form
    c.in_ok-watched.ensures.text c.in_ok-watched.ensures.named c.in_ok-inputs.ensures.first_named c.in_ok-inputs.ensures.first)
    c.in_ok-rename.ensures.same c.in_ok-rename.ensures.named)
    (opens-same g.R.Read.remaining (watched_left g.R.Read.remaining) settings.form Changes c.args.changes c.unwatched-changes.result inputs.next (c.unwatched-changes.ensures.ready c.in_ok-inputs.ensures.next_ready)
    (c.unwatched-changes.ensures.form settings.form)
    (c.unwatched-changes.ensures.text settings.form) c.unwatched-changes.ensures.named c.in_ok-inputs.ensures.next_named c.in_ok-inputs.ensures.next)
    (ap (λ table. table.file) c.turn.ensures.file) c.turn.ensures.same c.in_ok-columns.ensures.columns
    (subst₂ (λ groups columns. ExplainsChange (watched_left g.R.Read.remaining) groups columns (record named { next = c.turn.new.self }) fault) c.new-2.ensures.groups c.new-2.ensures.columns why))
    c.apply_files.ensures.why
