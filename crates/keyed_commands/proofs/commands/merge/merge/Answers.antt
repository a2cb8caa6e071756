use Rattle.std.proofs.Common.{◌⊎◌, ◌∙◌, inl, inr, subst, subst₂, sym}
use Rattle.std.proofs.lemmas.Result.{IfErr-weaker, IfOk-weaker}
use Rattle.keyed_columns.specs.Keys.{AreMergedColumnsBy}
use Rattle.keyed_columns.specs.Spelled.{IsSpelledAs}
use Rattle.keyed_columns.specs.declared.columns.Columns.{Columns}
use Rattle.keyed_files.specs.Opening.{form_of, text_of_stream}
use Rattle.keyed_jobs.specs.NotedStyles.{watched_left}
use Rattle.keyed_commands.specs.MergedTexts.{MergesTexts}
use Rattle.keyed_commands.proofs.TextAnswerLemmas.{merge-streams, three-alike}
use Rattle.keyed_faults.specs.Outside.{IsApart}
use Rattle.keyed_columns.specs.declared.content.Content.TheVariants.{Rows}
use Rattle.keyed_files.proofs.ReadingLemmas.{same-err}
use Rattle.keyed_jobs.proofs.UnreadLemmas.{told-of}
use Rattle.keyed_commands.specs.Unanswered.{ExplainsThree, IsApartOf, files_of_three}
use Rattle.keyed_commands.proofs.UnansweredLemmas.{among-one, both-of, merge-unanswered, opens-anew, opens-kept, opens-same}
use Rattle.keyed_commands.proofs.commands.merge.merge.Goals as goal

pub returns-clause-answer : goal.returns-clause-answer
returns-clause-answer g c =
    let settings = c.args.settings in
    let sides = c.in_ok-sides.sides in
    let P : Columns → Type 0 = λ columns. AreMergedColumnsBy settings.key c.rename.new.self.source.value.header.names
    sides.first.source.value.header.names sides.next.source.value.header.names columns in
    IfOk-weaker c.merge_files.result _ _
    (λ answer read as_written. three-alike (λ f h k t u v. MergesTexts c.args.how.conflicts c.args.how.unit settings f h k t u v answer)
    (text_of_stream g.R.Read.remaining settings.form c.args.base) _ (text_of_stream g.R.Read.remaining settings.form c.args.ours) _
    (text_of_stream g.R.Read.remaining settings.form c.args.theirs) _
    (form_of settings.form c.args.base) _ (form_of settings.form c.args.ours) _ (form_of settings.form c.args.theirs) _
    (c.unwatched-base.ensures.text settings.form) c.in_ok-watched.ensures.text (c.unwatched-theirs.ensures.text settings.form)
    (c.unwatched-base.ensures.form settings.form) c.in_ok-watched.ensures.form (c.unwatched-theirs.ensures.form settings.form)
    (merge-streams (watched_left g.R.Read.remaining) c.args.how.conflicts c.args.how.unit settings c.unwatched-base.result c.in_ok-watched.watched.0 c.unwatched-theirs.result
    c.in_ok-base.base c.rename.new.self c.in_ok-sides.sides c.new-job.result c.in_ok-watched.watched.1 answer c.in_ok-watched.ensures.style
    c.in_ok-base.ensures.opened c.in_ok-sides.ensures.first c.in_ok-sides.ensures.next
    c.in_ok-rename.ensures.named c.new-job.ensures.form c.new-job.ensures.groups c.new-job.ensures.unordered c.new-job.ensures.order
    (subst P (sym c.new-job.ensures.columns) c.in_ok-columns.ensures.columns)
    (subst (IsSpelledAs sides.first.source.value.header.spelling.names sides.first.source.value.header.spelling.spelled) (sym c.new-job.ensures.columns) c.in_ok-columns.ensures.spelled)
    (read as_written))) c.merge_files.ensures.answer

pub returns-in_err-base-clause-why : goal.returns-in_err-base-clause-why
returns-in_err-base-clause-why g c =
    same-err c.from_residual.result c.in_err-base.field-0.0 _ c.from_residual.ensures.1
    (inl (c.in_err-base.ensures.file ∙ c.unwatched-base.ensures.named, c.unwatched-base.ensures.opens _ c.in_err-base.ensures.why))

pub returns-in_err-watched-clause-why : goal.returns-in_err-watched-clause-why
returns-in_err-watched-clause-why g c =
    same-err c.from_residual-in_err-watched.result c.in_err-watched.field-0.0 _ c.from_residual-in_err-watched.ensures.1
    (inr (inl (c.unwatched-base.ensures.ready c.in_ok-base.ensures.ready, inl (c.in_err-watched.ensures.file, c.in_err-watched.ensures.why))))

pub returns-in_err-sides-clause-why : goal.returns-in_err-sides-clause-why
returns-in_err-sides-clause-why g c =
    same-err c.from_residual-in_err-sides.result c.in_err-sides.field-0.0 _ c.from_residual-in_err-sides.ensures.1
    (inr (inl (
      c.unwatched-base.ensures.ready c.in_ok-base.ensures.ready,
      both-of c.args.ours c.args.theirs c.in_ok-watched.watched.0 c.unwatched-theirs.result c.in_err-sides.field-0.0 c.in_ok-watched.ensures.named
          c.unwatched-theirs.ensures.named c.in_ok-watched.ensures.ready c.in_ok-watched.ensures.opens c.unwatched-theirs.ensures.opens c.in_err-sides.ensures.why,
    )))

pub returns-in_err-rename-clause-why : goal.returns-in_err-rename-clause-why
returns-in_err-rename-clause-why g c =
    same-err c.from_residual-in_err-rename.result c.in_err-rename.field-0.0 _ c.from_residual-in_err-rename.ensures.1
    (inr (inr (inl (
      c.in_ok-watched.ensures.ready,
      c.unwatched-theirs.ensures.ready c.in_ok-sides.ensures.next_ready,
      (
        c.in_ok-base.base,
        opens-same g.R.Read.remaining (watched_left g.R.Read.remaining) c.args.settings.form Rows c.args.base c.unwatched-base.result c.in_ok-base.base (c.unwatched-base.ensures.ready c.in_ok-base.ensures.ready)
            (c.unwatched-base.ensures.form c.args.settings.form)
            (c.unwatched-base.ensures.text c.args.settings.form) c.unwatched-base.ensures.named c.in_ok-base.ensures.named c.in_ok-base.ensures.opened,
        c.in_err-rename.ensures.file ∙ (c.in_ok-base.ensures.named ∙ c.unwatched-base.ensures.named),
        c.in_err-rename.ensures.why,
      ),
    ))))

pub returns-in_err-columns-clause-why : goal.returns-in_err-columns-clause-why
returns-in_err-columns-clause-why g c =
    same-err c.from_residual-in_err-columns.result c.in_err-columns.field-0.0 _ c.from_residual-in_err-columns.ensures.1
    (inr (inr (inr (
      c.rename.new.self,
      c.in_ok-sides.sides,
      opens-anew g.R.Read.remaining (watched_left g.R.Read.remaining) c.args.settings c.args.base c.in_ok-base.base c.rename.new.self
          (opens-same g.R.Read.remaining (watched_left g.R.Read.remaining) c.args.settings.form Rows c.args.base c.unwatched-base.result c.in_ok-base.base (c.unwatched-base.ensures.ready c.in_ok-base.ensures.ready)
          (c.unwatched-base.ensures.form c.args.settings.form)
          (c.unwatched-base.ensures.text c.args.settings.form) c.unwatched-base.ensures.named c.in_ok-base.ensures.named c.in_ok-base.ensures.opened)
          c.in_ok-rename.ensures.same c.in_ok-rename.ensures.named,
      opens-kept g.R.Read.remaining (watched_left g.R.Read.remaining) c.args.settings.form Rows c.args.ours c.in_ok-watched.watched.0 c.in_ok-sides.sides.first c.in_ok-watched.ensures.ready c.in_ok-watched.ensures.form
          c.in_ok-watched.ensures.text c.in_ok-watched.ensures.named c.in_ok-sides.ensures.first_named c.in_ok-sides.ensures.first,
      opens-same g.R.Read.remaining (watched_left g.R.Read.remaining) c.args.settings.form Rows c.args.theirs c.unwatched-theirs.result c.in_ok-sides.sides.next (c.unwatched-theirs.ensures.ready c.in_ok-sides.ensures.next_ready)
          (c.unwatched-theirs.ensures.form c.args.settings.form)
          (c.unwatched-theirs.ensures.text c.args.settings.form) c.unwatched-theirs.ensures.named c.in_ok-sides.ensures.next_named c.in_ok-sides.ensures.next,
      inl (c.in_err-columns.ensures.why.0, inl (among-one _ _ c.in_err-columns.ensures.why.1)),
    ))))

pub returns-in_err-at-clause-why : goal.returns-in_err-at-clause-why
returns-in_err-at-clause-why g c =
    same-err c.from_residual-in_err-at.result c.in_err-at.field-0.0 _ c.from_residual-in_err-at.ensures.1
    (inr (inr (inr (
      c.rename.new.self,
      c.in_ok-sides.sides,
      opens-anew g.R.Read.remaining (watched_left g.R.Read.remaining) c.args.settings c.args.base c.in_ok-base.base c.rename.new.self
          (opens-same g.R.Read.remaining (watched_left g.R.Read.remaining) c.args.settings.form Rows c.args.base c.unwatched-base.result c.in_ok-base.base (c.unwatched-base.ensures.ready c.in_ok-base.ensures.ready)
          (c.unwatched-base.ensures.form c.args.settings.form)
          (c.unwatched-base.ensures.text c.args.settings.form) c.unwatched-base.ensures.named c.in_ok-base.ensures.named c.in_ok-base.ensures.opened)
          c.in_ok-rename.ensures.same c.in_ok-rename.ensures.named,
      opens-kept g.R.Read.remaining (watched_left g.R.Read.remaining) c.args.settings.form Rows c.args.ours c.in_ok-watched.watched.0 c.in_ok-sides.sides.first c.in_ok-watched.ensures.ready c.in_ok-watched.ensures.form
          c.in_ok-watched.ensures.text c.in_ok-watched.ensures.named c.in_ok-sides.ensures.first_named c.in_ok-sides.ensures.first,
      opens-same g.R.Read.remaining (watched_left g.R.Read.remaining) c.args.settings.form Rows c.args.theirs c.unwatched-theirs.result c.in_ok-sides.sides.next (c.unwatched-theirs.ensures.ready c.in_ok-sides.ensures.next_ready)
          (c.unwatched-theirs.ensures.form c.args.settings.form)
          (c.unwatched-theirs.ensures.text c.args.settings.form) c.unwatched-theirs.ensures.named c.in_ok-sides.ensures.next_named c.in_ok-sides.ensures.next,
      inl (told-of IsApart c.check_known.result c.in_err-at.field-0.0 c.in_err-at.ensures.why c.check_known.ensures, inl c.in_err-at.ensures.file),
    ))))

pub returns-clause-why : goal.returns-clause-why
returns-clause-why g c =
    IfErr-weaker c.merge_files.result _ _
    (λ fault why. merge-unanswered g.R.Read.remaining (watched_left g.R.Read.remaining) c.args.settings c.args.base c.args.ours c.args.theirs fault c.rename.new.self c.in_ok-sides.sides c.in_ok-columns.columns
    (opens-anew g.R.Read.remaining (watched_left g.R.Read.remaining) c.args.settings c.args.base c.in_ok-base.base c.rename.new.self
    (opens-same g.R.Read.remaining (watched_left g.R.Read.remaining) c.args.settings.form Rows c.args.base c.unwatched-base.result c.in_ok-base.base (c.unwatched-base.ensures.ready c.in_ok-base.ensures.ready)
    (c.unwatched-base.ensures.form c.args.settings.form)
    (c.unwatched-base.ensures.text c.args.settings.form) c.unwatched-base.ensures.named c.in_ok-base.ensures.named c.in_ok-base.ensures.opened)
    c.in_ok-rename.ensures.same c.in_ok-rename.ensures.named)
    (opens-kept g.R.Read.remaining (watched_left g.R.Read.remaining) c.args.settings.form Rows c.args.ours c.in_ok-watched.watched.0 c.in_ok-sides.sides.first c.in_ok-watched.ensures.ready c.in_ok-watched.ensures.form
    c.in_ok-watched.ensures.text c.in_ok-watched.ensures.named c.in_ok-sides.ensures.first_named c.in_ok-sides.ensures.first)
    (opens-same g.R.Read.remaining (watched_left g.R.Read.remaining) c.args.settings.form Rows c.args.theirs c.unwatched-theirs.result c.in_ok-sides.sides.next (c.unwatched-theirs.ensures.ready c.in_ok-sides.ensures.next_ready)
    (c.unwatched-theirs.ensures.form c.args.settings.form)
    (c.unwatched-theirs.ensures.text c.args.settings.form) c.unwatched-theirs.ensures.named c.in_ok-sides.ensures.next_named c.in_ok-sides.ensures.next)
    c.in_ok-columns.ensures.columns
    (subst₂ (λ groups columns. IsApartOf (files_of_three c.rename.new.self c.in_ok-sides.sides) fault ⊎ ExplainsThree (watched_left g.R.Read.remaining) groups columns c.rename.new.self c.in_ok-sides.sides fault)
    c.new-job.ensures.groups c.new-job.ensures.columns why)) c.merge_files.ensures.why
