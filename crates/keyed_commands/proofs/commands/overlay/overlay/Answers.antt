use Rattle.std.proofs.Common.{◌≡◌, ◌⊎◌, inl, inr, map, subst, subst₂, sym}
use Rattle.std.proofs.lemmas.Result.{IfErr-weaker, IfOk-weaker}
use Rattle.keyed_columns.specs.Keys.{AreColumnsBy}
use Rattle.keyed_columns.specs.declared.columns.Columns.{Columns}
use Rattle.keyed_commands.specs.OverlayAnswers.{IsSpelledAsFirst}
use Rattle.keyed_commands.proofs.OverlayLemmas.{columns_alike, overlay_streams}
use Rattle.keyed_faults.specs.Outside.{IsApart}
use Rattle.keyed_files.proofs.ReadingLemmas.{same-err}
use Rattle.keyed_jobs.proofs.UnreadLemmas.{told-of}
use Rattle.keyed_commands.specs.UnansweredOverlay.{ExplainsLaid, IsFirstFile}
use Rattle.keyed_commands.proofs.UnansweredOverlayLemmas.{overlay-unanswered}
use Rattle.keyed_commands.proofs.commands.overlay.overlay.Goals as goal

pub returns-clause-answer : goal.returns-clause-answer
returns-clause-answer g c =
    let settings = c.args.settings in
    let opened = c.in_ok-layers.layers.0.items in
    let P : Columns → Type 0 = λ columns. AreColumnsBy settings.key (map (λ source. source.source.value.header.names) opened)
    (map (λ source. source.source.value.header.names) opened) columns in
    IfOk-weaker c.overlay_files.result _ _
    (λ answer read. overlay_streams g.R.Read.remaining settings c.args.layer c.args.tables.items opened c.in_ok-layers.layers.1 c.new.result answer
    c.in_ok-layers.ensures.style c.in_ok-layers.ensures.layers c.new.ensures.form c.new.ensures.groups c.new.ensures.unordered c.new.ensures.order
    (subst P (sym c.new.ensures.columns) (columns_alike settings.key opened _ c.in_ok-columns.columns c.deref-2.ensures.value (rw c.in_ok-columns.ensures.value at c.columns_of_all.ensures.columns)))
    (subst (IsSpelledAsFirst opened) (sym c.new.ensures.columns) (subst (λ all. IsSpelledAsFirst all c.in_ok-columns.columns) c.deref-2.ensures.value (rw c.in_ok-columns.ensures.value at c.columns_of_all.ensures.spelled))) read) c.overlay_files.ensures.answer

pub returns-in_err-layers-clause-why : goal.returns-in_err-layers-clause-why
returns-in_err-layers-clause-why g c =
    same-err c.from_residual.result c.in_err-layers.field-0.0 _ c.from_residual.ensures.1
    (inl c.in_err-layers.ensures.why)

pub returns-in_err-columns-clause-why : goal.returns-in_err-columns-clause-why
returns-in_err-columns-clause-why g c =
    let opened = c.in_ok-layers.layers.0.items in
    let first = subst (λ tables. IsFirstFile tables c.first_file-file.result) c.deref.ensures.value c.first_file-file.ensures in
    same-err c.from_residual-in_err-columns.result c.in_err-columns.field-0.0 _ c.from_residual-in_err-columns.ensures.1
    (inr (
      opened,
      c.in_ok-layers.ensures.ready,
      c.in_ok-layers.ensures.layers,
      c.in_ok-layers.ensures.named,
      inl (
        told-of IsApart c.columns_of_all.result c.in_err-columns.field-0.0 c.in_err-columns.ensures.why c.columns_of_all.ensures.why,
        subst (IsFirstFile opened) (sym c.in_err-columns.ensures.file) first,
      ),
    ))

pub returns-clause-why : goal.returns-clause-why
returns-clause-why g c =
    let settings = c.args.settings in
    let opened = c.in_ok-layers.layers.0.items in
    IfErr-weaker c.overlay_files.result _ _
    (λ fault why. overlay-unanswered g.R.Read.remaining settings c.args.tables.items fault opened c.in_ok-columns.columns c.first_file-file.result
    c.in_ok-layers.ensures.ready c.in_ok-layers.ensures.layers c.in_ok-layers.ensures.named
    (columns_alike settings.key opened _ c.in_ok-columns.columns c.deref-2.ensures.value (rw c.in_ok-columns.ensures.value at c.columns_of_all.ensures.columns))
    (subst (λ tables. IsFirstFile tables c.first_file-file.result) c.deref.ensures.value c.first_file-file.ensures)
    (subst₂ (λ groups columns. (IsApart fault.reason × (fault.file ≡ c.first_file-file.result)) ⊎ ExplainsLaid g.R.Read.remaining groups columns opened fault) c.new.ensures.groups c.new.ensures.columns why)) c.overlay_files.ensures.why
