use Rattle.std.proofs.Common.{◌≡◌, ◌∷◌, ◌++◌, [], append-nil, append_assoc, arith, inl, rules, subst, sym}
use Rattle.std.proofs.lemmas.Grind.{common_steps}
use Rattle.keyed_commands.specs.OverlayAnswers.{AreLayers, IsNotedFirst}
use Rattle.keyed_commands.proofs.OverlayLemmas.{layers_none, layers_then, noted_none, noted_then}
use Rattle.keyed_files.proofs.ReadingLemmas.{same-err}
use Rattle.keyed_commands.proofs.UnansweredLemmas.{memory-apart, opening-apart}
use Rattle.keyed_commands.proofs.UnansweredOverlayLemmas.{files-all, files-then, layers-here, layers-later, ready-none, ready-then}
use Rattle.keyed_commands.proofs.commands.overlay.open_all.Goals as goal

pub loop-stream-preserved : goal.loop-stream-preserved
loop-stream-preserved g c =
    let settings = c.args.settings in
    let table = c.in_ok-layer.layer.0 in
    let opened = c.loop-stream.opened.items in
    record {
      layers = λ more h.
          subst (λ l. AreLayers g.R.Read.remaining settings.form settings.key c.args.tables.items (l ++ more)) (sym (rw c.in_ok-at.ensures.value at c.put.ensures))
          (subst (AreLayers g.R.Read.remaining settings.form settings.key c.args.tables.items) (sym (append_assoc opened (table ∷ []) more))
          (c.loop-stream.invariant.layers (table ∷ more) (layers_then g.R.Read.remaining settings.form c.loop-stream.key c.in-Some.stream _ _ table more c.in-Some.ensures.steps.0 c.in_ok-layer.ensures.layer h)));
      noted = noted_then g.R.Read.remaining settings.form c.args.tables.items _ _ c.in-Some.stream c.loop-stream.first_style c.in_ok-layer.layer.1 c.in-Some.ensures.steps.0
          c.loop-stream.invariant.noted c.in_ok-layer.ensures.style;
      files = files-then c.args.tables.items _ _ opened _ c.in-Some.stream table c.in-Some.ensures.steps.0 (rw c.in_ok-at.ensures.value at c.put.ensures) c.in_ok-layer.ensures.named
          c.loop-stream.invariant.files;
      ready = λ others. c.loop-stream.invariant.ready (ready-then _ _ c.in-Some.stream c.in-Some.ensures.steps.0 c.in_ok-layer.ensures.ready others);
      why = λ fault later. c.loop-stream.invariant.why fault (layers-later g.R.Read.remaining settings.form c.loop-stream.key _ _ c.in-Some.stream fault c.in-Some.ensures.steps.0 c.in_ok-layer.ensures.ready later);
    }

pub returns-clause-layers : goal.returns-clause-layers
returns-clause-layers g c =
    let none : c.loop-stream.stream-iterator.rest.items ≡ [] = first_of (search rules, grind (arith, common_steps)) in
    subst (AreLayers g.R.Read.remaining c.args.settings.form c.args.settings.key c.args.tables.items) (append-nil c.loop-stream.opened.items)
    (c.loop-stream.invariant.layers [] (layers_none g.R.Read.remaining c.args.settings.form c.loop-stream.key _ none))

pub returns-clause-style : goal.returns-clause-style
returns-clause-style g c =
    let none : c.loop-stream.stream-iterator.rest.items ≡ [] = first_of (search rules, grind (arith, common_steps)) in
    subst (IsNotedFirst g.R.Read.remaining c.args.settings.form c.args.tables.items) (sym c.unwrap_or-style.ensures)
    (noted_none g.R.Read.remaining c.args.settings.form c.args.tables.items _ c.loop-stream.first_style none c.loop-stream.invariant.noted)

pub returns-clause-named : goal.returns-clause-named
returns-clause-named g c =
    let none : c.loop-stream.stream-iterator.rest.items ≡ [] = first_of (search rules, grind (arith, common_steps)) in
    files-all c.args.tables.items _ c.loop-stream.opened.items none c.loop-stream.invariant.files

pub returns-clause-ready : goal.returns-clause-ready
returns-clause-ready g c =
    let none : c.loop-stream.stream-iterator.rest.items ≡ [] = first_of (search rules, grind (arith, common_steps)) in
    c.loop-stream.invariant.ready (ready-none _ none)

pub returns-in_err-layer-clause-why : goal.returns-in_err-layer-clause-why
returns-in_err-layer-clause-why g c =
    same-err c.from_residual.result c.in_err-layer.field-0.0 _ c.from_residual.ensures.1
    (c.loop-stream.invariant.why _ (layers-here g.R.Read.remaining c.args.settings.form c.loop-stream.key _ _ c.in-Some.stream _ c.in-Some.ensures.steps.0 c.in_err-layer.ensures.why))

pub returns-in_err-at-clause-why : goal.returns-in_err-at-clause-why
returns-in_err-at-clause-why g c =
    same-err c.from_residual-in_err-at.result c.in_err-at.field-0.0 _ c.from_residual-in_err-at.ensures.1
    (c.loop-stream.invariant.why _ (layers-here g.R.Read.remaining c.args.settings.form c.loop-stream.key _ _ c.in-Some.stream _ c.in-Some.ensures.steps.0
    (c.in_err-at.ensures.file, inl (opening-apart c.in-Some.stream.reader _ c.in_ok-layer.ensures.ready (memory-apart _ c.in_err-at.ensures.why.2)))))
