use Rattle.keyed_files.specs.Opening.{form_of, text_of_stream}
use Rattle.keyed_jobs.proofs.ReadLemmas.{are-names}
use Rattle.keyed_commands.proofs.OverlayLemmas.{layer_open, layer_style}
use Rattle.std.proofs.Common.{◌∙◌, ap, inl, inr}
use Rattle.keyed_columns.specs.declared.content.Content.TheVariants.{Rows}
use Rattle.keyed_files.proofs.ReadingLemmas.{same-err}
use Rattle.keyed_jobs.specs.NotedStyles.{watched_left}
use Rattle.keyed_commands.proofs.UnansweredLemmas.{opens-kept}
use Rattle.keyed_commands.proofs.commands.overlay.open_layer.Goals as goal

pub returns-clause-layer : goal.returns-clause-layer
returns-clause-layer g c =
    let old = c.in_ok-table.table.source.value in
    let new = c.rename_key.new.self.source.value in
    let renamed = c.in_ok-rename_key.ensures.renamed in (
      old.header.names,
      are-names c.args.key old new renamed,
      layer_open g.R.Read.remaining c.args.key (form_of c.args.form c.args.stream) _ old.header.names old new (text_of_stream g.R.Read.remaining c.args.form c.args.stream) _
          c.in_ok-watched.ensures.form c.in_ok-watched.ensures.text renamed c.in_ok-table.ensures.opened,
    )

pub returns-clause-style : goal.returns-clause-style
returns-clause-style g c =
    layer_style g.R.Read.remaining c.args.first_style c.in_ok-watched.watched.1 (form_of c.args.form c.args.stream) _ (text_of_stream g.R.Read.remaining c.args.form c.args.stream) _
    c.in_ok-watched.ensures.form c.in_ok-watched.ensures.text c.in_ok-watched.ensures.style

pub returns-clause-named : goal.returns-clause-named
returns-clause-named g c = ap (λ table. table.file) c.in_ok-rename_key.ensures.same ∙ (c.in_ok-table.ensures.named ∙ c.in_ok-watched.ensures.named)

pub returns-clause-ready : goal.returns-clause-ready
returns-clause-ready g c = c.in_ok-watched.ensures.ready c.in_ok-table.ensures.ready

pub returns-in_err-watched-clause-why : goal.returns-in_err-watched-clause-why
returns-in_err-watched-clause-why g c =
    same-err c.from_residual.result c.in_err-watched.field-0.0 _ c.from_residual.ensures.1
    ((c.in_err-watched.ensures.file, inl c.in_err-watched.ensures.why))

pub returns-in_err-table-clause-why : goal.returns-in_err-table-clause-why
returns-in_err-table-clause-why g c =
    same-err c.from_residual-in_err-table.result c.in_err-table.field-0.0 _ c.from_residual-in_err-table.ensures.1
    ((c.in_err-table.ensures.file ∙ c.in_ok-watched.ensures.named, inl (c.in_ok-watched.ensures.opens _ c.in_err-table.ensures.why)))

pub returns-in_err-rename_key-clause-why : goal.returns-in_err-rename_key-clause-why
returns-in_err-rename_key-clause-why g c =
    same-err c.from_residual-in_err-rename_key.result c.in_err-rename_key.field-0.0 _ c.from_residual-in_err-rename_key.ensures.1
    ((
      c.in_err-rename_key.ensures.file ∙ (c.in_ok-table.ensures.named ∙ c.in_ok-watched.ensures.named),
      inr (
        c.in_ok-table.table,
        opens-kept g.R.Read.remaining (watched_left g.R.Read.remaining) c.args.form Rows c.args.stream c.in_ok-watched.watched.0 c.in_ok-table.table (c.in_ok-watched.ensures.ready c.in_ok-table.ensures.ready)
            c.in_ok-watched.ensures.form
            c.in_ok-watched.ensures.text c.in_ok-watched.ensures.named c.in_ok-table.ensures.named c.in_ok-table.ensures.opened,
        c.in_err-rename_key.ensures.why,
      ),
    ))
