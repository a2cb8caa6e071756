use Rattle.std.proofs.Common.{◌∙◌}
use Rattle.keyed_files.proofs.ReadingLemmas.{begun-left, kept-text}
use Rattle.keyed_files.proofs.source.begin_lines.Goals as goal

pub returns-clause-keeps : goal.returns-clause-keeps
returns-clause-keeps g c =
    let reading = c.args.form.reading in
    kept-text reading.comment reading.skipped (g.R.Read.remaining c.args.reader) _ _
    (begun-left g.R.Read.remaining c.args.reader reading _ c.in_ok-lines.ensures)
    (λ none. c.in_ok-encoding.ensures (c.in_ok-lines.ensures.skipped ∙ none))
