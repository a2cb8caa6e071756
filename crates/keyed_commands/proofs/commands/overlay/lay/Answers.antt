use Rattle.std.proofs.Common.{◌∷◌, ◌∙◌, [], ap, inl, inr}
use Rattle.keyed_files.proofs.ReadingLemmas.{same-err}
use Rattle.keyed_commands.proofs.UnansweredLemmas.{memory-apart}
use Rattle.keyed_commands.proofs.UnansweredOverlayLemmas.{one-unspelled}
use Rattle.keyed_commands.proofs.commands.overlay.lay.Goals as goal

pub returns-clause-laid : goal.returns-clause-laid
returns-clause-laid g c =
    (c.in_ok-above.above.pairs.items ∷ [], (c.in_ok-above.ensures.table, tt), rw c.in_ok-laid.ensures.value at c.lay_over.ensures)

pub returns-in_err-above-clause-why : goal.returns-in_err-above-clause-why
returns-in_err-above-clause-why g c =
    same-err c.from_residual.result c.in_err-above.field-0.0 _ c.from_residual.ensures.1
    (c.in_err-above.ensures.file, inr c.in_err-above.ensures.why)

pub returns-in_err-spelling-clause-why : goal.returns-in_err-spelling-clause-why
returns-in_err-spelling-clause-why g c =
    same-err c.from_residual-in_err-spelling.result c.in_err-spelling.field-0.0 _ c.from_residual-in_err-spelling.ensures.1
    (one-unspelled g.R.Read.remaining c.args.job.now.groups c.args.job.now.columns.now _ c.args.table c.read_table.new.table _ c.in_ok-above.ensures.named c.in_ok-above.ensures.header
    (ap (λ job. job.columns.now) c.in_ok-above.ensures.same) c.in_err-spelling.ensures.file c.in_err-spelling.ensures.why)

pub returns-in_err-laid-clause-why : goal.returns-in_err-laid-clause-why
returns-in_err-laid-clause-why g c =
    same-err c.from_residual-in_err-laid.result c.in_err-laid.field-0.0 _ c.from_residual-in_err-laid.ensures.1
    (c.in_err-laid.ensures.file ∙ c.in_ok-above.ensures.named, inl (memory-apart _ c.in_err-laid.ensures.why.2))
