use Rattle.std.proofs.Common.{◌∙◌}
use Rattle.keyed_files.proofs.SpelledLemmas.{cells-next, cells-none}
use Rattle.keyed_files.proofs.spelled_table.put_more.Goals as goal

pub loop-cell-preserved : goal.loop-cell-preserved
loop-cell-preserved c =
    cells-next c.args.marks.delimiter c.args.marks.comment c.loop-cell.quotes.now _ _ _ _ _ c.loop-cell.body.items _
    c.in-Some.ensures.steps c.is_first_quoted.ensures c.after_first-quotes.ensures c.in_ok-put_next.ensures
    ∙ c.loop-cell.invariant

pub returns : goal.returns
returns c =
    cells-none c.args.marks.delimiter c.args.marks.comment c.loop-cell.quotes.now _ c.loop-cell.body.items c.in-None.ensures.steps.0
    ∙ c.loop-cell.invariant
