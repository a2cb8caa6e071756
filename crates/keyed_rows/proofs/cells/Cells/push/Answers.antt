use Rattle.std.proofs.Common.{◌∙◌, ◌++◌, ◌∷◌, [], ap}
use Rattle.keyed_rows.proofs.Facts.{one_more}
use Rattle.keyed_rows.proofs.cells.Cells.push.Goals as goal

pub invariant_of-self-2 : goal.invariant_of-self-2
invariant_of-self-2 c =
    (one_more c.self.inside.block.items c.append.new.block.items c.args.cell.now c.self.invariant c.in_ok-append.ensures.put c.count_fits.ensures).is_block

pub returns-clause-pushed : goal.returns-clause-pushed
returns-clause-pushed c =
    let more = one_more c.self.inside.block.items c.append.new.block.items c.args.cell.now c.self.invariant c.in_ok-append.ensures.put c.count_fits.ensures in
    more.cells ∙ ap (λ t. t ++ c.args.cell.now ∷ []) c.self.view_is
