use Rattle.std.proofs.Common.{◌∙◌, [], ◌∷◌, ◌++◌, subst}
use Rattle.std.specs.List.{flat_map}
use Rattle.keyed_cut.specs.Listing.{amounts_in, part_number, part_row}
use Rattle.keyed_cut.specs.Partitioned.{fitted}
use Rattle.keyed_files.specs.Writing.{PutsCells}
use Rattle.keyed_files.proofs.WritingLemmas.{then-cells, then-end}
use Rattle.keyed_cut.proofs.listing.put_part.Goals as goal

pub returns : goal.returns
returns c =
    let number = part_number c.args.part ∷ [] in
    let amounts = flat_map (amounts_in c.args.part) c.args.counts.now in
    let first = subst (λ cell. PutsCells c.args.rows.now c.put_cell.new.self (cell ∷ [])) (c.as_bytes.ensures.value ∙ c.in_ok-number.ensures) c.in_ok-put_cell.ensures in
    then-end _ _ _ (part_row c.args.cells c.args.counts.now c.args.part c.args.bound.now)
    (then-cells _ _ _ (number ++ amounts) (fitted c.args.cells c.args.bound.now) (then-cells _ _ _ number amounts first c.in_ok-put_amounts.ensures) c.in_ok-put_key.ensures)
    c.in_ok-end_row.ensures
