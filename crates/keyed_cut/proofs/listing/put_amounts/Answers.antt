use Rattle.std.proofs.Common.{◌≡◌, ◌∙◌, ◌+◌, ◌∷◌, ap, drop, subst, sym}
use Rattle.std.specs.Prelude.{option_map, slice_get}
use Rattle.std.proofs.lemmas.List.{drop_all, drop_more}
use Rattle.keyed_cut.specs.Listing.{amounts_in, amounts_of}
use Rattle.keyed_files.specs.Writing.{PutsCells}
use Rattle.keyed_cut.proofs.ListingTextLemmas.{each-end, each-then}
use Rattle.keyed_cut.proofs.listing.put_amounts.Goals as goal

pub loop-table-preserved : goal.loop-table-preserved
loop-table-preserved c end h =
    let tables = c.args.counts.now in
    let i = c.loop-table.table-index in
    let table = c.table-item.result in
    let at : drop i tables ≡ table ∷ drop (i + 1) tables = drop_more tables i table c.loop-table-test.true ∙ ap (λ first. first ∷ drop (i + 1) tables) (sym c.table-item.is) in
    let step : PutsCells c.loop-table.rows c.put_count.new.rows (amounts_in c.args.part table) =
    subst (λ count. PutsCells c.loop-table.rows c.put_count.new.rows (amounts_of count)) c.count_in.ensures c.in_ok-put_count.ensures in
    c.loop-table.invariant end (each-then (amounts_in c.args.part) tables i _ _ end table at step h)

pub returns : goal.returns
returns c =
    c.loop-table.invariant _ (each-end (amounts_in c.args.part) c.args.counts.now c.loop-table.table-index _ (drop_all c.loop-table.table-index c.args.counts.now c.loop-table-test.false))
