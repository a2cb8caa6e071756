use Rattle.std.proofs.Common.{[], ◌∷◌, ◌++◌, codes, map}
use Rattle.std.specs.List.{flat_map}
use Rattle.keyed_cut.specs.Listing.{from_name, listing_header, table_names}
use Rattle.keyed_files.proofs.WritingLemmas.{then-cells, then-end}
use Rattle.keyed_cut.proofs.listing.put_header.Goals as goal

pub returns : goal.returns
returns c =
    let stems = map (λ stem. stem.now) c.args.stems.now in
    then-end _ _ _ (listing_header stems c.args.key.now)
    (then-cells _ _ _ (codes "part" ∷ flat_map table_names stems) (map from_name c.args.key.now)
    (then-cells _ _ _ (codes "part" ∷ []) (flat_map table_names stems) c.in_ok-put_cell.ensures c.in_ok-put_table_names.ensures) c.in_ok-put_from_names.ensures)
    c.in_ok-end_row.ensures
