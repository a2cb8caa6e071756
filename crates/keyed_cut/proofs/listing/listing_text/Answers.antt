use Rattle.std.proofs.Common.{◌∙◌, [], ◌∷◌, length, map, subst}
use Rattle.keyed_cut.specs.Listing.{listing_header, listing_rows, part_row, part_rows}
use Rattle.keyed_files.specs.Writing.{PutsRows}
use Rattle.keyed_files.proofs.WritingLemmas.{wrote-more}
use Rattle.keyed_cut.proofs.ListingTextLemmas.{listing-written}
use Rattle.keyed_cut.proofs.listing.listing_text.Goals as goal

pub returns : goal.returns
returns c =
    let stems = map (λ stem. stem.now) c.args.stems.now in
    let key = c.args.key.now in
    let tables = c.args.counts.now in
    let bounds = c.args.bounds.now.keys.items in
    let first : PutsRows c.put_header.new.rows c.put_first.new.rows (part_row (length key) tables 0 [] ∷ []) =
    subst (λ count. PutsRows c.put_header.new.rows c.put_first.new.rows (part_row count tables 0 [] ∷ [])) c.len-cells.ensures c.in_ok-put_first.ensures in
    let later : PutsRows c.put_first.new.rows c.put_parts.new.rows (part_rows (length key) tables 1 bounds) =
    rw (c.len-cells.ensures, c.keys.ensures) at c.in_ok-put_parts.ensures in
    let form = c.listing_form-form.result in
    let rows = listing_header stems key ∷ part_row (length key) tables 0 [] ∷ [] in
    let begun = wrote-more form _ _ (listing_header stems key ∷ []) (part_row (length key) tables 0 [] ∷ [])
    (wrote-more form _ _ [] (listing_header stems key ∷ []) c.new-rows.ensures c.in_ok-put_header.ensures) first in
    c.in_ok-text.ensures form _ (wrote-more form _ _ rows (part_rows (length key) tables 1 bounds) begun later)
    ∙ listing-written form c.listing_form-form.ensures (listing_rows stems key tables bounds)
