use Rattle.std.proofs.Common.{◌≡◌, ◌∙◌, [], ◌∷◌, ap, subst}
use Rattle.keyed_columns.specs.ColumnNames.{AreColumns}
use Rattle.keyed_files.specs.Reading.{PlacesOf}
use Rattle.keyed_cut.specs.Listing.{ReadsLaterKeys, from_names}
use Rattle.keyed_cut.proofs.ListingLemmas.{bounds-read}
use Rattle.keyed_cut.proofs.listing.read_bounds.Goals as goal

pub returns-in-Some : goal.returns-in-Some
returns-in-Some g c =
    let rem = g.R.Read.remaining in
    let source = c.in_ok-opened.opened.source.value in
    let columns = c.in_ok-columns.columns in
    let places = c.in_ok-places.places in
    let found = c.in-Some.keys.items in
    let names : c.in_ok-names.names ≡ from_names source.header.names = c.in_ok-names.ensures ∙ ap from_names c.header.ensures in
    let are : AreColumns (from_names source.header.names) (source.header.names ∷ []) columns =
    subst (λ key. AreColumns key (source.header.names ∷ []) columns) names
    (subst (λ header. AreColumns c.in_ok-names.names (header ∷ []) columns) c.header-3.ensures c.in_ok-columns.ensures) in
    let placed : PlacesOf source columns places = subst (λ s. PlacesOf s columns places) c.deref.ensures (rw c.in_ok-places.ensures.value at c.places.ensures.places) in
    let reads : ReadsLaterKeys rem places source found =
    subst (λ s. ReadsLaterKeys rem places s found) c.deref_mut.ensures.value (rw (c.in_ok-keys.ensures.value, c.in-Some.is) at c.read_keys.ensures) in
    bounds-read rem source columns places found c.new.result.keys.items are placed reads c.new.ensures c.new.result.sorted (rem c.args.reader) c.in_ok-opened.ensures
