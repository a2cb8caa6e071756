use Rattle.std.proofs.Common.{map}
use Rattle.keyed_columns.specs.ColumnNames.{column_names}
use Rattle.keyed_columns.proofs.PlaceNameLemmas.{at-places}
use Rattle.keyed_columns.proofs.columns.columns_at.Goals as goal

pub returns-clause-names : goal.returns-clause-names
returns-clause-names c =
    at-places c.in_ok-places.places.first c.in_ok-places.places.others c.in_ok-columns.columns.rest (column_names (map (λ header. header.now) c.args.headers.now))
    _ c.args.given.now c.in_ok-names.names
    c.in_ok-places.ensures.first c.in_ok-places.ensures.others c.new.ensures c.in_ok-columns.ensures.columns.rest c.in_ok-names.ensures.names
