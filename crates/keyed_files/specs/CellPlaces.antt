-- Where the cells of columns stand in a record.
use Rattle.std.specs.Prelude.{◌≡◌, ℕ, List, map}
use Rattle.keyed_columns.specs.Headers.{place_under}
use Rattle.keyed_columns.specs.declared.columns.Columns.{Columns}
use Rattle.keyed_columns.specs.declared.content.Content.{Content}
use Rattle.keyed_files.specs.declared.source.Places.{Places}

-- the places of the cells of columns
pub record ArePlaces (kind : Content) (names : List (List ℕ)) (columns : Columns) (places : Places) : Type 0 where
  pub key : places.key.items ≡ map (place_under kind names) columns.key
  pub rest : places.rest.items ≡ map (place_under kind names) columns.rest
