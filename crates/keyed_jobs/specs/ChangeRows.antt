-- The rows that changes are written as.
use Rattle.std.specs.Prelude.{ℕ, List, [], ◌∷◌, ◌++◌, Option, Some, None, if◌then◌else◌}
use Rattle.std.specs.List.{flat_map}
use Rattle.either_or_both.specs.Prelude.{left_place, right_place}
use Rattle.eob_both.specs.declared.either_or_both.EitherOrBoth.{EitherOrBoth}
use Rattle.keyed_requests.specs.AnswerForm.{writes_heading}
use Rattle.keyed_requests.specs.declared.request.Form.{Form}
use Rattle.keyed_columns.specs.declared.columns.Place.{Place}
use Rattle.keyed_files.specs.declared.sign.Sign.{Sign}
use Rattle.keyed_files.specs.declared.sign.Sign.TheVariants.{Minus, Plus}
use Rattle.keyed_files.specs.Rows.{change_name, rows_under, shown_sign}

-- the rows under a key that a version has, each after a sign
abbrev pub version_rows : Sign → List Place → List (List ℕ) → Option (List (List (List ℕ))) → List (List (List ℕ))
version_rows sign order key None = []
version_rows sign order key (Some rows) = rows_under (Some (shown_sign sign)) order key rows

-- the rows of a change: those that go, and then those that come
abbrev pub change_rows : List Place → List (List ℕ) → EitherOrBoth (List (List (List ℕ))) (List (List (List ℕ))) → List (List (List ℕ))
change_rows order key change = version_rows Minus order key (left_place change) ++ version_rows Plus order key (right_place change)

-- the rows of changes, by key
abbrev pub changes_rows : List Place → List (List (List ℕ) × EitherOrBoth (List (List (List ℕ))) (List (List (List ℕ)))) → List (List (List ℕ))
changes_rows order changes = flat_map (λ change. change_rows order change.0 change.1) changes

-- the header of changes, where answers have a heading
abbrev pub changes_heading : Form → List (List ℕ) → List (List (List ℕ))
changes_heading form marked = if writes_heading form then (change_name ∷ marked) ∷ [] else []
