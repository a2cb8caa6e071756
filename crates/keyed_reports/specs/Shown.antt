-- Which of the rows that changed are shown.
use Rattle.std.specs.Prelude.{ℕ, ◌-◌, List, [], take}
use Rattle.keyed_requests.specs.declared.request.RowsShown.{RowsShown}
use Rattle.keyed_requests.specs.declared.request.RowsShown.TheVariants.{All, First, Nothing}

-- all of them, the first ones, or none
abbrev pub shown_rows : {A : Type 0} → RowsShown → List A → List A
shown_rows All rows = rows
shown_rows (First most) rows = take most rows
shown_rows Nothing rows = []

-- how many more there are of so many, where the first ones are shown
abbrev pub count_more : RowsShown → ℕ → ℕ
count_more All all = 0
count_more (First most) all = all - most
count_more Nothing all = 0
