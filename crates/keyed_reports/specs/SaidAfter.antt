-- What a table says after its rows: how many more there are, how many columns are not shown, and the counts of all rows that changed.
use Rattle.std.specs.Prelude.{◌==◌, ◌||◌, ◌++◌, ◌-◌, ◌^◌, ℕ, Bool, List, [], codes, filter, is_none, is_some, length, map, min, not, sum, if◌then◌else◌}
use Rattle.std.specs.Fmt.{decimal}
use Rattle.either_or_both.specs.Prelude.{left_place, option_zip, right_place}
use Rattle.eob_both.specs.declared.either_or_both.EitherOrBoth.{EitherOrBoth}
use Rattle.keyed_reports.specs.declared.counts.Counts.{Counts}

module _ {K V : Type 0} (rows : List (K × EitherOrBoth V V)) where
  -- how many rows were added, were removed, and changed
  abbrev pub count_added : ℕ
  count_added = length (filter (λ row. is_none (left_place row.1)) rows)

  abbrev pub count_removed : ℕ
  count_removed = length (filter (λ row. is_none (right_place row.1)) rows)

  abbrev pub count_changed : ℕ
  count_changed = length (filter (λ row. is_some (option_zip (left_place row.1) (right_place row.1))) rows)

-- the counts of a table that had so many rows, of which so many were added, were removed, and changed
abbrev pub counts_with : ℕ → ℕ → ℕ → ℕ → Counts
counts_with old_rows added removed changed = record {
  added = added;
  removed = removed;
  changed = changed;
  same = old_rows - removed - changed;
}

-- the counts of a table that had so many rows, where these changed
abbrev pub counts_of : {K V : Type 0} → ℕ → List (K × EitherOrBoth V V) → Counts
counts_of old_rows rows = counts_with old_rows (count_added rows) (count_removed rows) (count_changed rows)

-- how many rows a table has, or the greatest number where they are more
abbrev pub count_rows : {K R : Type 0} → List (K × List R) → ℕ
count_rows pairs = min (sum (map (λ pair. length pair.1) pairs)) (2 ^ 64 - 1)

-- the text of counts
abbrev pub counts_text : Counts → List ℕ
counts_text counts = decimal counts.added ++ (codes " added, " ++ (decimal counts.removed ++ (codes " removed, "
    ++ (decimal counts.changed ++ (codes " changed, " ++ (decimal counts.same ++ codes " the same"))))))

-- the line that says how many more rows changed, where there are any
abbrev pub more_text : ℕ → List ℕ
more_text more = if more == 0 then [] else codes "and " ++ (decimal more ++ codes " more\n")

-- how many columns are not shown
abbrev pub count_hidden : List Bool → ℕ
count_hidden shown = length (filter not shown)

-- what is said of so many columns
abbrev pub hidden_text : ℕ → List ℕ
hidden_text count = decimal count ++ (codes " " ++ ((if count == 1 then codes "column is" else codes "columns are")
    ++ codes " the same here, and not shown without --all-columns\n"))

-- the line that says how many columns are not shown, where some are not and a row is
abbrev pub left_out_text : ℕ → List Bool → List ℕ
left_out_text rows shown = if (rows == 0) || (count_hidden shown == 0) then [] else hidden_text (count_hidden shown)

-- all of it, where so many rows are shown and so many more are not
abbrev pub text_after : ℕ → ℕ → List Bool → Counts → List ℕ
text_after rows more shown counts = more_text more ++ (left_out_text rows shown ++ (counts_text counts ++ codes "\n"))
