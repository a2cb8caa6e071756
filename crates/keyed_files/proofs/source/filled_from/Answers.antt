use Rattle.std.proofs.Common.{◌≡◌, ◌<◌, ◌≤◌, ℕ, List, [], Some, arith, length}
use Rattle.csv.proofs.RecordFacts.{field-none}
use Rattle.csv.specs.Records.{fields_of}
use Rattle.keyed_columns.specs.CellsUnder.{cell_at}
use Rattle.keyed_files.proofs.source.filled_from.Goals as goal

none-behind : (fields : List (List ℕ)) (place end : ℕ) → ((k : ℕ) → place ≤ k → k < end → cell_at fields (Some k) ≡ []) → length fields ≤ end
    → (at : ℕ) → place ≤ at → cell_at fields (Some at) ≡ []
none-behind fields place end before all at le = grind (arith, before at, field-none fields at, all, le)

pub returns-clause-none : goal.returns-clause-none
returns-clause-none c = λ none. none-behind (fields_of c.args.row.now) c.args.place c.loop-at.at c.loop-at.invariant (omega (arith, c.len-at-end.ensures, c.loop-at-test.false))
