-- Changes as they are made, where they name each column of the table.
use Rattle.std.proofs.Common.{◌≡◌, ℕ, Bool, List, Option, None, Some, true, refl}
use Rattle.eob_lists.specs.Join.{Rising, value_under}
use Rattle.keyed_columns.specs.ChangedColumns.{name_each}
use Rattle.keyed_columns.specs.declared.columns.Columns.{Columns}
use Rattle.keyed_requests.specs.declared.request.Direction.{Direction}
use Rattle.keyed_tables.specs.Completed.{completed_by}
use Rattle.keyed_tables.proofs.CompletedLemmas.{keys-are, made-table}
use Rattle.keyed_jobs.specs.Answers.{TableChanges, TableRows, key_cmp}
use Rattle.keyed_jobs.specs.MadeChanges.{made_in, made_with}
use Rattle.keyed_jobs.specs.Turned.{changes_in}
use Rattle.keyed_jobs.proofs.AnswerLemmas.{key_total}

pub whole-made : (old_header changes_header : List (List ℕ)) (columns : Columns) (direction : Direction) (old : TableRows) (changes : TableChanges)
    → name_each old_header changes_header ≡ true → made_in old_header changes_header columns direction old changes ≡ changes_in direction changes
whole-made old_header changes_header columns direction old changes e = rw e refl

-- the keys of changes strictly increase as they are made
pub made-rises : (missing : Option (List Bool)) (old : TableRows) (changes : TableChanges) → Rising key_cmp changes → Rising key_cmp (made_with missing old changes)
made-rises None old changes rises = rises
made-rises (Some missing) old changes rises =
    (made-table key_cmp key_total keys-are (λ k change. completed_by missing (value_under key_cmp old k) change) changes rises).rises
