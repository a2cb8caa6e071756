use Rattle.std.proofs.Common.{◌≡◌}
use Rattle.std.specs.Prelude.{◌||◌}
use Rattle.std.specs.List.{list_all}
use Rattle.keyed_columns.specs.ColumnNames.{has_name}
use Rattle.keyed_jobs.proofs.compared.check_known.Given as goal

abbrev pub invariant-loop-name : goal.invariant-loop-name
invariant-loop-name l =
    list_all (λ name. has_name l.columns.key name || has_name l.columns.rest name) l.name-iterator
    ≡ list_all (λ name. has_name l.columns.key name || has_name l.columns.rest name) l.names
