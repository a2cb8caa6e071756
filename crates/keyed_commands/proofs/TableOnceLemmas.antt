-- Of the same rows there is one table by key.
use Rattle.std.proofs.Common.{◌≡◌, Bool, List, map, subst}
use Rattle.keyed_rows.specs.declared.row.ReadRow.{ReadRow}
use Rattle.keyed_tables.specs.Gathered.{HoldsRows}
use Rattle.keyed_files.specs.Reading.{parts_of}
use Rattle.keyed_jobs.specs.Answers.{TableRows, key_cmp}
use Rattle.keyed_jobs.specs.TablesRead.{Gathers}
use Rattle.keyed_jobs.proofs.AnswerLemmas.{key_exact, key_total}
use Rattle.keyed_commands.proofs.GatheredLemmas.{climbing, one-table}

pub table_once : (groups : Bool) (rows others : List ReadRow) (table other : TableRows) → map parts_of rows ≡ map parts_of others
    → Gathers groups rows table → Gathers groups others other → table ≡ other
table_once groups rows others table other same a b =
    one-table key_cmp key_total key_exact key_cmp key_total key_exact (map parts_of others) table other
    (subst (λ ps. HoldsRows key_cmp ps table) same a.0) b.0
    (climbing key_cmp key_total key_exact key_cmp key_total key_exact groups table a.1)
    (climbing key_cmp key_total key_exact key_cmp key_total key_exact groups other b.1)
