use Rattle.std.specs.Cmp.Lexicographic.{lists_equiv, nat_list_eq_equiv}
use Rattle.keyed_reports.proofs.RowLaws.{one_row_each}
use Rattle.keyed_reports.proofs.laws.law_one_row_each.Goals as goal

pub returns : goal.returns
returns c = one_row_each (lists_equiv nat_list_eq_equiv)
