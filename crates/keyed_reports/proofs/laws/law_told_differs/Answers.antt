use Rattle.std.specs.Cmp.Lexicographic.{lists_equiv, nat_list_eq_equiv}
use Rattle.keyed_reports.proofs.RowLaws.{told_differs}
use Rattle.keyed_reports.proofs.laws.law_told_differs.Goals as goal

pub returns : goal.returns
returns c = told_differs (lists_equiv nat_list_eq_equiv)
