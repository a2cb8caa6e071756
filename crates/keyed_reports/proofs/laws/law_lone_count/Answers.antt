use Rattle.std.specs.Cmp.Lexicographic.{lists_equiv, nat_list_eq_equiv}
use Rattle.keyed_reports.proofs.RowLaws.{lone_count}
use Rattle.keyed_reports.proofs.laws.law_lone_count.Goals as goal

pub returns : goal.returns
returns c = lone_count (lists_equiv nat_list_eq_equiv)
