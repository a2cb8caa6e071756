use Rattle.std.specs.Cmp.Lexicographic.{lists_equiv, nat_list_eq_equiv}
use Rattle.keyed_reports.proofs.RowLaws.{pairs}
use Rattle.keyed_reports.proofs.laws.law_pairs.Goals as goal

pub returns : goal.returns
returns g c = pairs (lists_equiv nat_list_eq_equiv)
