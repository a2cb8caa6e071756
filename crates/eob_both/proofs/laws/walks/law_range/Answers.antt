use Rattle.std.proofs.Common.{refl, sym, ◌∙◌}
use Rattle.std.proofs.lemmas.List.{map-id}
use Rattle.eob_both.specs.Ends.{IsExactly, range_rest}
use Rattle.eob_both.proofs.EndsLemmas.{to_come_forward}
use Rattle.eob_both.proofs.RunLemmas.{whole_items}
use Rattle.eob_both.proofs.StdEnds.{range_ends, range_to_come}
use Rattle.eob_both.proofs.laws.walks.law_range.Goals as goal

pub returns : goal.returns
returns c = λ p _ w. sym (map-id p.items) ∙ whole_items p refl w (record { runs = to_come_forward IsExactly range_ends (λ x. x) (range_rest p.from) p.from (range_to_come p.from) })
