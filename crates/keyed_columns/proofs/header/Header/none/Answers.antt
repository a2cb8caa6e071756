use Rattle.std.proofs.Common.{◌∙◌, sym}
use Rattle.keyed_columns.proofs.KeyColumnLemmas.{none-names}
use Rattle.keyed_columns.proofs.header.Header.none.Goals as goal

pub invariant_of-result : goal.invariant_of-result
invariant_of-result c = record {
  found_is_names = c.new-4.ensures ∙ sym c.new.ensures;
  repeated_twice = none-names _ _ c.new-3.ensures c.new-7.ensures;
}
