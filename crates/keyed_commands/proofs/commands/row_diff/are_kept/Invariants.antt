use Rattle.std.proofs.Common.{◌≡◌, drop}
use Rattle.std.specs.List.{list_all}
use Rattle.keyed_commands.specs.RowDiff.{is_kept}
use Rattle.keyed_commands.proofs.commands.row_diff.are_kept.Given as goal

abbrev pub invariant-loop-part : goal.invariant-loop-part
invariant-loop-part l = list_all is_kept (drop l.part-index l.parts) ≡ list_all is_kept l.parts
