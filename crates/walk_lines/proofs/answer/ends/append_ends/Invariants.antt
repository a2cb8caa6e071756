use Rattle.std.proofs.Common.{◌≡◌, List, ◌++◌, Option, map}
use Rattle.std.specs.List.{flat_map}
use Rattle.eob_both.specs.Ends.{IsExactly}
use Rattle.eob_both.specs.Swap.{swap_ends}
use Rattle.eob_lists.proofs.DriveLemmas.{Kept}
use Rattle.eob_lists.proofs.StdEnds.{vec_ends}
use Rattle.line_words.specs.Growth.{Extends}
use Rattle.walk_lines.specs.Answers.{RefItem, end_of}
use Rattle.walk_lines.proofs.DrivenLemmas.{as_it_is, given_part, items_of_sides}
use Rattle.walk_lines.proofs.answer.ends.append_ends.Given as goal

-- what the calls so far gave is written, and the walk has the items still to come that give what the other calls are to give
abbrev pub invariant-loop-letter : goal.invariant-loop-letter
invariant-loop-letter g l = record {
  grown : Extends l.fn.output.items l.output.items;
  driven : (given : List (Option RefItem)) × Kept IsExactly (swap_ends vec_ends vec_ends) as_it_is (items_of_sides l.fn.sides) (map end_of l.letters) l.walk given l.letter-index
      × (l.output.items ≡ l.fn.output.items ++ flat_map given_part given);
}
