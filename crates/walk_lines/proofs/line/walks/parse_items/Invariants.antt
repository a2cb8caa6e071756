use Rattle.std.proofs.Common.{length, map}
use Rattle.line_words.specs.Words.{words, NoSpaceAhead}
use Rattle.walk_lines.specs.Answers.{SaysFirst, shown}
use Rattle.walk_lines.proofs.line.walks.parse_items.Given as goal

-- the items so far, and then the words of the rest
abbrev pub invariant-loop-rest : goal.invariant-loop-rest
invariant-loop-rest g l = record {
  ahead : NoSpaceAhead l.rest;
  said : SaysFirst (words l.fn.bytes) (map shown l.items.items) (words l.rest);
}

abbrev pub decreases-loop-rest : goal.decreases-loop-rest
decreases-loop-rest g l = length l.rest
