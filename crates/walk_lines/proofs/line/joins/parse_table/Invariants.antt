use Rattle.std.proofs.Common.{length}
use Rattle.line_words.specs.Words.{words, NoSpaceAhead}
use Rattle.walk_lines.specs.Answers.{SaysTable, shown_table}
use Rattle.walk_lines.proofs.line.joins.parse_table.Given as goal

-- the entries so far, and then the words of the rest
abbrev pub invariant-loop-entry : goal.invariant-loop-entry
invariant-loop-entry g l = record {
  ahead : NoSpaceAhead l.rest;
  said : SaysTable (words l.fn.bytes) (shown_table l.table.items) (words l.rest);
}

abbrev pub decreases-loop-entry : goal.decreases-loop-entry
decreases-loop-entry g l = length l.rest
