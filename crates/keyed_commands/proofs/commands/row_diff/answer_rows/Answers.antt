use Rattle.std.proofs.Common.{rules}
use Rattle.keyed_commands.proofs.RowDiffLemmas.{same-rows}
use Rattle.keyed_commands.proofs.commands.row_diff.answer_rows.Goals as goal

pub returns-clause-answer : goal.returns-clause-answer
returns-clause-answer c = record {
  parts = c.in_ok-parts.parts.items;
  before = c.in_ok-parts.ensures.old;
  after = c.in_ok-parts.ensures.new;
  same = same-rows _ c.in_ok-parts.ensures.same;
  csv = search rules;
  status = search rules;
}
