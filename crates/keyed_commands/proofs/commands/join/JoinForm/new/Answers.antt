use Rattle.std.proofs.Common.{◌∙◌, [], ap}
use Rattle.keyed_columns.specs.Names.{repeats}
use Rattle.keyed_commands.proofs.JoinLemmas.{none-twice}
use Rattle.keyed_commands.proofs.commands.join.JoinForm.new.Goals as goal
use Rattle.keyed_commands.proofs.commands.join.JoinForm.new.Goals.{in-Csv+in_ok-header-in-Csv, in-Csv-2}

pub returns-clause-once : goal.returns-clause-once
returns-clause-once c = elim c.match-how.branch [
  | in-Csv+in_ok-header-in-Csv w ↦ rw w.header-is w.in_ok-header-in-Csv.ensures.once
  | in-Csv-2 w ↦ rw w.header-is (ap (repeats []) w.new-header.ensures ∙ none-twice)
]
