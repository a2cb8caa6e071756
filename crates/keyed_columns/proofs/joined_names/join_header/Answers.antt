use Rattle.std.proofs.Common.{◌∙◌, [], ap}
use Rattle.keyed_columns.specs.Names.{repeats}
use Rattle.keyed_columns.proofs.JoinedLemmas.{none-twice}
use Rattle.keyed_columns.proofs.joined_names.join_header.Goals as goal

pub returns-in-Semi-clause-once : goal.returns-in-Semi-clause-once
returns-in-Semi-clause-once c = ap (repeats []) c.new.ensures ∙ none-twice
