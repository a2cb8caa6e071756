use Rattle.std.proofs.Common.{◌++◌, ℕ, List, map}
use Rattle.std.specs.Prelude.{Option}
use Rattle.csv.specs.Records.{fields_of}
use Rattle.keyed_text.specs.Streams.{HasRead}
use Rattle.command_callers.proofs.texts.rows_left.Given as goal

abbrev pub invariant-loop : goal.invariant-loop
invariant-loop g l =
    (d : ℕ) (c : Option ℕ) (text : List ℕ) (before : List (List (List ℕ))) → HasRead d c g.R.Read.remaining text before l.fn.reader
    → HasRead d c g.R.Read.remaining text (before ++ map fields_of l.rows.items) l.reader
