use Rattle.std.proofs.lemmas.Result.{IfOk-weaker}
use Rattle.std.specs.Prelude.{None}
use Rattle.command_callers.proofs.KnownText.{known, rows, text}
use Rattle.command_callers.proofs.texts.known_rows.Goals as goal

pub returns : goal.returns
returns c =
    IfOk-weaker c.rows_of.result _ _ (λ found reads. c.law_reads_once.ensures 59 None text _ rows (rw c.as_slice.ensures at reads) known) c.rows_of.ensures
