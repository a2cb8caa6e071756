use Rattle.std.proofs.lemmas.Result.{IfOk-weaker}
use Rattle.keyed_commands.proofs.files.answer_row_diff.Goals as goal

pub returns : goal.returns
returns g c =
    IfOk-weaker c.diff_rows.result _ _
    (λ answer told. (c.stream_of-before.result, c.stream_of-after.result, c.stream_of-before.ensures, c.stream_of-after.ensures, told)) c.diff_rows.ensures.answer
