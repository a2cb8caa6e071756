use Rattle.std.proofs.lemmas.Result.{IfOk-weaker}
use Rattle.keyed_commands.proofs.files.answer_join.Goals as goal

pub returns : goal.returns
returns g c =
    IfOk-weaker c.join.result _ _
    (λ answer joined. (c.stream_of-left.result, c.stream_of-right.result, c.stream_of-left.ensures, c.stream_of-right.ensures, joined)) c.join.ensures.answer
