use Rattle.std.proofs.lemmas.Result.{IfOk-weaker}
use Rattle.keyed_commands.proofs.files.answer_merge.Goals as goal

pub returns : goal.returns
returns g c =
    IfOk-weaker c.merge.result _ _
    (λ answer merged. (c.stream_of-base.result, c.stream_of-ours.result, c.stream_of-theirs.result, c.stream_of-base.ensures, c.stream_of-ours.ensures, c.stream_of-theirs.ensures, merged)) c.merge.ensures.answer
