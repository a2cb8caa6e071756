use Rattle.std.proofs.lemmas.Result.{IfOk-weaker}
use Rattle.keyed_commands.proofs.files.answer_apply.Goals as goal

pub returns : goal.returns
returns g c =
    IfOk-weaker c.apply.result _ _
    (λ answer applied. (c.stream_of-old.result, c.stream_of-changes.result, c.stream_of-old.ensures, c.stream_of-changes.ensures, applied)) c.apply.ensures.answer
