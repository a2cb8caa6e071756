use Rattle.std.proofs.lemmas.Result.{IfOk-weaker}
use Rattle.keyed_commands.proofs.files.answer_partly.Goals as goal

pub returns : goal.returns
returns g c =
    IfOk-weaker c.apply_partly.result _ _
    (λ partly applied. (c.stream_of-old.result, c.stream_of-changes.result, c.stream_of-old.ensures, c.stream_of-changes.ensures, applied)) c.apply_partly.ensures.partly
