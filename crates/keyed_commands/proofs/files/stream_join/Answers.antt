use Rattle.std.proofs.lemmas.Result.{IfOk-weaker}
use Rattle.keyed_commands.proofs.files.stream_join.Goals as goal

pub returns : goal.returns
returns g c =
    IfOk-weaker c.join_sorted.result _ _
    (λ finished told. (c.stream_of-left.result, c.stream_of-right.result, c.stream_of-left.ensures, c.stream_of-right.ensures, told)) c.join_sorted.ensures.whole
