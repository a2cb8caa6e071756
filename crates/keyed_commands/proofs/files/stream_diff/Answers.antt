use Rattle.std.proofs.lemmas.Result.{IfOk-weaker}
use Rattle.keyed_commands.proofs.files.stream_diff.Goals as goal

pub returns : goal.returns
returns g c =
    IfOk-weaker c.diff_sorted.result _ _
    (λ finished told. (c.stream_of-old.result, c.stream_of-new.result, c.stream_of-old.ensures, c.stream_of-new.ensures, told)) c.diff_sorted.ensures.whole
