use Rattle.std.proofs.lemmas.Result.{IfOk-weaker}
use Rattle.keyed_commands.proofs.RequestLemmas.{both-ok}
use Rattle.keyed_commands.proofs.files.answer_diff.Goals as goal

pub returns : goal.returns
returns g c =
    IfOk-weaker c.diff.result _ _ (λ answer told. (c.stream_of-old.result, c.stream_of-new.result, c.stream_of-old.ensures, c.stream_of-new.ensures, told))
    (both-ok c.diff.result _ _ c.diff.ensures.csv c.diff.ensures.report)
