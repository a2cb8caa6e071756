use Rattle.std.proofs.lemmas.Result.{on_ok_weaker}
use Rattle.keyed_commands.proofs.files.write_lookup.Goals as goal

pub returns-clause-text : goal.returns-clause-text
returns-clause-text g c =
    on_ok_weaker c.lookup.result (λ told. (c.stream_of-left.result, c.stream_of-right.result, c.stream_of-left.ensures, c.stream_of-right.ensures, told)) c.lookup.ensures.text
