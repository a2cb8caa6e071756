use Rattle.std.proofs.Common.{Some, ap, false, refl}
use Rattle.std.specs.Prelude.{option_map}
use Rattle.keyed_columns.proofs.KeyLemmas.{put-first, put-other}
use Rattle.keyed_columns.proofs.key_record.TwoNames.put.Goals as goal

pub returns-in_ok-push-in-Some-clause-read : goal.returns-in_ok-push-in-Some-clause-read
returns-in_ok-push-in-Some-clause-read c =
    put-other c.args.self.now (record c.args.self.now { other = Some c.push.new.self; waits = false }) c.args.byte c.in-Some.name.items c.push.new.self.items (ap (option_map (λ name. name.items)) c.in-Some.is) refl
    c.in_ok-push-in-Some.ensures.items refl

pub returns-in_ok-push-in-None-clause-read : goal.returns-in_ok-push-in-None-clause-read
returns-in_ok-push-in-None-clause-read c = put-first c.args.self.now (record c.args.self.now { first = c.push-in-None.new.self; waits = false }) c.args.byte c.in-None.is c.in-None.is c.in_ok-push-in-None.ensures.items
