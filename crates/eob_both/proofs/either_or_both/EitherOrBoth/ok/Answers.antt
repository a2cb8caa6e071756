use Rattle.std.proofs.Common.{rules}
use Rattle.eob_both.proofs.either_or_both.EitherOrBoth.ok.Goals as goal

pub returns-in-Both-clause-present : goal.returns-in-Both-clause-present
returns-in-Both-clause-present g c = search rules
