use Rattle.eob_joins.proofs.VersionLemmas.{merge_law}
use Rattle.eob_joins.proofs.versions.law_merge.Goals as goal

pub returns : goal.returns
returns g c = merge_law g.K.Ord.cmp g.met.K.Ord.total g.V.PartialEq.eq c.args.merge.now
