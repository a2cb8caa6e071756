use Rattle.std.proofs.Common.{refl}
use Rattle.eob_joins.proofs.LookupLemmas.{lookup_runs}
use Rattle.eob_joins.proofs.lookup.lookup_join_lazily.Goals as goal

pub returns-clause-runs : goal.returns-clause-runs
returns-clause-runs g c = (
  c.into_iter.result,
  c.into_iter.ensures.into_iter_gives,
  refl,
  (λ h. h),
  lookup_runs g.R.Lookup.finds g.U.IntoIter.Iterator.next_gives _ c.into_iter.result refl,
)
