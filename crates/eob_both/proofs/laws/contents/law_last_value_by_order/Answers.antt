use Rattle.std.specs.Ordering.{eq_by_cmp}
use Rattle.std.proofs.lemmas.Cmp.{eq_by_cmp_equiv}
use Rattle.eob_both.proofs.ContentLemmas.{last_value-from_places, last_value-none, last_value-places}
use Rattle.eob_both.proofs.laws.contents.law_last_value_by_order.Goals as goal

pub returns : goal.returns
returns g c = record {
  some = λ kvs k v. (last_value-places (eq_by_cmp g.K.Ord.cmp) (eq_by_cmp_equiv g.met.K.Ord.total) kvs k v, last_value-from_places (eq_by_cmp g.K.Ord.cmp) (eq_by_cmp_equiv g.met.K.Ord.total) kvs k v);
  none = λ kvs k. last_value-none (eq_by_cmp g.K.Ord.cmp) (eq_by_cmp_equiv g.met.K.Ord.total) kvs k;
}
