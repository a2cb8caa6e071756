use Rattle.eob_both.proofs.ContentLemmas.{last_value-from_places, last_value-none, last_value-places}
use Rattle.eob_both.proofs.laws.contents.law_last_value.Goals as goal

pub returns : goal.returns
returns g c = record {
  some = λ kvs k v. (last_value-places g.K.PartialEq.eq g.met.K.Eq.laws kvs k v, last_value-from_places g.K.PartialEq.eq g.met.K.Eq.laws kvs k v);
  none = λ kvs k. last_value-none g.K.PartialEq.eq g.met.K.Eq.laws kvs k;
}
