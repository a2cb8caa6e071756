use Rattle.eob_both.proofs.ContentLemmas.{first_list-keys, first_list-last}
use Rattle.eob_both.proofs.laws.contents.law_first_list.Goals as goal

pub returns : goal.returns
returns g c = record {
  keys = first_list-keys g.K.PartialEq.eq g.met.K.Eq.laws;
  last = first_list-last g.K.PartialEq.eq g.met.K.Eq.laws;
}
