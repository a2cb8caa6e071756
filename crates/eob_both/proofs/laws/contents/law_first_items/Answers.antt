use Rattle.eob_both.proofs.ContentLemmas.{first_items-order, first_items-same}
use Rattle.eob_both.proofs.laws.contents.law_first_items.Goals as goal

pub returns : goal.returns
returns g c = record {
  order = first_items-order g.K.PartialEq.eq g.met.K.Eq.laws;
  same = first_items-same g.K.PartialEq.eq g.met.K.Eq.laws;
}
