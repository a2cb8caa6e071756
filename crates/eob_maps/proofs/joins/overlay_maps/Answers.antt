use Rattle.std.proofs.Common.{◌∙◌, ap, refl}
use Rattle.std.specs.BTreeMap.{get}
use Rattle.std.specs.Option.{option_or}
use Rattle.std.specs.Ordering.{eq_by_cmp}
use Rattle.std.proofs.lemmas.Cmp.{eq_by_cmp_equiv}
use Rattle.std.proofs.lemmas.Map.Made.{update_all_distinct}
use Rattle.eob_lists.specs.Join.{value_under}
use Rattle.eob_lists.proofs.RisingLemmas.{rising_keys}
use Rattle.eob_maps.proofs.joins.overlay_maps.Goals as goal

pub returns : goal.returns
returns g c k =
    let cmp = g.K.Ord.cmp in
    let total = g.met.K.Ord.total in
    let rows = c.in_ok-rows.rows.items in
    c.in_ok-map.ensures k
    ∙ update_all_distinct (eq_by_cmp_equiv total) (eq_by_cmp cmp) (λ x y. refl) (get cmp c.args.base) rows k (rising_keys cmp total g.row.V.Denot rows c.in_ok-rows.ensures.rises).1
    ∙ ap (λ l. option_or (value_under cmp l k) (get cmp c.args.base k)) c.in_ok-rows.ensures.entries
