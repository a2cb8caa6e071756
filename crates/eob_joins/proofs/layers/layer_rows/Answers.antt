use Rattle.std.proofs.Common.{◌≡◌, ◌∙◌, map, ap, subst}
use Rattle.eob_lists.specs.Join.{Rising}
use Rattle.eob_joins.specs.Layers.{from_layer}
use Rattle.eob_joins.proofs.LayerLemmas.{layer_rises}
use Rattle.eob_joins.proofs.layers.layer_rows.Goals as goal

pub returns-clause-rows : goal.returns-clause-rows
returns-clause-rows g c = c.in_ok-rows.ensures ∙ ap (map (from_layer c.args.layer)) c.in_ok-list.ensures.entries

pub returns-clause-rises : goal.returns-clause-rises
returns-clause-rises g c =
    let same : c.in_ok-rows.rows.items ≡ map (from_layer c.args.layer) c.args.of_layer.entries = c.in_ok-rows.ensures ∙ ap (map (from_layer c.args.layer)) c.in_ok-list.ensures.entries in
    layer_rises g.K.Ord.cmp c.args.layer c.args.of_layer.entries c.in_ok-rows.rows.items same (subst (Rising g.K.Ord.cmp) c.in_ok-list.ensures.entries c.in_ok-list.ensures.rises)
