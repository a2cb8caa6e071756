use Rattle.std.proofs.Common.{◌≡◌, ◌∙◌, [], ◌∷◌, length, arith, sym, ap}
use Rattle.std.proofs.lemmas.Grind.{common_steps}
use Rattle.std.specs.Option.{option_or}
use Rattle.eob_lists.specs.Join.{value_under}
use Rattle.eob_joins.specs.Layers.{topmost}
use Rattle.eob_joins.proofs.LayerLemmas.{none_rises, one_laid, or_none}
use Rattle.eob_joins.proofs.layers.overlay_maps.Goals as goal

pub layers-init : goal.layers-init
layers-init g c = record {
  rises = none_rises g.K.Ord.cmp _ c.new-rows.ensures.items;
  counted = omega (arith, ap length c.from_vec-layers.ensures.items);
  values = λ k. rw (c.from_vec-layers.ensures.items, c.new-rows.ensures.items) (sym (or_none (topmost g.K.Ord.cmp 0 c.args.layers.items k)));
}

pub layers-preserved : goal.layers-preserved
layers-preserved g c =
    let taken : c.layers.layers.items ≡ c.in-Some.map ∷ c.pop_front.new.self.items = c.in-Some.ensures.items in
    record {
      rises = c.in_ok-rows-in-Some.ensures.rises;
      counted = omega (arith, ap length taken, c.layers.invariant.counted);
      values = one_laid g.K.Ord.cmp c.layers.layer c.in-Some.map c.pop_front.new.self.items c.layers.rows.items c.in_ok-rows-in-Some.rows.items (topmost g.K.Ord.cmp 0 c.args.layers.items)
          (λ k. c.layers.invariant.values k ∙ ap (λ l. option_or (topmost g.K.Ord.cmp c.layers.layer l k) (value_under g.K.Ord.cmp c.layers.rows.items k)) taken) c.in_ok-rows-in-Some.ensures;
    }

pub returns-in-None : goal.returns-in-None
returns-in-None g c =
    let none : c.layers.layers.items ≡ [] = grind (arith, common_steps) in
    record {
      rises = c.layers.invariant.rises;
      values = λ k. sym (c.layers.invariant.values k ∙ ap (λ l. option_or (topmost g.K.Ord.cmp c.layers.layer l k) (value_under g.K.Ord.cmp c.layers.rows.items k)) none);
    }
