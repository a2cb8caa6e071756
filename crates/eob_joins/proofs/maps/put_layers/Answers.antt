use Rattle.std.proofs.Common.{◌∙◌, ap}
use Rattle.std.proofs.lemmas.Result.{on_ok_weaker}
use Rattle.indexmap.specs.IndexMap.{insert_all}
use Rattle.eob_joins.proofs.maps.put_layers.Goals as goal

pub returns : goal.returns
returns g c =
    on_ok_weaker c.put_layer-2.result
    (λ e. e ∙ ap (λ es. insert_all g.K.PartialEq.eq es c.args.over.entries) c.in_ok-put_layer.ensures)
    c.put_layer-2.ensures
