use Rattle.std.proofs.Common.{◌∙◌}
use Rattle.std.proofs.iter.runs.Made.{seen}
use Rattle.std.specs.Option.{option_map}
use Rattle.eob_joins.proofs.kept.kept_rows.Goals as goal

pub returns : goal.returns
returns g c kept acts =
    let made = c.in_ok-rows.ensures in
    let behind = c.filter_map.ensures.runs made.0 (seen made.0.len) made.1 in
    let joined = c.join_of.ensures.rows behind.0 (seen behind.0.len) behind.1 (behind.2.0 ∙ made.2) in
    (behind.0.items, joined, made.3 ∙ behind.2.3 (λ row. option_map (λ w. (row.0, w)) (kept row.1)) acts)
