use Rattle.std.proofs.Common.{◌∙◌, ◌++◌, ap₂}
use Rattle.keyed_columns.proofs.ColumnLemmas.{added-same, staying-same}
use Rattle.keyed_columns.proofs.new_columns.merged_names.Goals as goal

pub returns : goal.returns
returns c =
    let first = c.args.first.now in
    let next = c.args.next.now in
    let staying = c.in_ok-put_kept.ensures ∙ ap₂ (λ a b. a ++ b) c.new-names.ensures (staying-same _ _ c.args.base.now next c.in_ok-before.ensures c.in_ok-beside.ensures first) in
    c.in_ok-put_added.ensures ∙ ap₂ (λ a b. a ++ b) staying (added-same _ _ c.args.base.now first c.in_ok-before.ensures c.in_ok-there.ensures next)
