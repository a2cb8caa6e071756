use Rattle.std.proofs.Common.{◌≡◌, ◌∙◌, ◌∷◌, [], arith}
use Rattle.keyed_files.specs.JoinedRows.{joined_row}
use Rattle.keyed_files.proofs.WritingLemmas.{each-none, no-rows-left, place-more, places-all}
use Rattle.keyed_files.proofs.written.Written.put_beside.Goals as goal

pub loop-right-init : goal.loop-right-init
loop-right-init c = no-rows-left _ _ (each-none (λ right. joined_row c.args.columns.now c.args.key.now c.args.sides c.args.left right ∷ []))

pub loop-right-preserved : goal.loop-right-preserved
loop-right-preserved c = place-more (λ right. joined_row c.args.columns.now c.args.key.now c.args.sides c.args.left right ∷ []) _ _ _ c.loop-right.right c.loop-right.invariant c.in_ok-put_pair.ensures

pub returns : goal.returns
returns c =
    let all : c.loop-right.right ≡ c.count_of-right-end.result = omega arith in
    places-all (λ right. joined_row c.args.columns.now c.args.key.now c.args.sides c.args.left right ∷ []) _ _ _ _ (all ∙ c.count_of-right-end.ensures) c.loop-right.invariant
