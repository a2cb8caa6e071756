use Rattle.std.proofs.Common.{◌≡◌, ◌∙◌, ◌++◌, ap₂}
use Rattle.std.specs.Prelude.{option_map}
use Rattle.keyed_columns.specs.Names.{names_in}
use Rattle.keyed_columns.specs.Placed.{first_cells}
use Rattle.keyed_columns.proofs.JoinedLemmas.{none-left-of, told-by}
use Rattle.keyed_columns.proofs.joined_names.names_of_both.Goals as goal

pub returns : goal.returns
returns c =
    let names = c.args.names in
    let left = c.args.columns.now.left in
    let right = c.args.columns.now.right in
    let of_right = names_in c.in_ok-of_right.of_right in
    let of_left = names_in c.in_ok-names_of_left.field-0 in
    let first : c.loop-name.header ≡ first_cells (option_map (λ name. name.now) c.args.side) ++ left.key =
    none-left-of c.loop-name.header c.loop-name.name-iterator _ c.in-None.ensures.steps.0 c.loop-name.invariant in
    c.in_ok-put_told-2.ensures
    ∙ ap₂ (λ l r. l ++ r) (c.in_ok-put_told.ensures ∙ ap₂ (λ l r. l ++ r) first (told-by names.left.now right.rest of_right left.rest c.in_ok-of_right.ensures))
    (told-by names.right.now (left.key ++ left.rest) of_left right.rest c.in_ok-names_of_left.ensures)
