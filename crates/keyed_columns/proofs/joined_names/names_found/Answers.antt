use Rattle.std.proofs.Common.{◌≡◌, ◌∙◌, ◌++◌, ap, ap₂, map}
use Rattle.keyed_columns.specs.JoinedNames.{left_names, told_apart}
use Rattle.keyed_columns.specs.Names.{names_in}
use Rattle.keyed_columns.specs.Placed.{placed}
use Rattle.keyed_columns.proofs.JoinedLemmas.{told-by}
use Rattle.keyed_columns.proofs.joined_names.names_found.Goals as goal

pub returns : goal.returns
returns c =
    let names = c.args.names in
    let left = c.args.columns.now.left in
    let right = c.args.columns.now.right in
    let of_right = names_in c.in_ok-of_right.of_right in
    let of_left = names_in c.in_ok-names_of_left.field-0 in
    let rest : c.put_told.new.header ≡ left_names names c.args.columns.now =
    c.in_ok-put_told.ensures ∙ ap (λ l. l ++ map (told_apart names.left.now of_right) left.rest) c.new-rest.ensures
    ∙ told-by names.left.now right.rest of_right left.rest c.in_ok-of_right.ensures in
    c.in_ok-put_told-2.ensures
    ∙ ap₂ (λ l r. l ++ r) (c.in_ok-header.ensures ∙ ap (placed left.order.items left.key) rest)
    (told-by names.right.now (left.key ++ left.rest) of_left right.rest c.in_ok-names_of_left.ensures)
