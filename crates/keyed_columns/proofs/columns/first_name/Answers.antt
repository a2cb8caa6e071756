use Rattle.std.proofs.Common.{◌≡◌, ◌∙◌, ◌+◌, ◌∷◌, ◌++◌, [], ap, drop, sym}
use Rattle.std.specs.Prelude.{None, Some, slice_get}
use Rattle.std.proofs.lemmas.List.{drop_more}
use Rattle.keyed_columns.proofs.ColumnLemmas.{first-later, first-there}
use Rattle.keyed_columns.proofs.columns.first_name.Goals as goal

pub returns-in-Some : goal.returns-in-Some
returns-in-Some c =
    let headers = c.args.headers.now in
    let i = c.loop-header.header-index in
    let header = c.header-item.result in
    let at : drop i headers ≡ header ∷ drop (i + 1) headers = drop_more headers i header c.loop-header-test.true ∙ ap (λ first. first ∷ drop (i + 1) headers) (sym c.header-item.is) in
    let there : slice_get header.now 0 ≡ Some c.in-Some.name.now = sym c.in-Some.ensures in
    first-there headers i header _ at c.loop-header.invariant.left _ _ there (c.in_ok-push-in-Some.ensures.pushed ∙ ap (λ l. l ++ (c.in-Some.name.now ∷ [])) c.loop-header.invariant.none)

pub loop-header-preserved : goal.loop-header-preserved
loop-header-preserved c =
    let headers = c.args.headers.now in
    let i = c.loop-header.header-index in
    let header = c.header-item.result in
    let at : drop i headers ≡ header ∷ drop (i + 1) headers = drop_more headers i header c.loop-header-test.true ∙ ap (λ first. first ∷ drop (i + 1) headers) (sym c.header-item.is) in
    let none : slice_get header.now 0 ≡ None = sym c.in-None.ensures in
    record { none = c.loop-header.invariant.none; left = first-later headers i header _ at c.loop-header.invariant.left none }
