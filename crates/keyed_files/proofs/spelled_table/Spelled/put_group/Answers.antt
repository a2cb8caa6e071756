use Rattle.std.proofs.Common.{◌≡◌, ◌∙◌, ◌+◌, ◌∷◌, List, ℕ, ap, drop, map, sym}
use Rattle.std.proofs.lemmas.List.{drop_all, drop_more}
use Rattle.keyed_columns.specs.Placed.{placed}
use Rattle.keyed_files.proofs.SpelledLemmas.{none-left, row-then}
use Rattle.keyed_files.proofs.spelled_table.Spelled.put_group.Goals as goal

pub loop-rest-preserved : goal.loop-rest-preserved
loop-rest-preserved c end h =
    let rows = c.rows-rest-items.result.now in
    let i = c.loop-rest.rest-index in
    let row = c.rest-item.result in
    let f : List (List ℕ) → List (List ℕ) = λ rest. placed c.args.self.columns.now.order.items c.args.key.now rest in
    let at : drop i rows ≡ row ∷ drop (i + 1) rows = drop_more rows i row c.loop-rest-test.true ∙ ap (λ first. first ∷ drop (i + 1) rows) (sym c.rest-item.is) in
    c.loop-rest.invariant end (row-then c.args.self.form f _ _ end rows i row at c.in_ok-put_one.ensures h)

pub returns : goal.returns
returns c =
    let rows = c.rows-rest-items.result.now in
    let f : List (List ℕ) → List (List ℕ) = λ rest. placed c.args.self.columns.now.order.items c.args.key.now rest in
    rw (← c.rows-rest-items.ensures) (c.loop-rest.invariant _ (none-left c.args.self.form _ _ (ap (map f) (drop_all c.loop-rest.rest-index rows c.loop-rest-test.false))))
