use Rattle.std.proofs.Common.{◌≡◌, ◌∙◌, ◌+◌, ◌++◌, ◌∷◌, [], List, ℕ, ap, drop, map, sym}
use Rattle.std.specs.Prelude.{option_map}
use Rattle.std.proofs.lemmas.List.{drop_all, drop_more}
use Rattle.keyed_columns.specs.Placed.{first_cells, placed}
use Rattle.keyed_files.specs.Rows.{shown_sign}
use Rattle.keyed_files.specs.Writing.{PutsRows}
use Rattle.keyed_files.proofs.WritingLemmas.{no-rows-left, row-then}
use Rattle.keyed_files.proofs.written.Written.put_rows.Goals as goal

pub loop-rest-preserved : goal.loop-rest-preserved
loop-rest-preserved c end h =
    let rows = c.rows-rest-items.result.now in
    let i = c.loop-rest.rest-index in
    let row = c.rest-item.result in
    let f : List (List ℕ) → List (List ℕ) = λ rest. first_cells (option_map shown_sign c.args.sign) ++ placed c.args.columns.now.order.items c.args.key.now rest in
    let at : drop i rows ≡ row ∷ drop (i + 1) rows = drop_more rows i row c.loop-rest-test.true ∙ ap (λ first. first ∷ drop (i + 1) rows) (sym c.rest-item.is) in
    let step : PutsRows c.loop-rest.self c.put_row.new.self (f row ∷ []) = rw (c.cell_of-first.ensures, c.deref.ensures.value) at c.in_ok-put_row.ensures in
    c.loop-rest.invariant end (row-then f _ _ end rows i row at step h)

pub returns : goal.returns
returns c =
    let rows = c.rows-rest-items.result.now in
    let f : List (List ℕ) → List (List ℕ) = λ rest. first_cells (option_map shown_sign c.args.sign) ++ placed c.args.columns.now.order.items c.args.key.now rest in
    rw (← c.rows-rest-items.ensures) (c.loop-rest.invariant _ (no-rows-left _ _ (ap (map f) (drop_all c.loop-rest.rest-index rows c.loop-rest-test.false))))
