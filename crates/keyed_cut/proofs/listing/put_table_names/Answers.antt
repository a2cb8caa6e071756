use Rattle.std.proofs.Common.{◌≡◌, [], List, ℕ, Bor, subst}
use Rattle.std.proofs.lemmas.List.{drop_all, drop_more}
use Rattle.keyed_cut.specs.Listing.{table_names}
use Rattle.keyed_files.specs.Writing.{PutsCells}
use Rattle.keyed_cut.proofs.ListingTextLemmas.{each-end, each-then, stem-names}
use Rattle.keyed_cut.proofs.listing.put_table_names.Goals as goal

pub loop-stem-preserved : goal.loop-stem-preserved
loop-stem-preserved c end h =
    let stems = c.args.stems.now in
    let i = c.loop-stem.stem-index in
    let f : Bor (List ℕ) → List (List ℕ) = λ stem. table_names stem.now in
    let none : Bor (List ℕ) = record { ref_ptr = (0, 0); now = [] } in
    c.loop-stem.invariant end (each-then f stems i _ _ end _ (drop_more stems i none c.loop-stem-test.true) c.in_ok-put_table.ensures h)

pub returns : goal.returns
returns c =
    let stems = c.args.stems.now in
    let f : Bor (List ℕ) → List (List ℕ) = λ stem. table_names stem.now in
    subst (PutsCells c.args.rows.now c.loop-stem.rows) (stem-names stems)
    (c.loop-stem.invariant _ (each-end f stems c.loop-stem.stem-index _ (drop_all c.loop-stem.stem-index stems c.loop-stem-test.false)))
