-- Rows that are put one by one after those of their parts are partitioned.
use Rattle.std.proofs.Common.{◌≡◌, ◌∙◌, ◌==◌, ℕ, zero, suc, ◌<◌, true, false, List, [], ◌∷◌, ◌++◌, Option, Some, length, map, get_or, slice_set, arith, refl, sym, ap, subst, append_assoc, inl, inr}
use Rattle.std.specs.Prelude.{slice_get}
use Rattle.std.specs.declared.cmp.Ordering.{Ordering}
use Rattle.std.proofs.lemmas.Bool.Decides.{eqb_tells}
use Rattle.std.proofs.lemmas.List.{append-nil, get_or-set_same, length-set, map-append}
use Rattle.std.proofs.lemmas.List.Elements.{filter-append}
use Rattle.std.proofs.lemmas.Option.{same_Some, slice_get-get_or, slice_get_within}
use Rattle.keyed_files.specs.Reading.{GivesRecord, HasGiven, key_in, last_record}
use Rattle.keyed_files.specs.declared.source.Places.{Places}
use Rattle.keyed_files.specs.declared.source.Source.{Source}
use Rattle.keyed_parts.specs.Parts.{part_in, rows_in}
use Rattle.keyed_text.specs.Streams.{PutsRows}
use Rattle.keyed_text.specs.declared.row_writer.RowWriter.{RowWriter}
use Rattle.keyed_text.proofs.WriteLemmas.{rows-more, rows-none}
use Rattle.keyed_cut.specs.Partitioned.{PartitionsOn, PartitionsRest, PutsPartitioned, PutsRowAt, by_key, fitted, key_cmp}

-- what stands at a place that is set, and at another
pub set-here : {X : Type 0} (xs : List X) (i : ℕ) (x : X) → i < length xs → slice_get (slice_set xs i x) i ≡ Some x
set-here xs i x l = slice_get-get_or (slice_set xs i x) i x (omega (arith, length-set xs i x, l)) ∙ ap Some (get_or-set_same xs i x x l)

pub set-there : {X : Type 0} (xs : List X) (i j : ℕ) (x : X) → (i ≡ j → ⊥) → slice_get (slice_set xs i x) j ≡ slice_get xs j
set-there [] i j x n = refl
set-there (y ∷ xs) zero zero x n = absurd (n refl)
set-there (y ∷ xs) zero (suc j) x n = refl
set-there (y ∷ xs) (suc i) zero x n = refl
set-there (y ∷ xs) (suc i) (suc j) x n = set-there xs i j x (λ e. n (ap suc e))

module _ {K W : Type 0} (cmp : K → K → Ordering) (contents : W → Option (List ℕ)) (bounds : List K) where
  -- the rows of a part without their keys
  abbrev cells_in : ℕ → List (K × List (List ℕ)) → List (List (List ℕ))
  cells_in i rows = map (λ row. row.1) (rows_in cmp bounds i rows)

  more-in : (i : ℕ) (rows more : List (K × List (List ℕ))) → cells_in i (rows ++ more) ≡ cells_in i rows ++ cells_in i more
  more-in i rows more =
      ap (λ l. map (λ row. row.1) l) (filter-append (λ row. part_in cmp bounds row.0 == i) rows more)
      ∙ map-append (λ row. row.1) (rows_in cmp bounds i rows) (rows_in cmp bounds i more)

  -- no row yet
  pub partitioned-none : (writers : List (RowWriter W)) → PutsPartitioned cmp contents bounds [] writers writers
  partitioned-none writers = record {
    count = refl;
    part = λ i before after there here.
        subst (λ w. PutsRows contents before w []) (same_Some before after (sym there ∙ here)) (rows-none contents before);
  }

  -- one more row
  module _ (rows : List (K × List (List ℕ))) (key : K) (cells : List (List ℕ)) (mid new : List (RowWriter W)) (put : PutsRowAt contents (part_in cmp bounds key) cells mid new) (i : ℕ) (before middle after : RowWriter W) (at : slice_get mid i ≡ Some middle) (here : slice_get new i ≡ Some after) (so : PutsRows contents before middle (cells_in i rows)) where
    abbrev place : ℕ
    place = part_in cmp bounds key

    abbrev all : List (K × List (List ℕ))
    all = rows ++ ((key, cells) ∷ [])

    in-part : (place == i) ≡ true → place ≡ i → PutsRows contents before after (cells_in i all)
    in-part is-it same =
        let put-there : slice_get (slice_set mid place put.writer) place ≡ Some put.writer = set-here mid place put.writer (omega (arith, same, slice_get_within mid i middle at)) in
        let is : put.writer ≡ after = same_Some put.writer after (sym (subst (λ k. slice_get (slice_set mid place put.writer) k ≡ Some put.writer) same put-there) ∙ sym (ap (λ ws. slice_get ws i) put.others) ∙ here) in
        let one : cells_in i ((key, cells) ∷ []) ≡ cells ∷ [] = rw is-it refl in
        let more = rows-more contents before middle put.writer (cells_in i rows) (cells ∷ []) so (put.puts middle (subst (λ k. slice_get mid k ≡ Some middle) (sym same) at)) in
        subst (λ l. PutsRows contents before after l) (sym (more-in i rows ((key, cells) ∷ []) ∙ ap (λ l. cells_in i rows ++ l) one))
        (subst (λ w. PutsRows contents before w (cells_in i rows ++ (cells ∷ []))) is more)

    in-other : (place == i) ≡ false → (place ≡ i → ⊥) → PutsRows contents before after (cells_in i all)
    in-other is-not other =
        let is : middle ≡ after = same_Some middle after (sym at ∙ sym (set-there mid place i put.writer other) ∙ sym (ap (λ ws. slice_get ws i) put.others) ∙ here) in
        let none : cells_in i ((key, cells) ∷ []) ≡ [] = rw is-not refl in
        subst (λ l. PutsRows contents before after l) (sym (more-in i rows ((key, cells) ∷ []) ∙ ap (λ l. cells_in i rows ++ l) none ∙ append-nil (cells_in i rows)))
        (subst (λ w. PutsRows contents before w (cells_in i rows)) is so)

    in-any : PutsRows contents before after (cells_in i all)
    in-any = elim (eqb_tells place i) as (λ _. PutsRows contents before after (cells_in i all)) [ inl w ↦ in-part w.0 w.1 | inr w ↦ in-other w.0 w.1 ]

  pub partitioned-and : (rows : List (K × List (List ℕ))) (key : K) (cells : List (List ℕ)) (old mid new : List (RowWriter W))
      → PutsPartitioned cmp contents bounds rows old mid → PutsRowAt contents (part_in cmp bounds key) cells mid new
      → PutsPartitioned cmp contents bounds (rows ++ ((key, cells) ∷ [])) old new
  partitioned-and rows key cells old mid new partitioned put = record {
    count = ap length put.others ∙ length-set mid (part_in cmp bounds key) put.writer ∙ partitioned.count;
    part = λ i before after there here.
        let at : slice_get mid i ≡ Some (get_or mid i before) = slice_get-get_or mid i before (omega (arith, partitioned.count, slice_get_within old i before there)) in
        in-any rows key cells mid new put i before (get_or mid i before) after at here (partitioned.part i before (get_or mid i before) there at);
  }

-- records that are read of a source and put: none yet, one more, and all
module _ {R W : Type 0} (remaining : R → Option (List ℕ)) (contents : W → Option (List ℕ)) (bounds : List (List (List ℕ))) (places : Places) (n : ℕ) (source : Source R) where
  pub deals-none : (writers : List (RowWriter W)) → PartitionsOn remaining contents bounds places n source source writers writers
  deals-none writers = λ d c text given h.
      ([], subst (λ l. HasGiven d c remaining text l source) (sym (append-nil given)) h, partitioned-none key_cmp contents bounds writers)

  pub deals-and : (now next : Source R) (key : List (List ℕ)) (old mid new : List (RowWriter W)) → PartitionsOn remaining contents bounds places n source now old mid
      → GivesRecord remaining now next true → key ≡ key_in places (last_record next)
      → PutsRowAt contents (part_in key_cmp bounds key) (fitted n (last_record next)) mid new → PartitionsOn remaining contents bounds places n source next old new
  deals-and now next key old mid new so gives is put = λ d c text given h.
      let before = so d c text given h in
      let fields = last_record next in
      let has = subst (λ l. HasGiven d c remaining text l next) (append_assoc given before.0 (fields ∷ [])) (gives d c text (given ++ before.0) before.1) in
      let partitioned = partitioned-and key_cmp contents bounds (by_key places n before.0) (key_in places fields) (fitted n fields) old mid new before.2
      (subst (λ k. PutsRowAt contents (part_in key_cmp bounds k) (fitted n fields) mid new) is put) in (
        before.0 ++ (fields ∷ []),
        has,
        subst (λ l. PutsPartitioned key_cmp contents bounds l old new)
            (sym (map-append (λ fields. (key_in places fields, fitted n fields)) before.0 (fields ∷ []))) partitioned,
      )

  pub deals-all : (now next : Source R) (old new : List (RowWriter W)) → PartitionsOn remaining contents bounds places n source now old new
      → GivesRecord remaining now next false → PartitionsRest remaining contents bounds places n source old new
  deals-all now next old new so gives = λ d c text given h.
      let before = so d c text given h in
      (before.0, gives d c text (given ++ before.0) before.1, before.2)
