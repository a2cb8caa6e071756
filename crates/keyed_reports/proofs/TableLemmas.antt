-- Lines of rows that changed, one after another.
use Rattle.std.proofs.Common.{◌≡◌, ◌∙◌, ◌+◌, ◌<◌, ◌++◌, ℕ, Bool, false, List, [], ◌∷◌, None, Some, ap, ap₂, get_or, length, map, option_map, refl, suc, subst, sym, take, true≢false}
use Rattle.std.specs.Prelude.{◌==◌}
use Rattle.std.specs.Borrow.{Bor}
use Rattle.std.specs.List.{AllZip}
use Rattle.std.proofs.lemmas.List.{map-append, take_more}
use Rattle.either_or_both.specs.Prelude.{left_place, map_places, right_place}
use Rattle.eob_both.specs.declared.either_or_both.EitherOrBoth.{EitherOrBoth}
use Rattle.eob_both.specs.declared.either_or_both.EitherOrBoth.TheVariants.{Left, Both, Right}
use Rattle.keyed_columns.specs.declared.columns.Columns.{Columns}
use Rattle.keyed_layout.specs.Lines.{AreLinedUp}
use Rattle.keyed_layout.specs.declared.lined_up.Line.{Line}
use Rattle.keyed_numbers.specs.declared.alike.Alike.{Alike}
use Rattle.keyed_reports.specs.RowChanges.{row_behind, word_of}
use Rattle.keyed_reports.specs.SaidAfter.{count_added, count_changed, count_removed, counts_of, counts_with}
use Rattle.keyed_reports.specs.TableLines.{AreLinesOf, IsTextOfRows, versions_of}

-- the word of a row is that of what stands behind its references
pub word-behind : {R S : Type 0} (f : R → S) (change : EitherOrBoth R R) → word_of (map_places f f change) ≡ word_of change
word-behind f (Left old) = refl
word-behind f (Both old new) = refl
word-behind f (Right new) = refl

module _ {A L : Type 0} (holds : A → L → Type 0) where
  one_more : (xs : List A) (lines : List L) (x : A) (line : L) → AllZip holds xs lines → holds x line → AllZip holds (xs ++ x ∷ []) (lines ++ line ∷ [])
  one_more [] [] x line h k = (k, tt)
  one_more [] (l ∷ lines) x line h k = absurd h
  one_more (y ∷ xs) [] x line h k = absurd h
  one_more (y ∷ xs) (l ∷ lines) x line h k = (h.0, one_more xs lines x line h.1 k)

  -- the line of one row more
  pub line-more : {X : Type 0} (f : X → A) (xs : List X) (i : ℕ) (x : X) (lines : List L) (line : L) → i < length xs → x ≡ get_or xs i x
      → AllZip holds (map f (take i xs)) lines → holds (f x) line → AllZip holds (map f (take (i + 1) xs)) (lines ++ line ∷ [])
  line-more f xs i x lines line h at all one =
      let more : take (i + 1) xs ≡ take i xs ++ x ∷ [] = take_more xs i x h ∙ ap (λ y. take i xs ++ y ∷ []) (sym at) in
      subst (λ l. AllZip holds l (lines ++ line ∷ [])) (sym (ap (map f) more ∙ map-append f (take i xs) (x ∷ [])))
      (one_more (map f (take i xs)) lines (f x) line all one)

-- the text of rows is that of their lines where there is one
pub some-text : {X : Type 0} (f : X → List (List ℕ) × EitherOrBoth (List (List ℕ)) (List (List ℕ))) (alikes : List Alike) (shown : List Bool) (columns : Columns)
    (xs : List X) (text : List ℕ) → (length xs == 0) ≡ false
    → (grid : List Line) × AreLinesOf alikes shown columns (map f xs) grid × AreLinedUp grid text → IsTextOfRows alikes shown columns (map f xs) text
some-text f alikes shown columns [] text e h = absurd (true≢false e)
some-text f alikes shown columns (x ∷ xs) text e h = h

-- the versions of a row are those behind its references
pub versions-behind : (rows : List (Bor (List (List ℕ)) × EitherOrBoth (Bor (List (List ℕ))) (Bor (List (List ℕ)))))
    → map (λ row. (option_map (λ cells. cells.now) (left_place row.1), option_map (λ cells. cells.now) (right_place row.1))) rows
    ≡ map versions_of (map row_behind rows)
versions-behind [] = refl
versions-behind ((key, Left old) ∷ rows) = ap (λ l. (Some old.now, None) ∷ l) (versions-behind rows)
versions-behind ((key, Both old new) ∷ rows) = ap (λ l. (Some old.now, Some new.now) ∷ l) (versions-behind rows)
versions-behind ((key, Right new) ∷ rows) = ap (λ l. (None, Some new.now) ∷ l) (versions-behind rows)

-- a row that changed, of references
abbrev RowOf : Type 0
RowOf = Bor (List (List ℕ)) × EitherOrBoth (Bor (List (List ℕ))) (Bor (List (List ℕ)))

added-behind : (rows : List RowOf) → count_added (map row_behind rows) ≡ count_added rows
added-behind [] = refl
added-behind ((key, Left old) ∷ rows) = added-behind rows
added-behind ((key, Both old new) ∷ rows) = added-behind rows
added-behind ((key, Right new) ∷ rows) = ap suc (added-behind rows)

removed-behind : (rows : List RowOf) → count_removed (map row_behind rows) ≡ count_removed rows
removed-behind [] = refl
removed-behind ((key, Left old) ∷ rows) = ap suc (removed-behind rows)
removed-behind ((key, Both old new) ∷ rows) = removed-behind rows
removed-behind ((key, Right new) ∷ rows) = removed-behind rows

changed-behind : (rows : List RowOf) → count_changed (map row_behind rows) ≡ count_changed rows
changed-behind [] = refl
changed-behind ((key, Left old) ∷ rows) = changed-behind rows
changed-behind ((key, Both old new) ∷ rows) = ap suc (changed-behind rows)
changed-behind ((key, Right new) ∷ rows) = changed-behind rows

-- the counts of rows are those of what stands behind their references
pub counts-behind : (old_rows : ℕ) (rows : List RowOf) → counts_of old_rows rows ≡ counts_of old_rows (map row_behind rows)
counts-behind old_rows rows =
    sym (ap (λ added. counts_with old_rows added (count_removed (map row_behind rows)) (count_changed (map row_behind rows))) (added-behind rows)
    ∙ ap₂ (counts_with old_rows (count_added rows)) (removed-behind rows) (changed-behind rows))
