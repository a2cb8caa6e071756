-- Cells of a line one after another, each after spaces, and lines one after another.
use Rattle.std.proofs.Common.{◌≡◌, ◌∙◌, ◌++◌, ℕ, List, [], ◌∷◌, ap, append-nil, append_assoc, arith, length, refl, replicate, sym}
use Rattle.std.specs.List.{AllZip, flat_map}
use Rattle.std.proofs.lemmas.List.{length_push}
use Rattle.keyed_layout.specs.Lines.{AreLinedUp, AreSpaced, IsSpaced, IsTextOf, Puts, begin_of, end_of, spaced, texts_of}
use Rattle.keyed_layout.specs.declared.lined_up.Line.{Line}

-- no cell is put, and one more after others
pub none-spaced : (text : List ℕ) → Puts (AreSpaced []) text text
none-spaced text = ([], ([], refl, refl), sym (append-nil text))

spaced-push : (gaps : List ℕ) (cells : List (List ℕ)) (gap : ℕ) (cell : List ℕ) → length gaps ≡ length cells
    → spaced (gaps ++ gap ∷ []) (cells ++ cell ∷ []) ≡ spaced gaps cells ++ (replicate gap 32 ++ cell)
spaced-push [] [] gap cell e = append-nil (replicate gap 32 ++ cell)
spaced-push [] (c ∷ cells) gap cell e = absurd (omega arith)
spaced-push (g ∷ gaps) [] gap cell e = absurd (omega arith)
spaced-push (g ∷ gaps) (c ∷ cells) gap cell e =
    ap (λ l. (replicate g 32 ++ c) ++ l) (spaced-push gaps cells gap cell (omega arith)) ∙ sym (append_assoc (replicate g 32 ++ c) (spaced gaps cells) (replicate gap 32 ++ cell))

pub spaced-then : (cells : List (List ℕ)) (cell a b c : List ℕ) → Puts (AreSpaced cells) a b → Puts (IsSpaced cell) b c → Puts (AreSpaced (cells ++ cell ∷ [])) a c
spaced-then cells cell a b c h k = (
  h.0 ++ k.0,
  (
    h.1.0 ++ k.1.0 ∷ [],
    omega (arith, length_push h.1.0 k.1.0, length_push cells cell, h.1.1),
    (λ i. h.1.2 i ++ k.1.1 i) ∙ sym (spaced-push h.1.0 cells k.1.0 cell h.1.1),
  ),
  k.2 ∙ ap (λ l. l ++ k.0) h.2 ∙ append_assoc a h.0 k.0,
)

-- an empty cell after no space
pub nothing-spaced : (cell text : List ℕ) → cell ≡ [] → Puts (IsSpaced cell) text text
nothing-spaced cell text e = ([], (0, sym e), sym (append-nil text))

-- a cell after spaces
pub cell-spaced : (gap : ℕ) (cell a b c : List ℕ) → b ≡ a ++ replicate gap 32 → c ≡ b ++ cell → Puts (IsSpaced cell) a c
cell-spaced gap cell a b c spaces put = (replicate gap 32 ++ cell, (gap, refl), put ∙ ap (λ l. l ++ cell) spaces ∙ append_assoc a (replicate gap 32) cell)

both_lined_up : (lines : List Line) (texts : List (List ℕ)) (line : Line) (text : List ℕ) → AllZip IsTextOf lines texts → IsTextOf line text
    → AllZip IsTextOf (lines ++ line ∷ []) (texts ++ text ∷ [])
both_lined_up [] [] line text h k = (k, tt)
both_lined_up [] (t ∷ texts) line text h k = absurd h
both_lined_up (l ∷ lines) [] line text h k = absurd h
both_lined_up (l ∷ lines) (t ∷ texts) line text h k = (h.0, both_lined_up lines texts line text h.1 k)

joined-push : (texts : List (List ℕ)) (text : List ℕ) → flat_map (λ line. line) (texts ++ text ∷ []) ≡ flat_map (λ line. line) texts ++ text
joined-push [] text = append-nil text
joined-push (t ∷ texts) text = ap (λ l. t ++ l) (joined-push texts text) ∙ sym (append_assoc t (flat_map (λ line. line) texts) text)

-- a line after others
pub lined-up-then : (lines : List Line) (line : Line) (b c : List ℕ) → AreLinedUp lines b → Puts (IsTextOf line) b c → AreLinedUp (lines ++ line ∷ []) c
lined-up-then lines line b c h k = (
  h.0 ++ k.0 ∷ [],
  both_lined_up lines h.0 line k.0 h.1 k.1,
  k.2 ∙ ap (λ l. l ++ k.0) h.2 ∙ sym (joined-push h.0 k.0),
)

-- a line whose colour begins, whose cells stand there, whose colour ends, and that ends
pub line-put : (line : Line) (a b c d e : List ℕ) → b ≡ a ++ begin_of line.colour → Puts (AreSpaced (texts_of line)) b c → d ≡ c ++ end_of line.colour → e ≡ d ++ 10 ∷ []
    → Puts (IsTextOf line) a e
line-put line a b c d e begins cells ends fed =
    let first = begin_of line.colour in
    let last = end_of line.colour in
    let feed : List ℕ = 10 ∷ [] in (
      first ++ (cells.0 ++ (last ++ feed)),
      (cells.0, cells.1, refl),
      fed ∙ ap (λ l. l ++ feed) ends ∙ append_assoc c last feed ∙ ap (λ l. l ++ (last ++ feed)) cells.2 ∙ append_assoc b cells.0 (last ++ feed) ∙ ap (λ l. l ++ (cells.0 ++ (last ++ feed))) begins ∙ append_assoc a first (cells.0 ++ (last ++ feed)),
    )
