-- Rows that are written in parts, each as a text of its own: they are the text of all of them, where only the first can have a byte order
-- mark.
use Rattle.std.proofs.Common.{◌≡◌, ◌∙◌, ◌++◌, ◌+◌, ◌==◌, ℕ, Bool, true, false, List, [], ◌∷◌, length, take, drop, flat_map, Option, Some, append_assoc, arith, ap, ap₂, refl, subst, sym}
use Rattle.std.proofs.lemmas.Iterator.Adapters.{position_from-zero}
use Rattle.std.specs.Prelude.{◌||◌, if◌then◌else◌, unwrap_or}
use Rattle.std.specs.List.{AllByRecursion, position_from}
use Rattle.csv.specs.Writing.{is_blank, row_body, row_text}
use Rattle.eob_joins.proofs.TableLemmas.{by_test}
use Rattle.keyed_faults.specs.Encodings.{is_marked}
use Rattle.keyed_files.specs.JoinedRows.{join_heading}
use Rattle.keyed_files.specs.Writing.{end_of_cell, ends_cell, quoted, quoted_first}
use Rattle.keyed_text.specs.Texts.{rows_text, writer_by}
use Rattle.command_callers.proofs.KeptOnce.{same_rest}

front : (xs ys : List ℕ) → take (length xs) (xs ++ ys) ≡ xs
front [] ys = refl
front (x ∷ xs) ys = ap (λ l. x ∷ l) (front xs ys)

rest : (xs ys : List ℕ) → drop (length xs) (xs ++ ys) ≡ ys
rest [] ys = refl
rest (x ∷ xs) ys = rest xs ys

-- a text with an LF: the bytes before the first one that passes a test which LF passes, and those after
module _ (t : ℕ → Bool) (ends : t 10 ≡ true) where
  abbrev before : List ℕ → List ℕ
  before [] = []
  before (a ∷ u) = if t a then [] else a ∷ before u

  abbrev behind : (u v : List ℕ) → List ℕ
  behind [] v = 10 ∷ v
  behind (a ∷ u) v = if t a then a ∷ (u ++ 10 ∷ v) else behind u v

  parted : (u v : List ℕ) → u ++ 10 ∷ v ≡ before u ++ behind u v
  parted [] v = refl
  parted (a ∷ u) v = by_test (t a) (λ e. rw e refl) (λ e. rw e (ap (λ l. a ∷ l) (parted u v)))

  found : (i : ℕ) (u v : List ℕ) → position_from t i (u ++ 10 ∷ v) ≡ Some (i + length (before u))
  found i [] v = rw ends (ap Some (omega arith))
  found i (a ∷ u) v = by_test (t a) (λ e. rw e (ap Some (omega arith))) (λ e. rw e (found (i + 1) u v ∙ ap Some (omega arith)))

  behind_more : (u v z : List ℕ) → behind u (v ++ z) ≡ behind u v ++ z
  behind_more [] v z = refl
  behind_more (a ∷ u) v z = by_test (t a) (λ e. rw e (ap (λ l. a ∷ l) (sym (append_assoc u (10 ∷ v) z)))) (λ e. rw e (behind_more u v z))

or_true : (b : Bool) → b || true ≡ true
or_true true = refl
or_true false = refl

module _ (d : ℕ) where
  line_ends : ends_cell d 10 ≡ true
  line_ends = or_true ((10 == d) || (10 == 13))

  abbrev first_cell : List ℕ → List ℕ
  first_cell u = before (ends_cell d) line_ends u

  abbrev other_bytes : (u v : List ℕ) → List ℕ
  other_bytes u v = behind (ends_cell d) line_ends u v

  end_is : (u v : List ℕ) → end_of_cell d (u ++ 10 ∷ v) ≡ length (first_cell u)
  end_is u v =
      let none : 0 + length (first_cell u) ≡ length (first_cell u) = omega arith in
      ap (λ m. unwrap_or m (length (u ++ 10 ∷ v))) (position_from-zero (ends_cell d) (u ++ 10 ∷ v) ∙ found (ends_cell d) line_ends 0 u v ∙ ap Some none)

  quoted_is : (u v : List ℕ) → quoted d (u ++ 10 ∷ v) ≡ (34 ∷ first_cell u) ++ (34 ∷ other_bytes u v)
  quoted_is u v =
      ap (λ n. (34 ∷ take n (u ++ 10 ∷ v)) ++ (34 ∷ drop n (u ++ 10 ∷ v))) (end_is u v)
      ∙ ap (λ l. (34 ∷ take (length (first_cell u)) l) ++ (34 ∷ drop (length (first_cell u)) l)) (parted (ends_cell d) line_ends u v)
      ∙ ap₂ (λ x y. (34 ∷ x) ++ (34 ∷ y)) (front (first_cell u) (other_bytes u v)) (rest (first_cell u) (other_bytes u v))

  quoted_more : (u v z : List ℕ) → quoted d (u ++ 10 ∷ (v ++ z)) ≡ quoted d (u ++ 10 ∷ v) ++ z
  quoted_more u v z =
      quoted_is u (v ++ z) ∙ ap (λ l. (34 ∷ first_cell u) ++ (34 ∷ l)) (behind_more (ends_cell d) line_ends u v z)
      ∙ sym (append_assoc (34 ∷ first_cell u) (34 ∷ other_bytes u v) z) ∙ ap (λ l. l ++ z) (sym (quoted_is u v))

-- whether a text with an LF is marked is seen before its LF
marks_alike : (u v w : List ℕ) → is_marked (u ++ 10 ∷ v) ≡ is_marked (u ++ 10 ∷ w)
marks_alike [] v w = refl
marks_alike (a ∷ []) v w = refl
marks_alike (a ∷ b ∷ []) v w = refl
marks_alike (a ∷ b ∷ c ∷ []) v w = refl
marks_alike (a ∷ b ∷ c ∷ e ∷ u) v w = refl

module _ (d : ℕ) where
  first_more : (u v z : List ℕ) → quoted_first d (u ++ 10 ∷ (v ++ z)) ≡ quoted_first d (u ++ 10 ∷ v) ++ z
  first_more u v z =
      let choose : Bool → List ℕ → List ℕ = λ b text. if b then quoted d text else text in
      by_test (is_marked (u ++ 10 ∷ v))
      (λ e.
      ap (λ b. choose b (u ++ 10 ∷ (v ++ z))) (marks_alike u (v ++ z) v ∙ e) ∙ quoted_more d u v z
      ∙ ap (λ b. choose b (u ++ 10 ∷ v) ++ z) (sym e))
      (λ e.
      ap (λ b. choose b (u ++ 10 ∷ (v ++ z))) (marks_alike u (v ++ z) v ∙ e) ∙ sym (append_assoc u (10 ∷ v) z)
      ∙ ap (λ b. choose b (u ++ 10 ∷ v) ++ z) (sym e))

  module _ (c : Option ℕ) where
    abbrev text : List (List (List ℕ)) → List ℕ
    text rows = rows_text d c rows

    abbrev pub given : List (List (List ℕ)) → List ℕ
    given rows = quoted_first d (rows_text d c rows)

    -- a row that is written as it stands, whatever comes after it
    abbrev pub IsUnmarked : List (List ℕ) → Type 0
    IsUnmarked row = (more : List ℕ) → is_marked (row_text (writer_by d c) row ++ more) ≡ false

    text_more : (xs ys : List (List (List ℕ))) → text (xs ++ ys) ≡ text xs ++ text ys
    text_more [] ys = refl
    text_more (row ∷ xs) ys = ap (λ l. row_text (writer_by d c) row ++ l) (text_more xs ys) ∙ sym (append_assoc (row_text (writer_by d c) row) (text xs) (text ys))

    those_behind : (xs ys : List (List (List ℕ))) → AllByRecursion IsUnmarked (xs ++ ys) → AllByRecursion IsUnmarked ys
    those_behind [] ys h = h
    those_behind (x ∷ xs) ys h = those_behind xs ys h.1

    plain_parts : (parts : List (List (List (List ℕ)))) → AllByRecursion IsUnmarked (flat_map (λ part. part) parts)
        → flat_map (λ part. given part) parts ≡ text (flat_map (λ part. part) parts)
    plain_parts [] h = refl
    plain_parts ([] ∷ parts) h = plain_parts parts h
    plain_parts ((row ∷ rows) ∷ parts) h =
        ap (λ b. (if b then quoted d (text (row ∷ rows)) else text (row ∷ rows)) ++ flat_map (λ part. given part) parts) (h.0 (text rows))
        ∙ ap (λ l. text (row ∷ rows) ++ l) (plain_parts parts (those_behind rows (flat_map (λ part. part) parts) h.1))
        ∙ sym (text_more (row ∷ rows) (flat_map (λ part. part) parts))

    plain_whole : (rows : List (List (List ℕ))) → AllByRecursion IsUnmarked rows → text rows ≡ given rows
    plain_whole [] h = refl
    plain_whole (row ∷ rows) h = ap (λ b. if b then quoted d (text (row ∷ rows)) else text (row ∷ rows)) (sym (h.0 (text rows)))

    -- a row ends with an LF
    abbrev row_bytes : List (List ℕ) → List ℕ
    row_bytes row = row_text (writer_by d c) row

    abbrev line : List (List ℕ) → List ℕ
    line row = row_body (writer_by d c) row ++ (if is_blank (writer_by d c) row then 34 ∷ 34 ∷ [] else [])

    has_line : (row : List (List ℕ)) (z : List ℕ) → row_bytes row ++ z ≡ line row ++ 10 ∷ z
    has_line row z =
        let blank : List ℕ = if is_blank (writer_by d c) row then 34 ∷ 34 ∷ [] else [] in
        let cells = row_body (writer_by d c) row in
        append_assoc cells (blank ++ 10 ∷ []) z ∙ ap (λ l. cells ++ l) (append_assoc blank (10 ∷ []) z) ∙ sym (append_assoc cells blank (10 ∷ z))

    one_first : (row : List (List ℕ)) (rows : List (List (List ℕ))) (z : List ℕ) → given (row ∷ rows) ++ z ≡ quoted_first d (text (row ∷ rows) ++ z)
    one_first row rows z =
        ap (λ l. quoted_first d l ++ z) (has_line row (text rows)) ∙ sym (first_more (line row) (text rows) z)
        ∙ ap (quoted_first d) (sym (append_assoc (row_bytes row) (text rows) z ∙ has_line row (text rows ++ z)))

    headed_parts : (parts : List (List (List (List ℕ)))) (row : List (List ℕ)) (rows : List (List (List ℕ))) → flat_map (λ part. part) parts ≡ row ∷ rows
        → AllByRecursion IsUnmarked rows → flat_map (λ part. given part) parts ≡ given (row ∷ rows)
    headed_parts [] row rows e h = absurd (cc)
    headed_parts ([] ∷ parts) row rows e h = headed_parts parts row rows e h
    headed_parts ((first ∷ more) ∷ parts) row rows e h =
        let others = flat_map (λ part. part) parts in
        let after : more ++ others ≡ rows = same_rest first row (more ++ others) rows e in
        ap (λ l. given (first ∷ more) ++ l) (plain_parts parts (those_behind more others (subst (AllByRecursion IsUnmarked) (sym after) h)))
        ∙ one_first first more (text others) ∙ ap (quoted_first d) (sym (text_more (first ∷ more) others)) ∙ ap (λ l. given l) e

    -- the texts of parts of rows under a header, if there is one
    pub written_parts : (names : List (List ℕ)) (rows : List (List (List ℕ))) (parts : List (List (List (List ℕ)))) → flat_map (λ part. part) parts ≡ join_heading names ++ rows
        → AllByRecursion IsUnmarked rows → flat_map (λ part. given part) parts ≡ given (join_heading names ++ rows)
    written_parts [] rows parts e h = plain_parts parts (subst (AllByRecursion IsUnmarked) (sym e) h) ∙ ap (λ l. text l) e ∙ plain_whole rows h
    written_parts (name ∷ names) rows parts e h = headed_parts parts (name ∷ names) rows e h
