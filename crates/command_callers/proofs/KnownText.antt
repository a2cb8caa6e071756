-- A text that is known when the program is written, and its rows.
use Rattle.std.proofs.Common.{◌≡◌, ℕ, List, [], ◌∷◌, ◌++◌, map, refl, sym, append_assoc}
use Rattle.std.proofs.lemmas.List.{map-append}
use Rattle.std.specs.Prelude.{IfSome, None, Option, Some}
use Rattle.csv.proofs.OnLiterals.{csv_on_literals}
use Rattle.csv.specs.Reading.{Reached}
use Rattle.csv.specs.declared.parser.State.TheVariants as st
use Rattle.keyed_text.specs.Texts.{AreRows}

abbrev pub text : List ℕ
text = 105 ∷ 100 ∷ 59 ∷ 110 ∷ 97 ∷ 109 ∷ 101 ∷ 10 ∷ 50 ∷ 59 ∷ 34 ∷ 97 ∷ 59 ∷ 98 ∷ 34 ∷ 10 ∷ []

abbrev pub rows : List (List (List ℕ))
rows = ((105 ∷ 100 ∷ []) ∷ (110 ∷ 97 ∷ 109 ∷ 101 ∷ []) ∷ []) ∷ ((50 ∷ []) ∷ (97 ∷ 59 ∷ 98 ∷ []) ∷ []) ∷ []

pub known : AreRows 59 None text rows
unfolding csv_on_literals Reached
known = (st.StartRecord, [], (_, refl, refl, (_, refl, refl, (refl, refl))), refl)

-- rows that were read, and one more
pub rows-and : {A B : Type 0} (f : A → B) (before : List B) (xs : List A) (x : A) → before ++ map f (xs ++ (x ∷ [])) ≡ (before ++ map f xs) ++ (f x ∷ [])
rows-and f before xs x = rw (map-append f xs (x ∷ [])) (sym (append_assoc before (map f xs) (f x ∷ [])))

-- what follows of a known text
pub if-some : {P Q : List ℕ → Type 0} (known : Option (List ℕ)) → ((text : List ℕ) → P text → Q text) → IfSome known P → IfSome known Q
if-some None f h = tt
if-some (Some text) f h = f text h
