-- The rows of one more change.
use Rattle.std.proofs.Common.{◌≡◌, ◌∷◌, ℕ, List, subst, sym}
use Rattle.std.specs.List.{flat_map}
use Rattle.keyed_files.specs.declared.written.Written.{Written}
use Rattle.keyed_files.specs.Writing.{PutsRows}
use Rattle.keyed_files.proofs.WritingLemmas.{then-rows}

pub change-then : {A : Type 0} (f : A → List (List (List ℕ))) (a b e : Written) (left rest : List A) (x : A)
    → left ≡ x ∷ rest → PutsRows a b (f x) → PutsRows b e (flat_map f rest) → PutsRows a e (flat_map f left)
change-then {A} f a b e left rest x is g h =
    let P : List A → Type 0 = λ xs. PutsRows a e (flat_map f xs) in subst P (sym is) (then-rows a b e (f x) (flat_map f rest) g h)
