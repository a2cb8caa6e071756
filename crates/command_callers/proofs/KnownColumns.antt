-- The columns of two headers that are known, under a key that is known.
use Rattle.std.proofs.Common.{◌≡◌, ℕ, List, [], ◌∷◌, subst}
use Rattle.std.specs.Prelude.{codes}
use Rattle.keyed_columns.specs.ColumnNames.{AreColumns}
use Rattle.keyed_columns.specs.declared.columns.Columns.{Columns}

-- the headers `id,a` and `id,b`
abbrev pub id_a_b : List (List (List ℕ))
id_a_b = (codes "id" ∷ codes "a" ∷ []) ∷ (codes "id" ∷ codes "b" ∷ []) ∷ []

pub columns_by : {key key2 first first2 next next2 : List (List ℕ)} (columns : Columns) → key ≡ key2 → first ≡ first2 → next ≡ next2
    → AreColumns key (first ∷ next ∷ []) columns → AreColumns key2 (first2 ∷ next2 ∷ []) columns
columns_by {key2 = key2} {first = first} {first2 = first2} {next = next} columns k f n are =
    subst (λ next. AreColumns key2 (first2 ∷ next ∷ []) columns) n (subst (λ first. AreColumns key2 (first ∷ next ∷ []) columns) f
    (subst (λ key. AreColumns key (first ∷ next ∷ []) columns) k are))
