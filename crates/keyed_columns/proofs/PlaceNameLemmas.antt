-- The columns of a key by their places.
use Rattle.std.proofs.Common.{◌≡◌, ◌∙◌, ℕ, List, [], ◌∷◌, ap, length, map, refl, subst}
use Rattle.std.specs.Prelude.{filter}
use Rattle.keyed_columns.specs.ColumnNames.{is_beside}
use Rattle.keyed_columns.specs.Headers.{numbered_names}
use Rattle.keyed_columns.specs.Keys.{by_place, name_by}

-- all names are beside no key
all-beside : (names : List (List ℕ)) → filter (is_beside []) names ≡ names
all-beside [] = refl
all-beside (name ∷ names) = ap (λ rest. name ∷ rest) (all-beside names)

-- names that are looked for among all columns and their numbers
pub at-places : (numbers columns rest all key given names : List (List ℕ)) → numbers ≡ numbered_names (length rest) → columns ≡ rest → key ≡ [] → rest ≡ filter (is_beside key) all
    → names ≡ map (name_by numbers columns) given → names ≡ map (by_place all) given
at-places numbers columns rest all key given names n c k r e =
    let whole : rest ≡ all = subst (λ none. rest ≡ filter (is_beside none) all) k r ∙ all-beside all in
    e ∙ ap (λ ns. map (name_by ns columns) given) n ∙ ap (λ cs. map (name_by (numbered_names (length rest)) cs) given) c
    ∙ ap (λ cs. map (name_by (numbered_names (length cs)) cs) given) whole
