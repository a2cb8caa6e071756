-- The names of the columns of a join: told apart, and each once.
use Rattle.std.proofs.Common.{◌≡◌, ◌∙◌, ◌+◌, ℕ, Bool, true, false, List, [], ◌∷◌, ◌++◌, ap, ap₂, append_assoc, drop, map, nat_eq, refl, sym}
use Rattle.std.specs.Prelude.{◌||◌, not, if◌then◌else◌}
use Rattle.std.specs.Cmp.Lexicographic.{pointwise}
use Rattle.std.proofs.lemmas.List.{append-nil}
use Rattle.indexmap.specs.IndexSet.{insert_all}
use Rattle.keyed_columns.specs.ColumnNames.{has_name}
use Rattle.keyed_columns.specs.JoinedNames.{told_apart}
use Rattle.keyed_columns.specs.Names.{repeats}
use Rattle.keyed_columns.specs.Placed.{cell_placed, placed, rest_behind}
use Rattle.keyed_columns.specs.declared.columns.Place.{Place}
use Rattle.keyed_columns.proofs.NameLemmas.{all_names}
use Rattle.keyed_columns.proofs.PlacedLemmas.{placed-next, placed-none}

-- names are told apart by those of the other table however often these stand there
pub told-once : (word : List ℕ) (others names : List (List ℕ)) → map (told_apart word (insert_all (pointwise nat_eq) [] others)) names ≡ map (told_apart word others) names
told-once word others [] = refl
told-once word others (name ∷ names) = ap₂ (λ y ys. y ∷ ys) (ap (λ b. if b then word ++ name else name) (all_names name others)) (told-once word others names)

or_assoc : (a b c : Bool) → (a || (b || c)) ≡ ((a || b) || c)
or_assoc true b c = refl
or_assoc false b c = refl

or_false : (a : Bool) → (a || false) ≡ a
or_false true = refl
or_false false = refl

-- a last name repeats one of those before it, or they repeat one already
pub repeats-last : (before names : List (List ℕ)) (name : List ℕ) → repeats before (names ++ name ∷ []) ≡ (repeats before names || has_name (before ++ names) name)
unfolding repeats
repeats-last before [] name = or_false (has_name before name) ∙ ap (λ xs. has_name xs name) (sym (append-nil before))
repeats-last before (first ∷ names) name =
    ap (λ b. has_name before first || b) (repeats-last (before ++ first ∷ []) names name ∙ ap (λ xs. repeats (before ++ first ∷ []) names || has_name xs name) (append_assoc before (first ∷ []) names))
    ∙ or_assoc (has_name before first) (repeats (before ++ first ∷ []) names) (has_name (before ++ (first ∷ names)) name)

pub none-twice : repeats [] [] ≡ false
unfolding repeats
none-twice = refl

not-true : (b : Bool) → not b ≡ true → b ≡ false
not-true true e = absurd (cc e)
not-true false e = refl

-- a name that is new is put after names of which no two are the same
pub once-more : (there : List (List ℕ)) (name : List ℕ) → repeats [] there ≡ false → not (has_name there name) ≡ true → repeats [] (there ++ name ∷ []) ≡ false
once-more there name once new = repeats-last [] there name ∙ ap₂ (λ a b. a || b) once (not-true (has_name there name) new)

-- names are told apart by those that are found at once
pub told-by : (word : List ℕ) (others found names : List (List ℕ)) → found ≡ insert_all (pointwise nat_eq) [] others → map (told_apart word found) names ≡ map (told_apart word others) names
told-by word others found names is = ap (λ f. map (told_apart word f) names) is ∙ told-once word others names

-- the name of one more column
pub name-then : (done new all key keys rest next : List (List ℕ)) (order : List Place) (i : ℕ) (place : Place) (name : List ℕ)
    → drop i order ≡ place ∷ drop (i + 1) order → keys ≡ key → name ≡ cell_placed place keys rest → next ≡ rest_behind place rest → new ≡ done ++ name ∷ []
    → done ++ placed (drop i order) key rest ≡ all → new ++ placed (drop (i + 1) order) key next ≡ all
name-then done new all key keys rest next order i place name at same is behind pushed so =
    let more = drop (i + 1) order in
    let here : placed (drop i order) key rest ≡ name ∷ placed more key next =
    ap (λ left. placed left key rest) at ∙ placed-next place more key rest
    ∙ ap (λ c. c ∷ placed more key (rest_behind place rest)) (ap (λ k. cell_placed place k rest) (sym same) ∙ sym is)
    ∙ ap (λ r. name ∷ placed more key r) (sym behind) in
    ap (λ l. l ++ placed more key next) pushed ∙ append_assoc done (name ∷ []) (placed more key next) ∙ ap (λ l. done ++ l) (sym here) ∙ so

-- no column is left
pub names-end : (done all key rest : List (List ℕ)) (order : List Place) (i : ℕ) → drop i order ≡ [] → done ++ placed (drop i order) key rest ≡ all → done ≡ all
names-end done all key rest order i at so =
    sym (append-nil done) ∙ ap (λ l. done ++ l) (sym (ap (λ left. placed left key rest) at ∙ placed-none key rest)) ∙ so

-- no name is left
pub none-left-of : (done left all : List (List ℕ)) → left ≡ [] → done ++ left ≡ all → done ≡ all
none-left-of done left all none so = sym (append-nil done) ∙ ap (λ l. done ++ l) (sym none) ∙ so
