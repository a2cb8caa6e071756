-- Texts of which some columns alone are compared, and what gives the name of one.
use Rattle.std.proofs.Common.{◌≡◌, ◌∙◌, ◌++◌, ℕ, List, [], ◌∷◌, ap, ap₂, arith, map, refl, subst, sym, ⊎_elim}
use Rattle.std.specs.Prelude.{◌==◌, None, codes}
use Rattle.std.specs.List.{AllZip}
use Rattle.csv.proofs.OnLiterals.{csv_on_literals}
use Rattle.csv.specs.Reading.{Reached}
use Rattle.csv.specs.declared.parser.State.TheVariants as st
use Rattle.eob_joins.proofs.TableLemmas.{by_test}
use Rattle.keyed_text.specs.Texts.{AreRows}
use Rattle.keyed_text.proofs.TextLemmas.{rows-once}
use Rattle.keyed_columns.specs.KeyText.{AreNamesIn, GivesNames, doubled}

abbrev pub id_b_a : List (List ℕ)
id_b_a = codes "id" ∷ codes "b" ∷ codes "a" ∷ []

abbrev pub one_u_x : List (List ℕ)
one_u_x = codes "1" ∷ codes "u" ∷ codes "x" ∷ []

abbrev pub one_v_y : List (List ℕ)
one_v_y = codes "1" ∷ codes "v" ∷ codes "y" ∷ []

pub with_u_x : AreRows 44 None (codes "id,b,a\n1,u,x\n") (id_b_a ∷ one_u_x ∷ [])
unfolding csv_on_literals Reached
with_u_x = (st.StartRecord, [], (_, refl, refl, (_, refl, refl, (refl, refl))), refl)

pub with_v_y : AreRows 44 None (codes "id,b,a\n1,v,y\n") (id_b_a ∷ one_v_y ∷ [])
unfolding csv_on_literals Reached
with_v_y = (st.StartRecord, [], (_, refl, refl, (_, refl, refl, (refl, refl))), refl)

-- the text that names one column, `a`
with_a : AreRows 44 None (codes "a") ((codes "a" ∷ []) ∷ [])
unfolding csv_on_literals Reached
with_a = (_, [], (_, refl, refl, (refl, refl)), refl)

same_head : {A : Type 0} (x y : A) (xs ys : List A) → x ∷ xs ≡ y ∷ ys → x ≡ y
same_head x y xs ys e = cc

same_tail : {A : Type 0} (x y : A) (xs ys : List A) → x ∷ xs ≡ y ∷ ys → xs ≡ ys
same_tail x y xs ys e = cc

no_byte : (name : List ℕ) → [] ≡ doubled name → name ≡ []
unfolding doubled
no_byte [] e = refl
no_byte (byte ∷ name) e = by_test (byte == 61) (λ t. absurd (let f = rw t at e in cc)) (λ t. absurd (let f = rw t at e in cc))

some_byte : (name rest : List ℕ) (byte : ℕ) → [] ≡ doubled name ++ (byte ∷ rest) → ⊥
unfolding doubled
some_byte [] rest byte e = cc
some_byte (first ∷ name) rest byte e = by_test (first == 61) (λ t. let f = rw t at e in cc) (λ t. let f = rw t at e in cc)

one_byte : (name : List ℕ) → codes "a" ≡ doubled name → name ≡ codes "a"
unfolding doubled
one_byte [] e = absurd (cc)
one_byte (byte ∷ name) e =
    by_test (byte == 61)
    (λ t. let f : codes "a" ≡ 61 ∷ (61 ∷ doubled name) = rw t at e in absurd (let g = same_head 97 61 _ _ f in omega arith))
    (λ t. let f : codes "a" ≡ byte ∷ doubled name = rw t at e in ap₂ (λ b l. b ∷ l) (sym (same_head 97 byte _ _ f)) (no_byte name (same_tail 97 byte _ _ f)))

two_names : (name other : List ℕ) → codes "a" ≡ doubled name ++ (61 ∷ other) → ⊥
unfolding doubled
two_names [] other e = let g = same_head 97 61 _ _ e in omega arith
two_names (byte ∷ name) other e =
    by_test (byte == 61)
    (λ t. let f : codes "a" ≡ 61 ∷ (61 ∷ (doubled name ++ (61 ∷ other))) = rw t at e in let g = same_head 97 61 _ _ f in omega arith)
    (λ t. let f : codes "a" ≡ byte ∷ (doubled name ++ (61 ∷ other)) = rw t at e in some_byte name other 61 (same_tail 97 byte _ _ f))

gives_a : (names : List (List ℕ × List ℕ)) → AllZip GivesNames (codes "a" ∷ []) names → map (λ two. two.0) names ≡ codes "a" ∷ []
gives_a [] h = absurd h
gives_a (two ∷ []) h = ap (λ name. name ∷ []) (⊎_elim (λ g. one_byte two.0 g.0) (λ g. absurd (two_names two.0 (doubled two.1) g.0)) h.0)
gives_a (two ∷ next ∷ names) h = absurd h.1

pub only-a : (first others : List (List ℕ)) → AreNamesIn (codes "a") first others → first ≡ codes "a" ∷ []
only-a first others h =
    let cells : h.0 ≡ codes "a" ∷ [] = same_head _ _ _ _ (rows-once 44 None (codes "a") (h.0 ∷ []) ((codes "a" ∷ []) ∷ []) h.1 with_a) in
    h.2.given.are_first ∙ gives_a h.2.given.names (subst (λ l. AllZip GivesNames l h.2.given.names) cells h.2.given.given)
