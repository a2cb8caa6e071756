-- A key of a column that a known header lacks.
use Rattle.std.proofs.Common.{◌≡◌, ◌∙◌, ℕ, Bool, true, false, List, [], ◌∷◌, ap₂, inl, inr, nat_eq, refl, subst, sym}
use Rattle.std.proofs.lemmas.Fmt.{decimal_digit}
use lib.Dec.{lit<}
use Rattle.std.specs.Prelude.{◌&&◌, ◌||◌, Err, IsErr, Ok, OnOk, Result, not}
use Rattle.std.specs.Cmp.Lexicographic.{bytes_decides, pointwise}
use Rattle.std.specs.List.{list_all}
use Rattle.keyed_faults.specs.declared.fault.Reason.{Reason}
use Rattle.keyed_faults.specs.declared.fault.Reason.TheVariants as reason
use Rattle.keyed_columns.specs.ColumnNames.{has_name}
use Rattle.keyed_columns.specs.Headers.{numbered_names}
use Rattle.keyed_columns.specs.KeyColumns.{ExplainsKey, ExplainsName, is_one_column}
use Rattle.keyed_columns.specs.Repeated.{stands_twice}
use Rattle.command_callers.specs.Keys.{NamesColumn}

-- the names of two columns that have no header
two-names : numbered_names 2 ≡ (49 ∷ []) ∷ (50 ∷ []) ∷ []
two-names = ap₂ (λ one two. one ∷ two ∷ []) (decimal_digit 1 (lit< tt)) (decimal_digit 2 (lit< tt))

clash : (a b : Bool) → ((not a && not (b || true)) && true) ≡ true → ⊥
clash true true h = absurd (cc h)
clash true false h = absurd (cc h)
clash false true h = absurd (cc h)
clash false false h = absurd (cc h)

pub err-if-not : {T E P : Type 0} (result : Result T E) → OnOk result P → (P → ⊥) → IsErr result
err-if-not (Ok value) holds never = absurd (never holds)
err-if-not (Err error) holds never = refl

-- a key of a third column is not one of two
pub no-third : (spelled names gone key : List (List ℕ)) → names ≡ numbered_names 2 → key ≡ (51 ∷ []) ∷ [] → list_all (is_one_column spelled names gone) key ≡ true → ⊥
no-third spelled names gone key is key_is h =
    clash (stands_twice spelled (51 ∷ [])) (has_name gone (51 ∷ [])) (subst (λ n. list_all (is_one_column spelled n gone) ((51 ∷ []) ∷ []) ≡ true) (is ∙ two-names)
    (subst (λ k. list_all (is_one_column spelled names gone) k ≡ true) key_is h))

pub names-it : (spelled names gone : List (List ℕ)) (name : List ℕ) (told : Reason) → ExplainsName spelled names gone name told → NamesColumn name told
names-it spelled names gone name (reason.RepeatedColumn line told) why = why.0
names-it spelled names gone name (reason.NoColumn line told there) why = why.0
names-it spelled names gone name reason.NoMemory why = tt
names-it spelled names gone name _ why = absurd why

or_false : (b : Bool) → (b || false) ≡ true → b ≡ true
or_false true e = e
or_false false e = e

-- what is told of a key of one column names this one
pub tells-it : (spelled names gone key : List (List ℕ)) (only : List ℕ) (told : Reason) → key ≡ only ∷ [] → ExplainsKey spelled names gone key told → NamesColumn only told
tells-it spelled names gone key only told is (inl memory) = subst (NamesColumn only) (sym memory) tt
tells-it spelled names gone key only told is (inr why) =
    let same : pointwise nat_eq why.0 only ≡ true = or_false (pointwise nat_eq why.0 only) (subst (λ k. has_name k why.0 ≡ true) is why.1) in
    subst (λ name. NamesColumn name told) ((bytes_decides why.0 only).0 same) (names-it spelled names gone why.0 told why.2)
