-- A list whose keys strictly increase, inserted pair by pair: the entries are the list.
use Rattle.std.proofs.Common.{◌≡◌, ◌∙◌, List, [], ◌∷◌, ◌++◌, Option, append_assoc, append-nil, refl, sym, ap, ap₂, subst}
use Rattle.std.specs.Prelude.{⊤}
use Rattle.std.specs.BTreeMap.{insert_entry}
use Rattle.std.specs.Cmp.{IsTotalOrder}
use Rattle.std.specs.Ordering.{ordering_reverse}
use Rattle.std.specs.declared.cmp.Ordering.{Ordering}
use Rattle.std.specs.declared.cmp.Ordering.TheVariants.{Less, Greater}
use Rattle.eob_lists.specs.Join.{Rising, value_under}
use Rattle.eob_lists.proofs.MergeLemmas.{Up, up}

module _ {K : Type 0} (cmp : K → K → Ordering) where
  -- es, with each pair of xs inserted in turn
  abbrev pub put_all : {V : Type 0} → List (K × V) → List (K × V) → List (K × V)
  put_all es [] = es
  put_all es (x ∷ xs) = put_all (insert_entry cmp es x.0 x.1) xs

  pub put_all-push : {V : Type 0} (es xs : List (K × V)) (x : K × V) → put_all es (xs ++ x ∷ []) ≡ insert_entry cmp (put_all es xs) x.0 x.1
  put_all-push es [] x = refl
  put_all-push es (y ∷ ys) x = put_all-push (insert_entry cmp es y.0 y.1) ys x

  greater : IsTotalOrder cmp → (j k : K) → cmp j k ≡ Less → cmp k j ≡ Greater
  greater o j k l = o.antisymm k j ∙ ap ordering_reverse l

  module _ (o : IsTotalOrder cmp) {V : Type 0} where
    below : (k : K) (es : List (K × V)) (x : K × V) (xs : List (K × V)) → Up cmp (λ j. cmp k j ≡ Less) (es ++ x ∷ xs) → cmp k x.0 ≡ Less
    below k [] x xs h = h.0
    below k (e ∷ es) x xs h = o.trans k e.0 x.0 h.0 (below e.0 es x xs h.1)

    put_last : (P : K → Type 0) (es : List (K × V)) (x : K × V) (xs : List (K × V)) → Up cmp P (es ++ x ∷ xs) → insert_entry cmp es x.0 x.1 ≡ es ++ x ∷ []
    put_last P [] x xs h = refl
    put_last P (e ∷ es) x xs h = rw (greater o e.0 x.0 (below e.0 es x xs h.1)) (ap (λ l. e ∷ l) (put_last (λ k. cmp e.0 k ≡ Less) es x xs h.1))

    put_rest : (es xs : List (K × V)) → Up cmp (λ k. ⊤) (es ++ xs) → put_all es xs ≡ es ++ xs
    put_rest es [] h = sym (append-nil es)
    put_rest es (x ∷ xs) h =
        ap (λ l. put_all l xs) (put_last (λ k. ⊤) es x xs h)
        ∙ put_rest (es ++ x ∷ []) xs (subst (Up cmp (λ k. ⊤)) (sym (append_assoc es (x ∷ []) xs)) h)
        ∙ append_assoc es (x ∷ []) xs

    pub put_rising : (xs : List (K × V)) → Rising cmp xs → put_all [] xs ≡ xs
    put_rising xs h = put_rest [] xs (up cmp xs h)

  -- what rows of two lists have under each key, said of maps with these entries
  pub by_get : {A B V : Type 0} (f : Option A → Option B → Option V) {p es : List (K × A)} {q fs : List (K × B)} {rows ms : List (K × V)}
      → p ≡ es → q ≡ fs → ms ≡ rows → ((k : K) → value_under cmp rows k ≡ f (value_under cmp p k) (value_under cmp q k))
      → (k : K) → value_under cmp ms k ≡ f (value_under cmp es k) (value_under cmp fs k)
  by_get f left right map h k =
      ap (λ l. value_under cmp l k) map ∙ h k ∙ ap₂ f (ap (λ l. value_under cmp l k) left) (ap (λ l. value_under cmp l k) right)
