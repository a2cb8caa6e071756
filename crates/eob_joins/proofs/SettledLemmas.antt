-- What a merge with a rule has under each key.
use Rattle.std.proofs.Common.{◌≡◌, ◌∙◌, ◌<◌, ◌==◌, Bool, true, false, List, [], ◌∷◌, ◌++◌, length, Option, Some, None, arith, eqb-true, refl, sym, ap, subst}
use Rattle.std.proofs.lemmas.Bool.{eqb-false}
use Rattle.std.specs.Prelude.{⊤, if◌then◌else◌}
use Rattle.std.specs.Cmp.{IsTotalOrder}
use Rattle.std.specs.Option.{option_and_then}
use Rattle.std.specs.Ordering.{is_eq}
use Rattle.std.specs.declared.cmp.Ordering.{Ordering}
use Rattle.std.specs.declared.cmp.Ordering.TheVariants.{Less}
use Rattle.eob_both.specs.declared.either_or_both.EitherOrBoth.{EitherOrBoth}
use Rattle.eob_both.specs.Places.{from_places}
use Rattle.eob_lists.specs.Join.{Rising, value_under}
use Rattle.eob_lists.proofs.MergeLemmas.{Up, absent_alike, rising, up, up_weaker}
use Rattle.eob_joins.specs.Tables.{Tabulates, kept}
use Rattle.eob_joins.specs.Versions.{IsVersionJoin}
use Rattle.eob_joins.proofs.TableLemmas.{by_test, kept_law, retabled}
use Rattle.eob_joins.proofs.VersionLemmas.{versions_law}
use Rattle.eob_joins.specs.Settled.{Became, BecameUnless, KeptAs, is_unresolved, unresolved_row, unresolved, unresolved_place, with_row}

with_row-append : {K W : Type 0} (k : K) (m : Option W) (ts us : List (K × W)) → (with_row k m ts ++ us) ≡ with_row k m (ts ++ us)
with_row-append k None ts us = refl
with_row-append k (Some w) ts us = refl

-- one more row
pub kept_as-push : {K V W : Type 0} (R : V → Option W → Type 0) (zs : List (K × V)) (ts : List (K × W)) (z : K × V) (m : Option W)
    → KeptAs R zs ts → R z.1 m → KeptAs R (zs ++ z ∷ []) (ts ++ with_row z.0 m [])
kept_as-push R [] ts z m h r = (m, r, ([], refl, ap (λ l. l ++ with_row z.0 m []) h))
kept_as-push R (y ∷ ys) ts z m h r =
    (h.0, h.1, (h.2.0 ++ with_row z.0 m [], kept_as-push R ys h.2.0 z m h.2.1 r, ap (λ l. l ++ with_row z.0 m []) h.2.2 ∙ with_row-append y.0 h.0 h.2.0 (with_row z.0 m [])))

-- R of a value that is there and of what became of it
abbrev pub At : {V W : Type 0} → (V → Option W → Type 0) → Option V → Option W → Type 0
At R None m = m ≡ None
At R (Some v) m = R v m

unresolved_is : {V : Type 0} (eq : V → V → Bool) (can : Option V → Option V → Option V → Bool) (m n l : Option V)
    → option_and_then (unresolved eq can) (from_places m (from_places n l)) ≡ unresolved_place eq can m n l
unresolved_is eq can None None None = refl
unresolved_is eq can None None (Some t) = refl
unresolved_is eq can None (Some o) None = refl
unresolved_is eq can None (Some o) (Some t) = refl
unresolved_is eq can (Some b) None None = refl
unresolved_is eq can (Some b) None (Some t) = refl
unresolved_is eq can (Some b) (Some o) None = refl
unresolved_is eq can (Some b) (Some o) (Some t) = refl

none_if : {V : Type 0} (t : Bool) (v : V) → (if t then Some v else None) ≡ None → t ≡ false
none_if true v e = absurd (cc)
none_if false v e = refl

not_unresolved : {V : Type 0} (eq : V → V → Bool) (can : Option V → Option V → Option V → Bool) (m n l : Option V)
    → unresolved_place eq can m n l ≡ None → is_unresolved eq can m n l ≡ false
not_unresolved eq can None None None e = refl
not_unresolved eq can None None (Some t) e = refl
not_unresolved eq can None (Some o) None e = refl
not_unresolved eq can None (Some o) (Some t) e = none_if _ _ e
not_unresolved eq can (Some b) None None e = refl
not_unresolved eq can (Some b) None (Some t) e = none_if _ _ e
not_unresolved eq can (Some b) (Some o) None e = none_if _ _ e
not_unresolved eq can (Some b) (Some o) (Some t) e = none_if _ _ e

became : {V : Type 0} (eq : V → V → Bool) (can : Option V → Option V → Option V → Bool) (gives : Option V → Option V → Option V → V → Type 0)
    (m n l r : Option V) → At (BecameUnless eq can gives) (from_places m (from_places n l)) r → is_unresolved eq can m n l ≡ false → Became eq gives m n l r
became eq can gives None None None r h e = h
became eq can gives None None (Some t) r h e = h e
became eq can gives None (Some o) None r h e = h e
became eq can gives None (Some o) (Some t) r h e = h e
became eq can gives (Some b) None None r h e = h e
became eq can gives (Some b) None (Some t) r h e = h e
became eq can gives (Some b) (Some o) None r h e = h e
became eq can gives (Some b) (Some o) (Some t) r h e = h e

pub no_items : {X : Type 0} (xs : List X) → (length xs == 0) ≡ true → xs ≡ []
no_items [] n = refl
no_items (x ∷ xs) n = let z : length (x ∷ xs) ≡ 0 = eqb-true (length (x ∷ xs)) 0 n in absurd (omega arith)

pub some_items : {X : Type 0} (xs : List X) → (length xs == 0) ≡ false → 0 < length xs
some_items [] n = absurd (eqb-false 0 0 n refl)
some_items (x ∷ xs) n = omega arith

module _ {K : Type 0} (cmp : K → K → Ordering) where
  module _ (o : IsTotalOrder cmp) {V W : Type 0} (R : V → Option W → Type 0) where
    up_with : (P : K → Type 0) (k : K) (m : Option W) (ts : List (K × W)) → P k → Up cmp P ts → Up cmp (λ j. cmp k j ≡ Less) ts → Up cmp P (with_row k m ts)
    up_with P k None ts h u v = u
    up_with P k (Some w) ts h u v = (h, v)

    pub kept_as_up : (P : K → Type 0) (zs : List (K × V)) (rs : List (K × W)) → ((j k : K) → P j → cmp j k ≡ Less → P k) → Up cmp P zs → KeptAs R zs rs → Up cmp P rs
    kept_as_up P [] rs t h s = subst (Up cmp P) (sym s) tt
    kept_as_up P (z ∷ zs) rs t h s =
        subst (Up cmp P) (sym s.2.2)
        (up_with P z.0 s.0 s.2.0 h.0
        (kept_as_up P zs s.2.0 t (up_weaker cmp (λ k. cmp z.0 k ≡ Less) P (λ k l. t z.0 k h.0 l) zs h.1) s.2.1)
        (kept_as_up (λ k. cmp z.0 k ≡ Less) zs s.2.0 (λ j k l m. o.trans z.0 j k l m) h.1 s.2.1))

    at_key : (k j : K) (m : Option W) (ts : List (K × W)) → is_eq (cmp k j) ≡ true → value_under cmp ts k ≡ None → value_under cmp (with_row j m ts) k ≡ m
    at_key k j None ts e n = n
    at_key k j (Some w) ts e n = rw e refl

    at_other : (k j : K) (m : Option W) (ts : List (K × W)) → is_eq (cmp k j) ≡ false → value_under cmp (with_row j m ts) k ≡ value_under cmp ts k
    at_other k j None ts e = refl
    at_other k j (Some w) ts e = rw e refl

    pub kept_as_value : (P : K → Type 0) (zs : List (K × V)) (rs : List (K × W)) → Up cmp P zs → KeptAs R zs rs → (k : K) → At R (value_under cmp zs k) (value_under cmp rs k)
    kept_as_value P [] rs h s k = ap (λ l. value_under cmp l k) s
    kept_as_value P (z ∷ zs) rs h s k =
        let rest = kept_as_value (λ j. cmp z.0 j ≡ Less) zs s.2.0 h.1 s.2.1 k in
        subst (λ l. At R (value_under cmp (z ∷ zs) k) (value_under cmp l k)) (sym s.2.2)
        (by_test (is_eq (cmp k z.0))
        (λ t.
        let none = subst (λ m. At R m (value_under cmp s.2.0 k)) (absent_alike cmp o k z.0 t zs h.1) rest in
        let e = at_key k z.0 s.0 s.2.0 t none in
        rw e (rw t s.1))
        (λ f. rw (at_other k z.0 s.0 s.2.0 f) (rw f rest)))

  module _ (o : IsTotalOrder cmp) {V : Type 0} (eq : V → V → Bool) (can : Option V → Option V → Option V → Bool)
      (gives : Option V → Option V → Option V → V → Type 0) (b p q : List (K × V)) where
    abbrev triple : K → Option (EitherOrBoth V (EitherOrBoth V V))
    triple k = from_places (value_under cmp b k) (from_places (value_under cmp p k) (value_under cmp q k))

    module _ (zs : List (K × EitherOrBoth V (EitherOrBoth V V))) (j : IsVersionJoin cmp b p q zs) where
      pub unresolved_table : Tabulates cmp (kept (unresolved eq can) zs) (λ k. unresolved_place eq can (value_under cmp b k) (value_under cmp p k) (value_under cmp q k))
      unresolved_table =
          retabled cmp (kept (unresolved eq can) zs) _ _ (λ k. unresolved_is eq can (value_under cmp b k) (value_under cmp p k) (value_under cmp q k))
          (kept_law cmp o (EitherOrBoth V (EitherOrBoth V V)) (EitherOrBoth V (EitherOrBoth V V)) (unresolved eq can) triple zs (versions_law cmp V b p q zs j))

      pub none_unresolved : kept (unresolved eq can) zs ≡ [] → (k : K) → is_unresolved eq can (value_under cmp b k) (value_under cmp p k) (value_under cmp q k) ≡ false
      none_unresolved none k =
          not_unresolved eq can (value_under cmp b k) (value_under cmp p k) (value_under cmp q k)
          (sym (unresolved_table.values k) ∙ ap (λ l. value_under cmp l k) none)

      pub whole_rises : (rs : List (K × V)) → KeptAs (BecameUnless eq can gives) zs rs → Rising cmp rs
      whole_rises rs s = rising cmp (λ k. ⊤) rs (kept_as_up o (BecameUnless eq can gives) (λ k. ⊤) zs rs (λ j k t l. tt) (up cmp zs (versions_law cmp V b p q zs j).rises) s)

      pub whole_values : (rs : List (K × V)) → KeptAs (BecameUnless eq can gives) zs rs → kept (unresolved eq can) zs ≡ []
          → (k : K) → Became eq gives (value_under cmp b k) (value_under cmp p k) (value_under cmp q k) (value_under cmp rs k)
      whole_values rs s none k =
          let law = versions_law cmp V b p q zs j in
          became eq can gives (value_under cmp b k) (value_under cmp p k) (value_under cmp q k) (value_under cmp rs k)
          (subst (λ m. At (BecameUnless eq can gives) m (value_under cmp rs k)) (law.values k) (kept_as_value o (BecameUnless eq can gives) (λ k. ⊤) zs rs (up cmp zs law.rises) s k))
          (none_unresolved none k)

      -- the merged table, where no row is unresolved
      pub whole_law : (rs : List (K × V)) (cs : List (K × EitherOrBoth V (EitherOrBoth V V))) → KeptAs (BecameUnless eq can gives) zs rs → cs ≡ kept (unresolved eq can) zs → (length cs == 0) ≡ true
          → Rising cmp rs
          × ((k : K) → Became eq gives (value_under cmp b k) (value_under cmp p k) (value_under cmp q k) (value_under cmp rs k))
          × ((k : K) → is_unresolved eq can (value_under cmp b k) (value_under cmp p k) (value_under cmp q k) ≡ false)
      whole_law rs cs s f n =
          let none : kept (unresolved eq can) zs ≡ [] = sym f ∙ no_items cs n in
          (whole_rises rs s, whole_values rs s none, none_unresolved none)

      -- the unresolved rows
      pub unresolved_law : (cs : List (K × EitherOrBoth V (EitherOrBoth V V))) → cs ≡ kept (unresolved eq can) zs
          → Tabulates cmp cs (λ k. unresolved_place eq can (value_under cmp b k) (value_under cmp p k) (value_under cmp q k))
      unresolved_law cs f = subst (λ l. Tabulates cmp l (λ k. unresolved_place eq can (value_under cmp b k) (value_under cmp p k) (value_under cmp q k))) (sym f) unresolved_table
