-- What is made of three tables in parts, by induction: under a key that a part has, no later part has anything.
use Rattle.std.proofs.Common.{◌≡◌, ◌∙◌, ◌⊎◌, true, false, List, [], ◌∷◌, ◌++◌, All, Contains, Option, Some, None, inl, inr, refl, sym, subst, map}
use Rattle.std.specs.Prelude.{⊤}
use Rattle.std.specs.Cmp.{IsTotalOrder, alike_right, tied_itself}
use Rattle.std.specs.Map.{keys_of}
use Rattle.std.specs.Option.{option_or}
use Rattle.std.specs.Ordering.{is_eq}
use Rattle.std.specs.declared.cmp.Ordering.{Ordering}
use Rattle.std.specs.declared.cmp.Ordering.TheVariants.{Less, Equal}
use Rattle.std.proofs.lemmas.List.Elements.{All-contains, All-weaker, Contains-append_left, Contains-append_right, Contains-push}
use Rattle.eob_lists.specs.Join.{Rising, value_under}
use Rattle.eob_lists.proofs.JoinLemmas.{own}
use Rattle.eob_lists.proofs.MergeLemmas.{Up, is_Equal, rising, up}
use Rattle.eob_joins.specs.Laws.{AreBelow}
use Rattle.eob_joins.proofs.JoinLawLemmas.{up_append, up_from, value_append}
use Rattle.eob_joins.proofs.TableLemmas.{by_test}
use Rattle.eob_joins.specs.Parts.{AreMade, AreThreeCut, CutMadeLaw, IsMade, ThreeAndMade, whole_first, whole_made, whole_second, whole_third}

-- a look-up that cannot find finds nothing
none_found : {X : Type 0} (m : Option X) → ((x : X) → m ≡ Some x → ⊥) → m ≡ None
none_found None f = refl
none_found (Some x) f = absurd (f x refl)

or_none : {X : Type 0} (m n : Option X) → n ≡ None → option_or m n ≡ m
or_none None n e = e
or_none (Some x) n e = refl

none_or : {X : Type 0} (m n : Option X) → m ≡ None → option_or m n ≡ n
none_or m n e = rw e refl

module _ {K : Type 0} (cmp : K → K → Ordering) (o : IsTotalOrder cmp) where
  -- a key of a list that counts as equal to another
  abbrev At : List K → K → Type 0
  At keys k = (j : K) × Contains keys j × (cmp k j ≡ Equal)

  found_at : {V : Type 0} (xs : List (K × V)) (k : K) (v : V) → value_under cmp xs k ≡ Some v → At (keys_of xs) k
  found_at [] k v e = absurd (cc)
  found_at (x ∷ xs) k v e =
      by_test (is_eq (cmp k x.0))
      (λ t. (x.0, Contains-append_left (x.0 ∷ []) (keys_of xs) x.0 (Contains-push [] x.0), is_Equal (cmp k x.0) t))
      (λ f. let there = found_at xs k v (rw f at e) in (there.0, Contains-append_right (x.0 ∷ []) (keys_of xs) there.0 there.1, there.2))

  left_at : (js ks : List K) (k : K) → At js k → At (js ++ ks) k
  left_at js ks k a = (a.0, Contains-append_left js ks a.0 a.1, a.2)

  right_at : (js ks : List K) (k : K) → At ks k → At (js ++ ks) k
  right_at js ks k a = (a.0, Contains-append_right js ks a.0 a.1, a.2)

  -- keys at keys that are less are less
  less_at : (js ks : List K) → AreBelow cmp js ks → (j k : K) → At js j → At ks k → cmp j k ≡ Less
  less_at js ks below j k a b =
      o.congr j a.0 k a.2 ∙ alike_right o k b.0 a.0 b.2
      ∙ All-contains (λ i. cmp a.0 i ≡ Less) ks b.0 (All-contains (λ i. All (λ h. cmp i h ≡ Less) ks) js a.0 below a.1) b.1

  never_both : (js ks : List K) → AreBelow cmp js ks → (k : K) → At js k → At ks k → ⊥
  never_both js ks below k a b = absurd (cc (sym (tied_itself o k) ∙ less_at js ks below k k a b))

  module _ {A B C W : Type 0} (make : Option A → Option B → Option C → Option W) (none : make None None None ≡ None) where
    abbrev keys_three : List (K × A) → List (K × B) → List (K × C) → List K
    keys_three xs ys zs = keys_of xs ++ (keys_of ys ++ keys_of zs)

    abbrev made_at : List (K × A) → List (K × B) → List (K × C) → K → Option W
    made_at xs ys zs k = make (value_under cmp xs k) (value_under cmp ys k) (value_under cmp zs k)

    -- what is made under a key is made of what one of the tables has there
    some_at : (xs : List (K × A)) (ys : List (K × B)) (zs : List (K × C)) (k : K) (m : Option A) (n : Option B) (l : Option C) (w : W)
        → value_under cmp xs k ≡ m → value_under cmp ys k ≡ n → value_under cmp zs k ≡ l → make m n l ≡ Some w → At (keys_three xs ys zs) k
    some_at xs ys zs k (Some a) n l w e f g h = left_at (keys_of xs) (keys_of ys ++ keys_of zs) k (found_at xs k a e)
    some_at xs ys zs k None (Some b) l w e f g h =
        right_at (keys_of xs) (keys_of ys ++ keys_of zs) k (left_at (keys_of ys) (keys_of zs) k (found_at ys k b f))
    some_at xs ys zs k None None (Some c) w e f g h =
        right_at (keys_of xs) (keys_of ys ++ keys_of zs) k (right_at (keys_of ys) (keys_of zs) k (found_at zs k c g))
    some_at xs ys zs k None None None w e f g h = let no : Some w ≡ None = sym h ∙ none in absurd (cc no)

    row_at : (xs : List (K × A)) (ys : List (K × B)) (zs : List (K × C)) (made : List (K × W)) → IsMade cmp make xs ys zs made → (k : K) (w : W)
        → value_under cmp made k ≡ Some w → At (keys_three xs ys zs) k
    row_at xs ys zs made h k w e = some_at xs ys zs k _ _ _ w refl refl refl (sym (h.values k) ∙ e)

    rows_at : (xs : List (K × A)) (ys : List (K × B)) (zs : List (K × C)) (made : List (K × W)) → IsMade cmp make xs ys zs made
        → All (λ row. At (keys_three xs ys zs) row.0) made
    rows_at xs ys zs made h =
        All-weaker (λ row. value_under cmp made row.0 ≡ Some row.1) (λ row. At (keys_three xs ys zs) row.0)
        (λ row e. row_at xs ys zs made h row.0 row.1 e) made (own cmp o (λ k. ⊤) made (up cmp made h.rises))

    module _ (b1 b2 : List (K × A)) (o1 o2 : List (K × B)) (t1 t2 : List (K × C)) (m1 m2 : List (K × W))
        (below : AreBelow cmp (keys_three b1 o1 t1) (keys_three b2 o2 t2)) (g : IsMade cmp make b1 o1 t1 m1) (h : IsMade cmp make b2 o2 t2 m2) where
      -- tables that are put together have what the first part has under a key where it has any, and else what the second has
      none_behind : (k : K) → At (keys_three b1 o1 t1) k → (value_under cmp b2 k ≡ None) × (value_under cmp o2 k ≡ None) × (value_under cmp t2 k ≡ None)
      none_behind k a =
          let no = never_both (keys_three b1 o1 t1) (keys_three b2 o2 t2) below k a in (
            none_found (value_under cmp b2 k) (λ v e. no (left_at (keys_of b2) (keys_of o2 ++ keys_of t2) k (found_at b2 k v e))),
            none_found (value_under cmp o2 k) (λ v e. no (right_at (keys_of b2) (keys_of o2 ++ keys_of t2) k (left_at (keys_of o2) (keys_of t2) k (found_at o2 k v e)))),
            none_found (value_under cmp t2 k) (λ v e. no (right_at (keys_of b2) (keys_of o2 ++ keys_of t2) k (right_at (keys_of o2) (keys_of t2) k (found_at t2 k v e)))),
          )

      values_in_first : (k : K) → At (keys_three b1 o1 t1) k → value_under cmp (m1 ++ m2) k ≡ made_at (b1 ++ b2) (o1 ++ o2) (t1 ++ t2) k
      values_in_first k a =
          let no = none_behind k a in
          let made : value_under cmp m2 k ≡ None = h.values k ∙ rw (no.0, no.1, no.2) none in
          let first = value_append cmp b1 b2 k ∙ or_none (value_under cmp b1 k) (value_under cmp b2 k) no.0 in
          let second = value_append cmp o1 o2 k ∙ or_none (value_under cmp o1 k) (value_under cmp o2 k) no.1 in
          let third = value_append cmp t1 t2 k ∙ or_none (value_under cmp t1 k) (value_under cmp t2 k) no.2 in
          value_append cmp m1 m2 k ∙ or_none (value_under cmp m1 k) (value_under cmp m2 k) made ∙ g.values k ∙ rw (first, second, third) refl

      values_in_second : (k : K) → value_under cmp b1 k ≡ None → value_under cmp o1 k ≡ None → value_under cmp t1 k ≡ None
          → value_under cmp (m1 ++ m2) k ≡ made_at (b1 ++ b2) (o1 ++ o2) (t1 ++ t2) k
      values_in_second k b o t =
          let made : value_under cmp m1 k ≡ None = g.values k ∙ rw (b, o, t) none in
          let first = value_append cmp b1 b2 k ∙ none_or (value_under cmp b1 k) (value_under cmp b2 k) b in
          let second = value_append cmp o1 o2 k ∙ none_or (value_under cmp o1 k) (value_under cmp o2 k) o in
          let third = value_append cmp t1 t2 k ∙ none_or (value_under cmp t1 k) (value_under cmp t2 k) t in
          value_append cmp m1 m2 k ∙ none_or (value_under cmp m1 k) (value_under cmp m2 k) made ∙ h.values k ∙ rw (first, second, third) refl

      values_by : (k : K) (m : Option A) (n : Option B) (l : Option C) → value_under cmp b1 k ≡ m → value_under cmp o1 k ≡ n → value_under cmp t1 k ≡ l
          → value_under cmp (m1 ++ m2) k ≡ made_at (b1 ++ b2) (o1 ++ o2) (t1 ++ t2) k
      values_by k (Some v) n l b o t = values_in_first k (left_at (keys_of b1) (keys_of o1 ++ keys_of t1) k (found_at b1 k v b))
      values_by k None (Some v) l b o t =
          values_in_first k (right_at (keys_of b1) (keys_of o1 ++ keys_of t1) k (left_at (keys_of o1) (keys_of t1) k (found_at o1 k v o)))
      values_by k None None (Some v) b o t =
          values_in_first k (right_at (keys_of b1) (keys_of o1 ++ keys_of t1) k (right_at (keys_of o1) (keys_of t1) k (found_at t1 k v t)))
      values_by k None None None b o t = values_in_second k b o t

      after : (row : K × W) → At (keys_three b1 o1 t1) row.0 → Up cmp (λ k. cmp row.0 k ≡ Less) m2
      after row a =
          up_from cmp row.0 m2 (up cmp m2 h.rises)
          (All-weaker (λ y. At (keys_three b2 o2 t2) y.0) (λ y. cmp row.0 y.0 ≡ Less)
          (λ y b. less_at (keys_three b1 o1 t1) (keys_three b2 o2 t2) below row.0 y.0 a b) m2 (rows_at b2 o2 t2 m2 h))

      made_cut : IsMade cmp make (b1 ++ b2) (o1 ++ o2) (t1 ++ t2) (m1 ++ m2)
      made_cut = record {
        rises = rising cmp (λ k. ⊤) (m1 ++ m2)
            (up_append cmp (λ k. ⊤) m1 m2 (up cmp m1 g.rises) (up cmp m2 h.rises)
            (All-weaker (λ row. At (keys_three b1 o1 t1) row.0) (λ row. Up cmp (λ k. cmp row.0 k ≡ Less) m2) after m1 (rows_at b1 o1 t1 m1 g)));
        values = λ k. values_by k _ _ _ refl refl refl;
      }

    pub cut_made : (parts : List (ThreeAndMade K A B C W)) → AreThreeCut cmp parts → AreMade cmp make parts
        → IsMade cmp make (whole_first parts) (whole_second parts) (whole_third parts) (whole_made parts)
    cut_made [] c e = record { rises = rising cmp (λ k. ⊤) [] tt; values = λ k. sym none }
    cut_made (part ∷ parts) c e =
        made_cut part.0 (whole_first parts) part.1 (whole_second parts) part.2 (whole_third parts) part.3 (whole_made parts) c.0 e.0 (cut_made parts c.1 e.1)
