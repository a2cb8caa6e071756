-- Rows by key: of the same rows there is one table, and the rows of a table gather to it again.
use Rattle.std.proofs.Common.{◌≡◌, ◌≢◌, ◌∙◌, ◌+◌, zero, suc, Bool, true, false, cond, List, [], ◌∷◌, ◌++◌, All, Option, Some, length, map, filter, arith, refl, sym, ap, subst}
use Rattle.std.specs.Prelude.{⊤, IfSome, MatchBool}
use Rattle.std.specs.Cmp.{IsTotalOrder, tied_itself}
use Rattle.std.specs.List.{flat_map}
use Rattle.std.specs.List.Sorted.{IsPermutation, IsSorted}
use Rattle.std.specs.Map.{values_of}
use Rattle.std.specs.Ordering.{is_eq, is_lt, ordering_reverse}
use Rattle.std.specs.declared.cmp.Ordering.{Ordering}
use Rattle.std.specs.declared.cmp.Ordering.TheVariants.{Less, Equal}
use Rattle.std.proofs.lemmas.List.Elements.{All-cons, All-head, All-nil, All-tail, All-weaker}
use Rattle.std.proofs.lemmas.List.Sorted.{IsPermutation-refl, IsPermutation-sym, IsPermutation-trans}
use Rattle.eob_lists.specs.Join.{Rising, value_under}
use Rattle.eob_lists.proofs.JoinLemmas.{own}
use Rattle.eob_lists.proofs.MergeLemmas.{Up, is_Equal, up, up_weaker}
use Rattle.eob_joins.specs.Groups.{AreGroups, Ordered, add_pair, key_runs, some_items}
use Rattle.eob_joins.proofs.GroupLemmas.{AreGroups-groups, Low}
use Rattle.eob_joins.proofs.TableLemmas.{same_table}
use Rattle.keyed_tables.specs.Gathered.{AreInOrder, HoldsRows}
use Rattle.keyed_tables.proofs.ClimbLemmas.{Climbs, sorted_climbs}
use Rattle.keyed_commands.proofs.OnceLemmas.{as_often, same_in_order, values_at}

-- each group has a row
abbrev pub HasRow : {K V : Type 0} → K × List V → Type 0
HasRow g = g.1 ≢ []

-- the rows of groups, each with its key
abbrev pub flat : {K V : Type 0} → List (K × List V) → List (K × V)
flat gs = flat_map (λ g. map (λ v. (g.0, v)) g.1) gs

module _ {K : Type 0} (cmp : K → K → Ordering) (o : IsTotalOrder cmp) where
  -- the rows of groups whose keys strictly increase are in the order of their keys
  later : (j k : K) → cmp j k ≡ Less → is_lt (cmp k j) ≡ false
  later j k l = ap is_lt (o.antisymm k j ∙ ap ordering_reverse l)

  low_run : {V : Type 0} (j : K) (vs : List V) (rest : List (K × V)) → Low cmp (λ k. is_lt (cmp k j) ≡ false) rest
      → Low cmp (λ k. is_lt (cmp k j) ≡ false) (map (λ v. (j, v)) vs ++ rest)
  low_run j [] rest h = h
  low_run j (v ∷ vs) rest h = (ap is_lt (tied_itself o j), low_run j vs rest h)

  low_group : {V : Type 0} (P : K → Type 0) (j : K) (vs : List V) (rest : List (K × V)) → vs ≢ [] → P j → Low cmp (λ k. is_lt (cmp k j) ≡ false) rest
      → Low cmp P (map (λ v. (j, v)) vs ++ rest)
  low_group P j [] rest some p h = absurd (some refl)
  low_group P j (v ∷ vs) rest some p h = (p, low_run j vs rest h)

  low_flat : {V : Type 0} (P : K → Type 0) (gs : List (K × List V)) → Up cmp P gs → All HasRow gs → Low cmp P (flat gs)
  low_flat P [] h some = tt
  low_flat P (g ∷ gs) h some =
      low_group P g.0 g.1 (flat gs) (All-head HasRow g gs some) h.0
      (low_flat (λ k. is_lt (cmp k g.0) ≡ false) gs (up_weaker cmp (λ k. cmp g.0 k ≡ Less) (λ k. is_lt (cmp k g.0) ≡ false) (λ k l. later g.0 k l) gs h.1) (All-tail HasRow g gs some))

  ordered_low : {V : Type 0} (P : K → Type 0) (xs : List (K × V)) → Low cmp P xs → Ordered cmp xs
  unfolding Ordered
  ordered_low P [] h k d l b = absurd (omega (arith, b))
  ordered_low P (x ∷ []) h k d l b = absurd (omega (arith, b))
  ordered_low P (x ∷ y ∷ ys) h zero d l b = h.1.0
  ordered_low P (x ∷ y ∷ ys) h (suc k) d l b =
      let e : suc k + 1 ≡ suc (k + 1) = omega arith in
      rw e (ordered_low (λ j. is_lt (cmp j x.0) ≡ false) (y ∷ ys) h.1 k d (omega arith) (omega (arith, b)))

  -- and the runs of their keys are the groups
  before_lesser : {V : Type 0} (j : K) (v : V) (gs : List (K × List V)) → Up cmp (λ k. cmp j k ≡ Less) gs → add_pair cmp (j, v) gs ≡ (j, v ∷ []) ∷ gs
  before_lesser j v [] h = refl
  before_lesser j v (g ∷ gs) h = rw h.0 refl

  run_group : {V : Type 0} (j : K) (v : V) (vs : List V) (rest : List (K × V)) (gs : List (K × List V)) → key_runs cmp rest ≡ gs → Up cmp (λ k. cmp j k ≡ Less) gs
      → key_runs cmp (map (λ w. (j, w)) (v ∷ vs) ++ rest) ≡ (j, v ∷ vs) ∷ gs
  run_group j v [] rest gs e h = ap (add_pair cmp (j, v)) e ∙ before_lesser j v gs h
  run_group j v (w ∷ vs) rest gs e h = ap (add_pair cmp (j, v)) (run_group j w vs rest gs e h) ∙ rw (tied_itself o j) refl

  runs_more : {V : Type 0} (j : K) (vs : List V) (rest : List (K × V)) (gs : List (K × List V)) → vs ≢ [] → key_runs cmp rest ≡ gs → Up cmp (λ k. cmp j k ≡ Less) gs
      → key_runs cmp (map (λ w. (j, w)) vs ++ rest) ≡ (j, vs) ∷ gs
  runs_more j [] rest gs some e h = absurd (some refl)
  runs_more j (v ∷ vs) rest gs some e h = run_group j v vs rest gs e h

  runs_flat : {V : Type 0} (P : K → Type 0) (gs : List (K × List V)) → Up cmp P gs → All HasRow gs → key_runs cmp (flat gs) ≡ gs
  runs_flat P [] h some = refl
  runs_flat P (g ∷ gs) h some =
      runs_more g.0 g.1 (flat gs) gs (All-head HasRow g gs some) (runs_flat (λ k. cmp g.0 k ≡ Less) gs h.1 (All-tail HasRow g gs some)) h.1

  -- so the rows of a table gather to it again
  pub holds-flat : {V : Type 0} (gs : List (K × List V)) → Rising cmp gs → All HasRow gs → HoldsRows cmp (flat gs) gs
  holds-flat gs rises some = (
    flat gs,
    IsPermutation-refl (flat gs),
    subst (AreGroups cmp (flat gs)) (runs_flat (λ k. ⊤) gs (up cmp gs rises) some)
        (AreGroups-groups cmp o (flat gs) (ordered_low (λ k. ⊤) (flat gs) (low_flat (λ k. ⊤) gs (up cmp gs rises) some))),
  )

  module _ (exact : (j k : K) → cmp j k ≡ Equal → j ≡ k) where
    -- what holds of each group holds of the one under a key
    found_if : {V : Type 0} (P : K → V → Type 0) (b : Bool) (v : V) (m : Option V) (k : K) → (b ≡ true → P k v) → IfSome m (P k) → IfSome (cond b (Some v) m) (P k)
    found_if P true v m k f h = f refl
    found_if P false v m k f h = h

    pub found : {V : Type 0} (P : K → V → Type 0) (gs : List (K × V)) → All (λ g. P g.0 g.1) gs → (k : K) → IfSome (value_under cmp gs k) (P k)
    found P [] h k = tt
    found P (g ∷ gs) h k =
        found_if P (is_eq (cmp k g.0)) g.1 (value_under cmp gs k) k
        (λ t. subst (λ j. P j g.1) (sym (exact k g.0 (is_Equal (cmp k g.0) t))) (All-head (λ g. P g.0 g.1) g gs h))
        (found P gs (All-tail (λ g. P g.0 g.1) g gs h) k)

    -- what holds of each row holds of each row of a group
    value_if : {V : Type 0} (P : V → Type 0) (b : Bool) (x : K × V) (xs : List (K × V)) → (b ≡ true → P x.1) → All P (values_of xs) → All P (values_of (cond b (x ∷ xs) xs))
    value_if P true x xs f h = All-cons P x.1 (values_of xs) (f refl) h
    value_if P false x xs f h = h

    values_hold : {V : Type 0} (P : K → V → Type 0) (k : K) (xs : List (K × V)) → All (λ x. P x.0 x.1) xs → All (P k) (values_of (filter (λ x. is_eq (cmp k x.0)) xs))
    values_hold P k [] h = All-nil (P k)
    values_hold P k (x ∷ xs) h =
        value_if (P k) (is_eq (cmp k x.0)) x (filter (λ y. is_eq (cmp k y.0)) xs)
        (λ t. subst (λ j. P j x.1) (sym (exact k x.0 (is_Equal (cmp k x.0) t))) (All-head (λ y. P y.0 y.1) x xs h))
        (values_hold P k xs (All-tail (λ y. P y.0 y.1) x xs h))

    some_same : {X : Type 0} {x y : X} → Some x ≡ Some y → x ≡ y
    some_same e = cc

    items_hold : {V : Type 0} (P : V → Type 0) (vs ws : List V) → some_items vs ≡ Some ws → All P vs → (ws ≢ []) × All P ws
    items_hold P [] ws e h = absurd (cc)
    items_hold P (v ∷ vs) ws e h = subst (λ l. (l ≢ []) × All P l) (some_same e) (λ n. cc, h)

    pub groups-hold : {V : Type 0} (P : K → V → Type 0) (xs : List (K × V)) (gs : List (K × List V)) → AreGroups cmp xs gs → All (λ x. P x.0 x.1) xs
        → All (λ g. (g.1 ≢ []) × All (P g.0) g.1) gs
    groups-hold P xs gs h all =
        All-weaker (λ g. value_under cmp gs g.0 ≡ Some g.1) (λ g. (g.1 ≢ []) × All (P g.0) g.1)
        (λ g e. items_hold (P g.0) (values_of (filter (λ x. is_eq (cmp g.0 x.0)) xs)) g.1 (sym (h.values g.0) ∙ e) (values_hold P g.0 xs all))
        gs (own cmp o (λ k. ⊤) gs (up cmp gs h.rises))

    module _ {V : Type 0} (order : V → V → Ordering) (u : IsTotalOrder order) (exact_value : (v w : V) → order v w ≡ Equal → v ≡ w) where
      -- the rows of a group are in order
      abbrev pub Climbing : K → List V → Type 0
      Climbing k vs = Climbs (λ v. v) order vs

      one_climbs : (vs : List V) → length vs ≡ 1 → Climbs (λ v. v) order vs
      one_climbs [] e = tt
      one_climbs (v ∷ []) e = (tt, tt)
      one_climbs (v ∷ w ∷ vs) e = absurd (omega (arith, e))

      pub climbing : (groups : Bool) (gs : List (K × List V)) → MatchBool groups (AreInOrder order gs) (All (λ g. length g.1 ≡ 1) gs) → All (λ g. Climbing g.0 g.1) gs
      climbing true gs h = All-weaker (λ g. IsSorted order g.1) (λ g. Climbing g.0 g.1) (λ g s. sorted_climbs (λ v. v) order u g.1 s) gs h.values
      climbing false gs h = All-weaker (λ g. length g.1 ≡ 1) (λ g. Climbing g.0 g.1) (λ g e. one_climbs g.1 e) gs h

      climb_items : (vs : List V) → IfSome (some_items vs) (Climbs (λ v. v) order) → Climbs (λ v. v) order vs
      climb_items [] h = tt
      climb_items (v ∷ vs) h = h

      climbs_at : (k : K) (xs : List (K × V)) (gs : List (K × List V)) → AreGroups cmp xs gs → All (λ g. Climbing g.0 g.1) gs
          → Climbs (λ v. v) order (values_at order u cmp k xs)
      climbs_at k xs gs h climb =
          climb_items (values_at order u cmp k xs) (subst (λ m. IfSome m (Climbs (λ v. v) order)) (h.values k) (found Climbing gs climb k))

      -- of the same rows there is one table
      pub one-table : (rows : List (K × V)) (gs hs : List (K × List V)) → HoldsRows cmp rows gs → HoldsRows cmp rows hs
          → All (λ g. Climbing g.0 g.1) gs → All (λ g. Climbing g.0 g.1) hs → gs ≡ hs
      one-table rows gs hs a b c d =
          let moved : IsPermutation a.0 b.0 = IsPermutation-trans a.0 rows b.0 (IsPermutation-sym rows a.0 a.1) b.1 in
          same_table cmp o (List V) exact (value_under cmp hs) gs hs
          (record {
            rises = a.2.rises;
            values = λ k.
                a.2.values k ∙ ap some_items (same_in_order order u exact_value (values_at order u cmp k a.0) (values_at order u cmp k b.0)
                (climbs_at k a.0 gs a.2 c) (climbs_at k b.0 hs b.2 d) (λ v. as_often order u cmp k v a.0 b.0 moved))
                ∙ sym (b.2.values k);
          })
          (record { rises = b.2.rises; values = λ k. refl })
