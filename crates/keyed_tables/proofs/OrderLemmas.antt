-- Rows in the order of their keys, and under a key in that of their values, as groups whose values stand in order.
use Rattle.std.proofs.Common.{◌≡◌, ◌∙◌, ◌+◌, zero, suc, Bool, true, false, cond, List, [], ◌∷◌, ◌++◌, length, map, filter, All, Option, Some, append_assoc, arith, refl, sym, ap, subst, true≢false}
use Rattle.std.specs.Prelude.{⊤}
use Rattle.std.proofs.lemmas.List.Elements.{All-cons, All-nil, All-weaker}
use Rattle.std.specs.Cmp.{IsTotalOrder, on_total, then_total}
use Rattle.std.specs.List.Sorted.{IsSorted, IsSortedBy}
use Rattle.std.specs.Map.{values_of}
use Rattle.std.specs.Ordering.{is_eq, is_lt, on, ordering_then, then_cmp}
use Rattle.std.specs.declared.cmp.Ordering.{Ordering}
use Rattle.std.specs.declared.cmp.Ordering.TheVariants.{Less, Equal, Greater}
use Rattle.eob_lists.specs.Join.{value_under}
use Rattle.eob_lists.proofs.JoinLemmas.{own_head}
use Rattle.eob_lists.proofs.MergeLemmas.{Up, is_Equal, up}
use Rattle.eob_joins.specs.Groups.{AreGroups, Ordered, group_under, key_runs, run_rest, run_values, some_items}
use Rattle.eob_joins.proofs.GroupLemmas.{AreGroups-groups, run_on}
use Rattle.keyed_tables.specs.Gathered.{AreInOrder, alone}
use Rattle.keyed_tables.proofs.ClimbLemmas.{Climbs, NoneBefore, before, climbs_kept, sorted_climbs}

some_back : {V : Type 0} (vs ws : List V) → some_items vs ≡ Some ws → vs ≡ ws
some_back [] ws e = absurd (cc)
some_back (v ∷ vs) ws e = cc

-- rows that are each a group of their own
pub each_single : {K V : Type 0} (rows : List (K × V)) → All (λ group. length group.1 ≡ 1) (map alone rows)
each_single [] = All-nil (λ group. length group.1 ≡ 1)
each_single (row ∷ rows) = All-cons (λ group. length group.1 ≡ 1) (alone row) (map alone rows) refl (each_single rows)

-- where one of two that are compared in turn is not less, it is not less in the first comparison, nor in the second if that is level
first_holds : (r s : Ordering) → is_lt (ordering_then r s) ≡ false → is_lt r ≡ false
first_holds Less s h = absurd (true≢false h)
first_holds Equal s h = refl
first_holds Greater s h = refl

second_holds : (r s : Ordering) → r ≡ Equal → is_lt (ordering_then r s) ≡ false → is_lt s ≡ false
second_holds r s e h = rw e at h

module _ {K V : Type 0} (cmp : K → K → Ordering) (order : V → V → Ordering) (o : IsTotalOrder cmp) (u : IsTotalOrder order) where
  -- by key, and under a key by value
  abbrev pub in_turn : K × V → K × V → Ordering
  in_turn = then_cmp (on (λ x. x.0) cmp) (on (λ x. x.1) order)

  pub in_turn_total : IsTotalOrder in_turn
  in_turn_total = then_total (on_total (λ x. x.0) o) (on_total (λ x. x.1) u)

  ordered_climb : (xs : List (K × V)) → Climbs (λ x. x) in_turn xs → Ordered cmp xs
  unfolding Ordered
  ordered_climb [] h k d l b = absurd (omega (arith, b))
  ordered_climb (x ∷ []) h k d l b = absurd (omega (arith, b))
  ordered_climb (x ∷ y ∷ ys) h zero d l b = first_holds (cmp y.0 x.0) (order y.1 x.1) h.0.0
  ordered_climb (x ∷ y ∷ ys) h (suc k) d l b =
      let e : suc k + 1 ≡ suc (k + 1) = omega arith in
      rw e (ordered_climb (y ∷ ys) h.1 k d (omega arith) (omega (arith, b)))

  -- pairs that are all under one key
  Under : K → List (K × V) → Type 0
  Under k [] = ⊤
  Under k (x ∷ xs) = (is_eq (cmp k x.0) ≡ true) × Under k xs

  under_if : (k : K) (x : K × V) (xs : List (K × V)) (b : Bool) → is_eq (cmp k x.0) ≡ b → Under k xs → Under k (cond b (x ∷ xs) xs)
  unfolding Under
  under_if k x xs true e h = (e, h)
  under_if k x xs false e h = h

  under : (k : K) (xs : List (K × V)) → Under k (filter (λ x. is_eq (cmp k x.0)) xs)
  unfolding Under
  under k [] = tt
  under k (x ∷ xs) = under_if k x (filter (λ y. is_eq (cmp k y.0)) xs) (is_eq (cmp k x.0)) refl (under k xs)

  level : (k j i : K) → is_eq (cmp k j) ≡ true → is_eq (cmp k i) ≡ true → cmp j i ≡ Equal
  level k j i e f = sym (o.congr k j i (is_Equal (cmp k j) e)) ∙ is_Equal (cmp k i) f

  -- their values climb where they do
  sorted_values : (k : K) (xs : List (K × V)) → Under k xs → Climbs (λ x. x) in_turn xs → IsSorted order (values_of xs)
  unfolding Under
  sorted_values k [] t h i d l b = absurd (omega (arith, b))
  sorted_values k (x ∷ []) t h i d l b = absurd (omega (arith, b))
  sorted_values k (x ∷ y ∷ ys) t h zero d l b = second_holds (cmp y.0 x.0) (order y.1 x.1) (level k y.0 x.0 t.1.0 t.0) h.0.0
  sorted_values k (x ∷ y ∷ ys) t h (suc i) d l b =
      let e : suc i + 1 ≡ suc (i + 1) = omega arith in
      rw e (sorted_values k (y ∷ ys) t.1 h.1 i d (omega arith) (omega (arith, b)))

  kept_in_order : (k : K) (xs : List (K × V)) → Climbs (λ x. x) in_turn xs → IsSorted order (values_of (filter (λ x. is_eq (cmp k x.0)) xs))
  kept_in_order k xs h = sorted_values k (filter (λ x. is_eq (cmp k x.0)) xs) (under k xs) (climbs_kept (λ x. x) in_turn (λ x. is_eq (cmp k x.0)) xs h)

  after_first : (g : K × List V) (gs : List (K × List V)) (k : K) → cmp g.0 k ≡ Less → value_under cmp (g ∷ gs) k ≡ value_under cmp gs k
  after_first g gs k l = rw (o.antisymm k g.0, l) refl

  own_values : (f : K → Option (List V)) (gs : List (K × List V)) (P : K → Type 0) → ((j k : K) → P j → cmp j k ≡ Less → P k)
      → ((k : K) → P k → f k ≡ value_under cmp gs k) → Up cmp P gs → All (λ g. f g.0 ≡ Some g.1) gs
  own_values f [] P on_from same h = All-nil (λ g. f g.0 ≡ Some g.1)
  own_values f (g ∷ gs) P on_from same h =
      All-cons (λ g. f g.0 ≡ Some g.1) g gs (same g.0 h.0 ∙ own_head cmp o g gs)
      (own_values f gs (λ k. cmp g.0 k ≡ Less) (λ j k. o.trans g.0 j k) (λ k l. same k (on_from g.0 k h.0 l) ∙ after_first g gs k l) h.1)

  -- the values of groups stand in order where the rows climb
  in_order_climb : (xs : List (K × V)) (gs : List (K × List V)) → Climbs (λ x. x) in_turn xs → AreGroups cmp xs gs → AreInOrder order gs
  in_order_climb xs gs climb h = record {
    values = All-weaker (λ g. group_under cmp xs g.0 ≡ Some g.1) (λ g. IsSorted order g.1)
        (λ g e. subst (IsSorted order) (some_back _ g.1 e) (kept_in_order g.0 xs climb)) gs
        (own_values (group_under cmp xs) gs (λ k. ⊤) (λ j k p l. tt) (λ k p. sym (h.values k)) (up cmp gs h.rises));
  }

  module _ {X : Type 0} (pair : X → K × V) where
    none_mapped : (v : K × V) (xs : List X) → NoneBefore pair in_turn v xs → NoneBefore (λ x. x) in_turn v (map pair xs)
    none_mapped v [] h = tt
    none_mapped v (x ∷ xs) h = (h.0, none_mapped v xs h.1)

    climbs_mapped : (xs : List X) → Climbs pair in_turn xs → Climbs (λ x. x) in_turn (map pair xs)
    climbs_mapped [] h = tt
    climbs_mapped (x ∷ xs) h = (none_mapped (pair x) xs h.0, climbs_mapped xs h.1)

    climb : (xs : List X) → IsSortedBy (before pair in_turn) xs → Climbs (λ x. x) in_turn (map pair xs)
    climb xs h = climbs_mapped xs (sorted_climbs pair in_turn in_turn_total xs h)

    -- rows in that order are in the order of their keys
    pub ordered_rows : (xs : List X) → IsSortedBy (before pair in_turn) xs → Ordered cmp (map pair xs)
    ordered_rows xs h = ordered_climb (map pair xs) (climb xs h)

    -- and so are the values of each of their groups
    pub groups_in_order : (xs : List X) (gs : List (K × List V)) → IsSortedBy (before pair in_turn) xs → AreGroups cmp (map pair xs) gs → AreInOrder order gs
    groups_in_order xs gs h = in_order_climb (map pair xs) gs (climb xs h)

    -- the runs of rows with the same key are the groups of the rows
    pub are_groups : (xs : List X) (gs : List (K × List V)) → IsSortedBy (before pair in_turn) xs → gs ≡ key_runs cmp (map pair xs) → AreGroups cmp (map pair xs) gs
    are_groups xs gs h e = subst (AreGroups cmp (map pair xs)) (sym e) (AreGroups-groups cmp o (map pair xs) (ordered_rows xs h))

-- a turn of the loop that groups rows: the first row and those with its key leave the queue, and become the last group
module _ {K V : Type 0} (cmp : K → K → Ordering) (o : IsTotalOrder cmp) (gs hs : List (K × List V)) (x : K × V) (xs ys zs : List (K × V)) (whole : List (K × List V)) where
  pub more_groups : ys ≡ x ∷ xs → zs ≡ run_rest cmp x.0 xs → hs ≡ gs ++ (x.0, x.1 ∷ run_values cmp x.0 xs) ∷ [] → gs ++ key_runs cmp ys ≡ whole → hs ++ key_runs cmp zs ≡ whole
  more_groups e f h w = rw (h, f, append_assoc) (ap (λ ks. gs ++ ks) (sym (run_on cmp o x xs) ∙ ap (key_runs cmp) (sym e)) ∙ w)
