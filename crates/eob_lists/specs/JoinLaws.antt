-- What follows for every full outer join of two lists whose keys strictly increase.
use Rattle.std.specs.Prelude.{◌≡◌, ◌↔◌, ℕ, Bool, ◌+◌, true, IsSome, MatchOption, Option, Some, None, List, length, map, All}
use Rattle.std.specs.Prelude.{count_by, is_none, is_some}
use Rattle.std.specs.Borrow.{Bor}
use Rattle.std.specs.Iterator.Runs.{SomeRun}
use Rattle.std.specs.List.{AllAdjacentBelow, AllZip, IsDistinct}
use Rattle.std.specs.List.Sorted.{IsStrictlySortedBy}
use Rattle.std.specs.Option.{option_zip}
use Rattle.std.specs.Map.{keys_of, update_all, values_of}
use Rattle.std.specs.Ordering.{eq_by_cmp}
use Rattle.std.specs.Map.Iter.{deref_pair}
use Rattle.std.specs.declared.cmp.Ordering.{Ordering}
use Rattle.std.specs.declared.cmp.Ordering.TheVariants.{Less, Equal}
use Rattle.eob_both.specs.declared.either_or_both.EitherOrBoth.{EitherOrBoth}
use Rattle.eob_both.specs.declared.either_or_both.EitherOrBoth.TheVariants.{Left, Both, Right}
use Rattle.eob_both.specs.Places.{left_place, right_place, map_places}
use Rattle.eob_both.specs.Sides.{lefts, rights}
use Rattle.eob_lists.specs.Join.{Rising, SameKeys, IsJoin, value_under}

-- the places in the other order
abbrev pub flipped : {L R : Type 0} → EitherOrBoth L R → EitherOrBoth R L
flipped (Left l) = Right l
flipped (Both l r) = Both r l
flipped (Right r) = Left r

-- what a pair of a key and a value shows, where these are references
abbrev pub deref_joined : {K A B : Type 0} → Bor K × EitherOrBoth (Bor A) (Bor B) → K × EitherOrBoth A B
deref_joined z = (z.0.now, map_places (λ a. a.now) (λ b. b.now) z.1)

-- the right value where there is one, and else the left one
abbrev pub overlaid : {V : Type 0} → EitherOrBoth V V → V
overlaid (Left l) = l
overlaid (Both l r) = r
overlaid (Right r) = r

-- both places of each value are present
abbrev pub AllBoth : {K A B : Type 0} → List (K × EitherOrBoth A B) → Type 0
AllBoth zs = All (λ z. IsSome (left_place z.1) × IsSome (right_place z.1)) zs

module _ {K : Type 0} (cmp : K → K → Ordering) where
  -- how many keys of p are keys of q too
  unfoldable pub shared_keys : {A B : Type 0} → List (K × A) → List (K × B) → ℕ
  shared_keys p q = count_by (λ x. is_some (value_under cmp q x.0)) p

  -- zs has a lone left value for each key of p alone, a lone right value for each key of q alone, and Both for each key of both
  abbrev pub HasJoinCounts : {A B J L R : Type 0} → List (K × A) → List (K × B) → List (J × EitherOrBoth L R)
      → Type 0
  HasJoinCounts p q zs = (count_by (λ z. is_none (right_place z.1)) zs + shared_keys p q ≡ length p)
      × (count_by (λ z. is_none (left_place z.1)) zs + shared_keys p q ≡ length q)
      × (count_by (λ z. is_some (option_zip (left_place z.1) (right_place z.1))) zs ≡ shared_keys p q)

  module _ (A B : Type 0) where
    -- two joins of the same lists have equal keys and the same values, place by place
    abbrev pub OneJoinLaw : Type 0
    OneJoinLaw = (p : List (K × A)) (q : List (K × B)) (ys zs : List (K × EitherOrBoth A B))
        → IsJoin cmp p q ys → IsJoin cmp p q zs
        → AllZip (λ y z. (cmp y.0 z.0 ≡ Equal) × (y.1 ≡ z.1)) ys zs

    -- each value of a join has as its places what the two lists have under its key
    abbrev pub JoinPlacesLaw : Type 0
    JoinPlacesLaw = (p : List (K × A)) (q : List (K × B)) (zs : List (K × EitherOrBoth A B))
        → IsJoin cmp p q zs
        → All (λ z. (left_place z.1 ≡ value_under cmp p z.0) × (right_place z.1 ≡ value_under cmp q z.0)) zs

    -- the left values of a join are the left list's, in order, and its right values are the right list's
    abbrev pub JoinSidesLaw : Type 0
    JoinSidesLaw = (p : List (K × A)) (q : List (K × B)) (zs : List (K × EitherOrBoth A B)) → Rising cmp p
        → Rising cmp q → IsJoin cmp p q zs
        → (lefts (values_of zs) ≡ values_of p) × (rights (values_of zs) ≡ values_of q)

    -- a join is as long as both lists together, less the keys that they share
    abbrev pub JoinLengthLaw : Type 0
    JoinLengthLaw = (p : List (K × A)) (q : List (K × B)) (zs : List (K × EitherOrBoth A B)) → Rising cmp p
        → Rising cmp q → IsJoin cmp p q zs
        → length zs + shared_keys p q ≡ length p + length q

    -- every join has these counts
    abbrev pub JoinCountsLaw : Type 0
    JoinCountsLaw = (p : List (K × A)) (q : List (K × B)) (zs : List (K × EitherOrBoth A B)) → Rising cmp p
        → Rising cmp q → IsJoin cmp p q zs → HasJoinCounts p q zs

    -- the join of the two lists in the other order has the same keys, and each value flipped
    abbrev pub JoinFlipLaw : Type 0
    JoinFlipLaw = (p : List (K × A)) (q : List (K × B)) (zs : List (K × EitherOrBoth A B)) → IsJoin cmp p q zs
        → IsJoin cmp q p (map (λ z. (z.0, flipped z.1)) zs)

    -- where the two lists have the same keys, each value of a join is Both
    abbrev pub JoinBothLaw : Type 0
    JoinBothLaw = (p : List (K × A)) (q : List (K × B)) (zs : List (K × EitherOrBoth A B)) → SameKeys cmp p q
        → IsJoin cmp p q zs → AllBoth zs

    -- what a join of two lists of references shows is the join of what the two lists show
    abbrev pub ShownJoinLaw : Type 0
    ShownJoinLaw = (p : List (Bor K × Bor A)) (q : List (Bor K × Bor B))
        (zs : List (Bor K × EitherOrBoth (Bor A) (Bor B))) → IsJoin (λ j k. cmp j.now k.now) p q zs
        → IsJoin cmp (map deref_pair p) (map deref_pair q) (map deref_joined zs)

  module _ (V : Type 0) where
    -- a list strictly increases exactly where each key is less than the next
    abbrev pub RisingLaw : Type 0
    RisingLaw = (xs : List (K × V))
        → Rising cmp xs ↔ AllAdjacentBelow (λ x y. cmp x.0 y.0 ≡ Less) xs (length xs)

    -- the entries of an ordered map strictly increase
    abbrev pub SortedRisesLaw : Type 0
    SortedRisesLaw = (xs : List (K × V)) → IsStrictlySortedBy cmp (keys_of xs) → Rising cmp xs

    -- a list of references strictly increases where what it shows does
    abbrev pub ShownRisesLaw : Type 0
    ShownRisesLaw = (xs : List (Bor K × Bor V)) → Rising cmp (map deref_pair xs)
        → Rising (λ j k. cmp j.now k.now) xs

    -- the keys of a strictly increasing list are sorted, and so distinct, in the standard library's words
    abbrev pub RisingKeysLaw : Type 0
    RisingKeysLaw = (xs : List (K × V)) → Rising cmp xs
        → IsStrictlySortedBy cmp (keys_of xs) × IsDistinct (eq_by_cmp cmp) (keys_of xs)

    -- a map into which the pairs of a strictly increasing list are put in turn has under each key what the list has
    abbrev pub RisingMapLaw : Type 0
    RisingMapLaw = (xs : List (K × V)) → Rising cmp xs → (k : K)
        → update_all (eq_by_cmp cmp) (λ _. None) xs k ≡ value_under cmp xs k

    -- the same of a map that tells keys apart by eq
    abbrev pub RisingEqMapLaw : (K → K → Bool) → Type 0
    RisingEqMapLaw eq = (xs : List (K × V)) → Rising cmp xs → (k : K)
        → update_all eq (λ _. None) xs k ≡ value_under cmp xs k

-- a call that answered r is a run: of no item where r is None, and else of that one
abbrev pub IsCallRun : {S A : Type 0} → (S → Option A → S → Type 0) → S → Option A → Type 0
IsCallRun steps s r = SomeRun steps s (λ p. MatchOption r ((p.whole ≡ true) × (p.len ≡ 0))
    (λ x. (p.len ≡ 1) × (p.at 0 ≡ Some x)))
