-- What a map or a set holds once a list of entries or items was collected into it. Keys that are equal by eq, or that cmp finds equal,
-- count as one. The laws in src/laws/contents.rt say of the words that look something up (last_value, first_items, first_list) what they
-- mean by places.
use Rattle.std.specs.Prelude.{◌≡◌, ◌<◌, ℕ, Bool, false, true, not, filter, length, List, [], ◌∷◌, ◌++◌, Option, reverse, unwrap_or}
use Rattle.std.specs.BTreeMap.{is_at}
use Rattle.std.specs.List.{AllPairs, IsDistinct, list_any, position_or_len}
use Rattle.std.specs.List.Sorted.{IsStrictlySortedBy}
use Rattle.std.specs.Map.{keys_of, lookup}
use Rattle.std.specs.Ordering.{eq_by_cmp}
use Rattle.std.specs.declared.cmp.Ordering.{Ordering}
use Rattle.std.specs.Set.{distinct_count, is_member}

module _ {K : Type 0} (eq : K → K → Bool) where
  -- the distinct items, in the order of their first places
  abbrev pub first_items : List K → List K
  first_items [] = []
  first_items (x ∷ xs) = x ∷ filter (λ y. not (eq x y)) (first_items xs)

  -- where the first item stands that is equal to x, or the length
  abbrev pub first_place : List K → K → ℕ
  first_place xs x = position_or_len (eq x) xs

  -- of two items of ks, the one that stands first has its first place in xs before the other's
  unfoldable pub StandByFirstPlaces : List K → List K → Type 0
  StandByFirstPlaces xs ks = AllPairs (λ a b. first_place xs a < first_place xs b) ks

  -- ks has the items of xs, each once, and no other
  pub record AreMembers (xs ks : List K) : Type 0 where
    pub once : IsDistinct eq ks
    pub same : (k : K) → is_member eq ks k ≡ is_member eq xs k
    pub count : length ks ≡ distinct_count eq xs

  -- ks has the distinct items of xs, in the order of their first places
  pub record AreFirstItems (xs ks : List K) : Type 0 where
    pub order : ks ≡ first_items xs
    pub once : IsDistinct eq ks
    pub same : (k : K) → is_member eq ks k ≡ is_member eq xs k
    pub count : length ks ≡ distinct_count eq xs

module _ {K V : Type 0} (eq : K → K → Bool) where
  -- the value at the last place that holds the key: the first that is met from the end
  abbrev pub last_value : List (K × V) → K → Option V
  last_value kvs k = lookup (eq k) (reverse kvs)

  -- some place of kvs holds the key k with the value v, and no later place holds the key
  unfoldable pub IsLastValue : List (K × V) → K → V → Type 0
  IsLastValue kvs k v = (before : List (K × V)) × (j : K) × (after : List (K × V))
      × (kvs ≡ before ++ (j, v) ∷ after) × (eq k j ≡ true) × (is_member eq (keys_of after) k ≡ false)

  -- the distinct keys in the order of their first places, each with the value of its last place
  abbrev pub first_list : List (K × V) → List (K × V)
  first_list [] = []
  first_list (e ∷ kvs) = (e.0, unwrap_or (last_value kvs e.0) e.1) ∷ filter (λ f. not (eq e.0 f.0))
      (first_list kvs)

  -- es binds each key of kvs once, to the value of its last place, and no other key
  pub record IsLastMap (kvs es : List (K × V)) : Type 0 where
    pub once : IsDistinct eq (keys_of es)
    pub last : (k : K) → lookup (eq k) es ≡ last_value kvs k
    pub count : length es ≡ distinct_count eq (keys_of kvs)

  -- es has the distinct keys of kvs in the order of their first places, each with the value of its last place
  pub record IsFirstList (kvs es : List (K × V)) : Type 0 where
    pub entries : es ≡ first_list kvs
    pub order : keys_of es ≡ first_items eq (keys_of kvs)
    pub once : IsDistinct eq (keys_of es)
    pub last : (k : K) → lookup (eq k) es ≡ last_value kvs k
    pub count : length es ≡ distinct_count eq (keys_of kvs)

-- equal contents, of maps and sets that may be walked in another order
module _ {K : Type 0} (eq : K → K → Bool) where
  -- ls has the items of ks, each once, and no other
  pub record AreSameMembers (ks ls : List K) : Type 0 where
    pub once : IsDistinct eq ls
    pub same : (k : K) → is_member eq ls k ≡ is_member eq ks k
    pub count : length ls ≡ length ks

  -- fs binds the keys of es to the same values, each key once, and no other key
  pub record IsSameMap {V : Type 0} (es fs : List (K × V)) : Type 0 where
    pub once : IsDistinct eq (keys_of fs)
    pub same : (k : K) → lookup (eq k) fs ≡ lookup (eq k) es
    pub count : length fs ≡ length es

module _ {K : Type 0} (cmp : K → K → Ordering) where
  -- ks has the items of xs, each once and in strictly increasing order, and no other
  pub record AreRisingMembers (xs ks : List K) : Type 0 where
    pub rising : IsStrictlySortedBy cmp ks
    pub same : (k : K) → list_any (is_at (cmp k)) ks ≡ is_member (eq_by_cmp cmp) xs k
    pub count : length ks ≡ distinct_count (eq_by_cmp cmp) xs

module _ {K V : Type 0} (cmp : K → K → Ordering) where
  -- es binds each key of kvs once, to the value of its last place, and no other key, and its keys strictly increase
  pub record IsRisingMap (kvs es : List (K × V)) : Type 0 where
    pub rising : IsStrictlySortedBy cmp (keys_of es)
    pub last : (k : K) → lookup (is_at (cmp k)) es ≡ last_value (eq_by_cmp cmp) kvs k
    pub count : length es ≡ distinct_count (eq_by_cmp cmp) (keys_of kvs)

-- equal contents, in strictly increasing order
module _ {K : Type 0} (cmp : K → K → Ordering) where
  -- ls has the items of ks, each once and in strictly increasing order, and no other
  pub record AreSameRisingMembers (ks ls : List K) : Type 0 where
    pub rising : IsStrictlySortedBy cmp ls
    pub same : (k : K) → list_any (is_at (cmp k)) ls ≡ list_any (is_at (cmp k)) ks
    pub count : length ls ≡ length ks

  -- fs binds the keys of es to the same values, each key once, and no other key, and its keys strictly increase
  pub record IsSameRisingMap {V : Type 0} (es fs : List (K × V)) : Type 0 where
    pub rising : IsStrictlySortedBy cmp (keys_of fs)
    pub same : (k : K) → lookup (is_at (cmp k)) fs ≡ lookup (is_at (cmp k)) es
    pub count : length fs ≡ length es
