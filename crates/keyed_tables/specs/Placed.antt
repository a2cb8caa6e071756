-- The keys of two versions of a table in one order: those of ours, with each that only theirs has after the one that it follows there.
use Rattle.std.specs.Prelude.{◌≡◌, Bool, false, not, List, [], ◌∷◌, ◌++◌, Option, None, Some, filter, if◌then◌else◌}
use Rattle.std.specs.List.{IsDistinct, flat_map, list_any}
use Rattle.std.specs.List.Sorted.{IsPermutation}

module _ {K : Type 0} (eq : K → K → Bool) where
  -- whether a key is among these
  abbrev pub is_among : List K → K → Bool
  is_among keys k = list_any (eq k) keys

  -- whether it is not
  abbrev pub is_new : List K → K → Bool
  is_new keys k = not (is_among keys k)

  -- the keys of theirs before the first that ours has
  abbrev pub new_first : List K → List K → List K
  new_first ours [] = []
  new_first ours (t ∷ ts) = if is_among ours t then [] else t ∷ new_first ours ts

  -- those after a key of theirs, before the next that ours has
  abbrev pub new_behind : List K → List K → K → List K
  new_behind ours [] k = []
  new_behind ours (t ∷ ts) k = if eq k t then new_first ours ts else new_behind ours ts k

  -- the new keys that theirs begins with, and then each key of ours with the new ones that follow it in theirs
  abbrev pub placed : List K → List K → List K
  placed ours theirs = new_first ours theirs ++ flat_map (λ k. k ∷ new_behind ours theirs k) ours

  -- the same of keys that are noted where rows come out in the order of the files
  abbrev pub placed_noted : Option (List K) → Option (List K) → Option (List K)
  placed_noted None theirs = None
  placed_noted (Some ours) None = None
  placed_noted (Some ours) (Some theirs) = Some (placed ours theirs)

  -- ks are the keys of ours and the new ones of theirs, each once: ours in their order, and each new one right after the key that it
  -- follows in theirs, or first where it is the first there
  pub record ArePlaced (ours theirs ks : List K) : Type 0 where
    pub same : IsPermutation (ours ++ filter (is_new ours) theirs) ks
    pub kept : filter (is_among ours) ks ≡ ours
    pub first : (t : K) (ts : List K) → theirs ≡ t ∷ ts → is_among ours t ≡ false → (ys : List K) × (ks ≡ t ∷ ys)
    pub behind : (xs : List K) (p t : K) (ts : List K) → theirs ≡ xs ++ p ∷ t ∷ ts → is_among ours t ≡ false
        → (us : List K) × (vs : List K) × (ks ≡ us ++ p ∷ t ∷ vs)

  -- the keys of two versions, of which none has a key twice, are so placed
  abbrev pub PlacedLaw : Type 0
  PlacedLaw = (ours theirs : List K) → IsDistinct eq ours → IsDistinct eq theirs → ArePlaced ours theirs (placed ours theirs)
