-- Tables in parts, each of whose keys are less than those of all later parts, and the joins of the parts.
use Rattle.std.specs.Prelude.{◌≡◌, List, [], ◌∷◌, ◌++◌, ⊤, Option, None, map}
use Rattle.std.specs.Map.{keys_of}
use Rattle.std.specs.declared.cmp.Ordering.{Ordering}
use Rattle.eob_both.specs.declared.either_or_both.EitherOrBoth.{EitherOrBoth}
use Rattle.eob_lists.specs.Join.{IsJoin, Rising, value_under}
use Rattle.eob_joins.specs.Laws.{AreBelow}
use Rattle.eob_joins.specs.Tables.{IsKeptOfJoin, Tabulates}

-- parts, one after the other
abbrev pub in_turn : {X : Type 0} → List (List X) → List X
in_turn [] = []
in_turn (part ∷ parts) = part ++ in_turn parts

-- the two lists are as long, and P holds of what stands at each place of them and of rows
abbrev pub EachPart : {P Q R : Type 0} → (P → Q → R → Type 0) → List P → List Q → List R → Type 0
EachPart Holds [] [] [] = ⊤
EachPart Holds (p ∷ ps) (q ∷ qs) (r ∷ rs) = Holds p q r × EachPart Holds ps qs rs
EachPart Holds [] [] (r ∷ rs) = ⊥
EachPart Holds [] (q ∷ qs) rs = ⊥
EachPart Holds (p ∷ ps) [] rs = ⊥
EachPart Holds (p ∷ ps) (q ∷ qs) [] = ⊥

module _ {K : Type 0} (cmp : K → K → Ordering) where
  -- each key of a part of either table is less than each key of a later part of either
  abbrev pub AreCut : {A B : Type 0} → List (List (K × A)) → List (List (K × B)) → Type 0
  AreCut [] qs = ⊤
  AreCut (p ∷ ps) [] = ⊤
  AreCut (p ∷ ps) (q ∷ qs) = AreBelow cmp (keys_of p ++ keys_of q) (keys_of (in_turn ps) ++ keys_of (in_turn qs))
      × AreCut ps qs

  -- the joins of the parts, one after the other, are the join of the wholes
  abbrev pub CutJoinsLaw : Type 0 → Type 0 → Type 0
  CutJoinsLaw A B = (ps : List (List (K × A))) (qs : List (List (K × B))) (zss : List (List (K × EitherOrBoth A B)))
      → AreCut ps qs → EachPart (λ p q zs. IsJoin cmp p q zs) ps qs zss
      → IsJoin cmp (in_turn ps) (in_turn qs) (in_turn zss)

  -- what is kept of the joins of the parts, one after the other, is what is kept of the join of the wholes
  abbrev pub CutKeptLaw : Type 0 → Type 0 → Type 0 → Type 0
  CutKeptLaw A B W = (keep : EitherOrBoth A B → Option W) (ps : List (List (K × A))) (qs : List (List (K × B)))
      (rss : List (List (K × W))) → AreCut ps qs → EachPart (λ p q rs. IsKeptOfJoin cmp keep p q rs) ps qs rss
      → IsKeptOfJoin cmp keep (in_turn ps) (in_turn qs) (in_turn rss)

-- three tables, and what was made of them
abbrev pub ThreeAndMade : Type 0 → Type 0 → Type 0 → Type 0 → Type 0 → Type 0
ThreeAndMade K A B C W = List (K × A) × List (K × B) × List (K × C) × List (K × W)

-- the wholes of parts of three tables
module _ {K A B C W : Type 0} (parts : List (ThreeAndMade K A B C W)) where
  abbrev pub whole_first : List (K × A)
  whole_first = in_turn (map (λ part. part.0) parts)

  abbrev pub whole_second : List (K × B)
  whole_second = in_turn (map (λ part. part.1) parts)

  abbrev pub whole_third : List (K × C)
  whole_third = in_turn (map (λ part. part.2) parts)

  abbrev pub whole_made : List (K × W)
  whole_made = in_turn (map (λ part. part.3) parts)

module _ {K : Type 0} (cmp : K → K → Ordering) where
  -- each key of a part of any of three tables is less than each key of a later part of any
  abbrev pub AreThreeCut : {A B C W : Type 0} → List (ThreeAndMade K A B C W) → Type 0
  AreThreeCut [] = ⊤
  AreThreeCut (part ∷ parts) = AreBelow cmp (keys_of part.0 ++ (keys_of part.1 ++ keys_of part.2))
      (keys_of (whole_first parts) ++ (keys_of (whole_second parts) ++ keys_of (whole_third parts))) × AreThreeCut parts

  module _ {A B C W : Type 0} (make : Option A → Option B → Option C → Option W) where
    -- under each key stands what is made of what the three tables have there
    abbrev pub IsMade : List (K × A) → List (K × B) → List (K × C) → List (K × W) → Type 0
    IsMade first second third made = Tabulates cmp made
        (λ k. make (value_under cmp first k) (value_under cmp second k) (value_under cmp third k))

    abbrev pub AreMade : List (ThreeAndMade K A B C W) → Type 0
    AreMade [] = ⊤
    AreMade (part ∷ parts) = IsMade part.0 part.1 part.2 part.3 × AreMade parts

  -- where nothing is made of nothing: what is made of the parts, one after the other, is what is made of the wholes
  abbrev pub CutMadeLaw : Type 0 → Type 0 → Type 0 → Type 0 → Type 0
  CutMadeLaw A B C W = (make : Option A → Option B → Option C → Option W) → make None None None ≡ None
      → (parts : List (ThreeAndMade K A B C W)) → AreThreeCut parts → AreMade make parts
      → IsMade make (whole_first parts) (whole_second parts) (whole_third parts) (whole_made parts)
