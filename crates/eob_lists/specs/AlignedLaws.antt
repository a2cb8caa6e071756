-- Laws of the aligned list: exchanged sides, a list beside itself, three lists, and values of one side alone.
use Rattle.std.specs.Prelude.{◌≡◌, List, [], map}
use Rattle.eob_both.specs.declared.either_or_both.EitherOrBoth.{EitherOrBoth}
use Rattle.eob_both.specs.declared.either_or_both.EitherOrBoth.TheVariants.{Left, Both, Right}
use Rattle.eob_both.specs.Aligned.{aligned}
use Rattle.eob_both.specs.Sides.{lefts, rights}
use Rattle.eob_lists.specs.JoinLaws.{flipped}

-- three places of which the first two are nested, with the last two nested in place of these
abbrev pub nested_right : {A B C : Type 0} → EitherOrBoth (EitherOrBoth A B) C
    → EitherOrBoth A (EitherOrBoth B C)
nested_right (Left (Left a)) = Left a
nested_right (Left (Both a b)) = Both a (Left b)
nested_right (Left (Right b)) = Right (Left b)
nested_right (Both (Left a) c) = Both a (Right c)
nested_right (Both (Both a b) c) = Both a (Both b c)
nested_right (Both (Right b) c) = Right (Both b c)
nested_right (Right c) = Right (Right c)

-- with the sides exchanged, each item is flipped
abbrev pub AlignedFlipLaw : Type 0 → Type 0 → Type 0
AlignedFlipLaw L R = (p : List L) (q : List R) → aligned q p ≡ map flipped (aligned p q)

-- a list beside itself has each item on both sides
abbrev pub AlignedSelfLaw : Type 0 → Type 0
AlignedSelfLaw T = (p : List T) → aligned p p ≡ map (λ x. Both x x) p

-- three lists, aligned one way or the other
abbrev pub AlignedThreeLaw : Type 0 → Type 0 → Type 0 → Type 0
AlignedThreeLaw A B C = (p : List A) (q : List B) (r : List C)
    → aligned p (aligned q r) ≡ map nested_right (aligned (aligned p q) r)

-- what values of one side alone have on either side
abbrev pub LeftsAloneLaw : Type 0 → Type 0 → Type 0
LeftsAloneLaw L R = (p : List L) → (lefts {R = R} (map (λ x. Left x) p) ≡ p)
    × (rights {R = R} (map (λ x. Left x) p) ≡ [])

abbrev pub RightsAloneLaw : Type 0 → Type 0 → Type 0
RightsAloneLaw L R = (q : List R) → (rights {L = L} (map (λ y. Right y) q) ≡ q)
    × (lefts {L = L} (map (λ y. Right y) q) ≡ [])
