-- Calls of the ends of two sides that are aligned, and what they give as a text.
use Rattle.std.proofs.Common.{ℕ, ◌≡◌, ◌+◌, ◌-◌, ◌<◌, zero, suc, List, [], ◌∷◌, ◌++◌, Bool, true, false, map, length, get_or, Option, Some, None, refl, sym, ap, ap₂, ◌∙◌, subst, append_assoc, arith}
use Rattle.std.specs.Prelude.{nat_lt, if◌then◌else◌, slice_get, codes, Vec}
use Rattle.std.specs.Borrow.{Bor}
use Rattle.std.specs.Fmt.{decimal}
use Rattle.std.specs.List.{flat_map}
use Rattle.std.specs.Option.{option_map}
use Rattle.std.proofs.lemmas.List.{length-map}
use Rattle.eob_both.specs.declared.either_or_both.EitherOrBoth.{EitherOrBoth}
use Rattle.eob_both.specs.declared.either_or_both.EitherOrBoth.TheVariants.{Left, Both, Right}
use Rattle.eob_both.specs.Aligned.{aligned}
use Rattle.eob_both.specs.Places.{left_place, right_place, map_places}
use Rattle.eob_both.specs.Sides.{collected, lefts, pair_of, rights}
use Rattle.eob_both.proofs.AlignedLemmas.{aligned-map}
use Rattle.eob_lists.specs.Answers.{MatchEnd, answer_at, answers, answers_after, left_over}
use Rattle.eob_lists.specs.Normal.{regrouped}
use Rattle.eob_lists.specs.declared.drive.End.{End}
use Rattle.eob_lists.specs.declared.drive.End.TheVariants.{Front, Back}
use Rattle.eob_lists.proofs.StdEnds.{items_of}
use Rattle.walk_lines.specs.Commands.{Named, end_letter}
use Rattle.walk_lines.specs.Texts.{driven_text, ends_text, given_text}
use Rattle.walk_lines.specs.Answers.{RefItem, end_of, shown, shown_sides, side_by_side}

-- letters that were written for calls call them
pub letters_back : (ends : List End) → map end_of (map end_letter ends) ≡ ends
letters_back [] = refl
letters_back (Front ∷ ends) = ap (λ l. Front ∷ l) (letters_back ends)
letters_back (Back ∷ ends) = ap (λ l. Back ∷ l) (letters_back ends)

pair_aligned : {A B : Type 0} (ps : List A) (qs : List B) → side_by_side (pair_of ps qs) ≡ aligned ps qs
pair_aligned [] [] = refl
pair_aligned (p ∷ ps) [] = refl
pair_aligned [] (q ∷ qs) = refl
pair_aligned (p ∷ ps) (q ∷ qs) = refl

pub collected_aligned : (items : List Named) → side_by_side (collected items) ≡ regrouped items
collected_aligned items = pair_aligned (lefts items) (rights items)

-- the call that stands at a place
pub call_at : (letters : List ℕ) (i d : ℕ) → i < length letters → get_or (map end_of letters) i Front ≡ end_of (get_or letters i d)
call_at [] i d h = absurd (omega arith)
call_at (b ∷ letters) zero d h = refl
call_at (b ∷ letters) (suc i) d h = call_at letters i d (omega arith)

-- calls of the ends of a list give what they give of the list of its items' values
slice_get-map : {A B : Type 0} (f : A → B) (xs : List A) (i : ℕ) → slice_get (map f xs) i ≡ option_map f (slice_get xs i)
slice_get-map f [] i = refl
slice_get-map f (x ∷ xs) zero = refl
slice_get-map f (x ∷ xs) (suc i) = slice_get-map f xs i

if-map : {A B : Type 0} (f : A → B) (t : Bool) (o : Option A) → (if t then option_map f o else None) ≡ option_map f (if t then o else None)
if-map f true o = refl
if-map f false o = refl

at-map : {A B : Type 0} (f : A → B) (xs : List A) (m n : ℕ) (e : End) → answer_at (map f xs) m n e ≡ option_map f (answer_at xs m n e)
at-map f xs m n Front =
    ap₂ (λ k o. if nat_lt (m + n) k then o else None) (length-map xs f) (slice_get-map f xs m)
    ∙ if-map f (nat_lt (m + n) (length xs)) (slice_get xs m)
at-map f xs m n Back =
    ap₂ (λ k o. if nat_lt (m + n) k then o else None) (length-map xs f) (ap (λ k. slice_get (map f xs) (k - 1 - n)) (length-map xs f) ∙ slice_get-map f xs (length xs - 1 - n))
    ∙ if-map f (nat_lt (m + n) (length xs)) (slice_get xs (length xs - 1 - n))

after-map : {A B : Type 0} (f : A → B) (xs : List A) (m n : ℕ) (calls : List End) → answers_after (map f xs) m n calls ≡ map (option_map f) (answers_after xs m n calls)
after-map f xs m n [] = refl
after-map f xs m n (Front ∷ calls) = ap₂ (λ o l. o ∷ l) (at-map f xs m n Front) (after-map f xs (m + 1) n calls)
after-map f xs m n (Back ∷ calls) = ap₂ (λ o l. o ∷ l) (at-map f xs m n Back) (after-map f xs m (n + 1) calls)

-- an item as it is
abbrev pub as_it_is : RefItem → RefItem
as_it_is item = map_places (λ l. l) (λ r. r) item

-- what a call gave, and a space
abbrev pub given_part : Option RefItem → List ℕ
given_part given = given_text (option_map shown given) ++ codes " "

same_part : (given : Option RefItem) → given_text (option_map shown (option_map as_it_is given)) ++ codes " " ≡ given_part given
same_part None = refl
same_part (Some (Left l)) = refl
same_part (Some (Both l r)) = refl
same_part (Some (Right r)) = refl

parts_shown : (given : List (Option RefItem)) → flat_map (λ o. given_text o ++ codes " ") (map (option_map shown) (map (option_map as_it_is) given)) ≡ flat_map given_part given
parts_shown [] = refl
parts_shown (g ∷ given) = ap₂ (λ p l. p ++ l) (same_part g) (parts_shown given)

-- the words of two sides, aligned
abbrev pub items_of_sides : {M : Type 0} → EitherOrBoth (Vec (Bor (List ℕ)) M) (Vec (Bor (List ℕ)) M) → List RefItem
items_of_sides sides = aligned (items_of (left_place sides)) (items_of (right_place sides))

sides_shown : {M : Type 0} (sides : EitherOrBoth (Vec (Bor (List ℕ)) M) (Vec (Bor (List ℕ)) M)) → side_by_side (shown_sides sides) ≡ map shown (items_of_sides sides)
sides_shown (Left l) = sym (aligned-map (λ w. w.now) (λ w. w.now) l.items [])
sides_shown (Both l r) = sym (aligned-map (λ w. w.now) (λ w. w.now) l.items r.items)
sides_shown (Right r) = sym (aligned-map (λ w. w.now) (λ w. w.now) [] r.items)

-- a letter calls the end that stands at its place
pub called : (letters : List ℕ) (i d : ℕ) (P Q : Type 0) → i < length letters → MatchEnd (end_of (get_or letters i d)) P Q → MatchEnd (get_or (map end_of letters) i Front) P Q
called letters i d P Q h m = subst (λ e. MatchEnd e P Q) (sym (call_at letters i d h)) m

-- what all the calls gave, and how many items are left, are written after what stood there
pub driven : {M : Type 0} (sides : EitherOrBoth (Vec (Bor (List ℕ)) M) (Vec (Bor (List ℕ)) M)) (calls : List End) (given : List (Option RefItem)) (left : ℕ) (start before named output : List ℕ)
    → map (option_map as_it_is) given ≡ answers (items_of_sides sides) calls → left ≡ left_over (items_of_sides sides) calls
    → before ≡ start ++ flat_map given_part given → named ≡ before ++ codes "left " → output ≡ named ++ decimal left
    → output ≡ start ++ driven_text (side_by_side (shown_sides sides)) calls
driven sides calls given left start before named output e n b m o =
    let xs = items_of_sides sides in
    let parts = flat_map given_part given in
    let answered : answers (side_by_side (shown_sides sides)) calls ≡ map (option_map shown) (map (option_map as_it_is) given) =
    ap (λ l. answers l calls) (sides_shown sides) ∙ after-map shown xs 0 0 calls ∙ ap (map (option_map shown)) (sym e) in
    let counted : left_over (side_by_side (shown_sides sides)) calls ≡ left = omega (arith, n, ap length (sides_shown sides), length-map xs shown) in
    let text : driven_text (side_by_side (shown_sides sides)) calls ≡ parts ++ (codes "left " ++ decimal left) =
    ap₂ ends_text answered counted ∙ ap (λ l. l ++ (codes "left " ++ decimal left)) (parts_shown given) in
    o
    ∙ ap (λ l. l ++ decimal left) (m ∙ ap (λ l. l ++ codes "left ") b)
    ∙ append_assoc (start ++ parts) (codes "left ") (decimal left)
    ∙ append_assoc start parts (codes "left " ++ decimal left)
    ∙ ap (λ l. start ++ l) (sym text)
