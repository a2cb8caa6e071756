-- What lists of references show.
use Rattle.std.proofs.Common.{ℕ, ◌≡◌, ◌≤◌, inl, inr, zero, suc, List, [], ◌∷◌, Bool, true, take, drop, map, refl, sym, ap, ap₂, ◌∙◌, subst}
use Rattle.std.specs.Prelude.{All, ◌↔◌, IsTrue, Vec}
use Rattle.std.specs.Borrow.{Bor}
use Rattle.std.proofs.lemmas.List.{length-map}
use Rattle.std.proofs.lemmas.List.Elements.{All-nil, All-cons, All-head, All-tail}
use Rattle.eob_both.specs.declared.either_or_both.EitherOrBoth.{EitherOrBoth}
use Rattle.eob_both.specs.declared.either_or_both.EitherOrBoth.TheVariants.{Left, Both, Right}
use Rattle.eob_both.specs.Aligned.{aligned}
use Rattle.eob_both.specs.Places.{map_places}
use Rattle.eob_both.specs.Sides.{lefts, rights, pair_of, collected}
use Rattle.eob_both.proofs.AlignedLemmas.{aligned-map}
use Rattle.eob_lists.specs.Normal.{is_both, is_left, is_right, IsNormal, IsOneSided, regrouped}
use Rattle.walk_lines.specs.Commands.{Named}
use Rattle.walk_lines.specs.Answers.{RefItem, shown, shown_sides}

abbrev now : Bor (List ℕ) → List ℕ
now w = w.now

shown_lefts : (xs : List RefItem) → lefts (map shown xs) ≡ map now (lefts xs)
shown_lefts [] = refl
shown_lefts (Left l ∷ xs) = ap (λ z. l.now ∷ z) (shown_lefts xs)
shown_lefts (Both l r ∷ xs) = ap (λ z. l.now ∷ z) (shown_lefts xs)
shown_lefts (Right r ∷ xs) = shown_lefts xs

shown_rights : (xs : List RefItem) → rights (map shown xs) ≡ map now (rights xs)
shown_rights [] = refl
shown_rights (Left l ∷ xs) = shown_rights xs
shown_rights (Both l r ∷ xs) = ap (λ z. r.now ∷ z) (shown_rights xs)
shown_rights (Right r ∷ xs) = ap (λ z. r.now ∷ z) (shown_rights xs)

pair_of-map : {A B C D : Type 0} (f : A → C) (g : B → D) (ps : List A) (qs : List B) → pair_of (map f ps) (map g qs) ≡ map_places (map f) (map g) (pair_of ps qs)
pair_of-map f g [] [] = refl
pair_of-map f g (p ∷ ps) [] = refl
pair_of-map f g [] (q ∷ qs) = refl
pair_of-map f g (p ∷ ps) (q ∷ qs) = refl

sides_map : {M : Type 0} (sides : EitherOrBoth (Vec (Bor (List ℕ)) M) (Vec (Bor (List ℕ)) M)) → shown_sides sides ≡ map_places (map now) (map now) (map_places (λ l. l.items) (λ r. r.items) sides)
sides_map (Left l) = refl
sides_map (Both l r) = refl
sides_map (Right r) = refl

-- sides that were collected from items show what the shown items are collected into
pub shown_collected : {M : Type 0} (sides : EitherOrBoth (Vec (Bor (List ℕ)) M) (Vec (Bor (List ℕ)) M)) (xs : List RefItem)
    → map_places (λ l. l.items) (λ r. r.items) sides ≡ collected xs → shown_sides sides ≡ collected (map shown xs)
shown_collected sides xs e =
    sides_map sides ∙ ap (map_places (map now) (map now)) e ∙ sym (pair_of-map now now (lefts xs) (rights xs)) ∙ sym (ap₂ pair_of (shown_lefts xs) (shown_rights xs))

-- regrouped items show the shown items regrouped
pub shown_regrouped : (made xs : List RefItem) → made ≡ aligned (lefts xs) (rights xs) → map shown made ≡ regrouped (map shown xs)
shown_regrouped made xs e = ap (map shown) e ∙ aligned-map now now (lefts xs) (rights xs) ∙ sym (ap₂ aligned (shown_lefts xs) (shown_rights xs))

-- normal forms
all_shown : (p : Named → Bool) (q : RefItem → Bool) → ((x : RefItem) → p (shown x) ≡ q x) → (xs : List RefItem) → All (λ x. q x ≡ true) xs → All (λ x. p x ≡ true) (map shown xs)
all_shown p q same [] h = All-nil (λ x. p x ≡ true)
all_shown p q same (x ∷ xs) h = All-cons (λ y. p y ≡ true) (shown x) (map shown xs) (same x ∙ All-head (λ y. q y ≡ true) x xs h) (all_shown p q same xs (All-tail (λ y. q y ≡ true) x xs h))

all_refs : (p : Named → Bool) (q : RefItem → Bool) → ((x : RefItem) → p (shown x) ≡ q x) → (xs : List RefItem) → All (λ x. p x ≡ true) (map shown xs) → All (λ x. q x ≡ true) xs
all_refs p q same [] h = All-nil (λ x. q x ≡ true)
all_refs p q same (x ∷ xs) h = All-cons (λ y. q y ≡ true) x xs (sym (same x) ∙ All-head (λ y. p y ≡ true) (shown x) (map shown xs) h) (all_refs p q same xs (All-tail (λ y. p y ≡ true) (shown x) (map shown xs) h))

both_same : (x : RefItem) → is_both (shown x) ≡ is_both x
both_same (Left l) = refl
both_same (Both l r) = refl
both_same (Right r) = refl

left_same : (x : RefItem) → is_left (shown x) ≡ is_left x
left_same (Left l) = refl
left_same (Both l r) = refl
left_same (Right r) = refl

right_same : (x : RefItem) → is_right (shown x) ≡ is_right x
right_same (Left l) = refl
right_same (Both l r) = refl
right_same (Right r) = refl

take-shown : (m : ℕ) (xs : List RefItem) → take m (map shown xs) ≡ map shown (take m xs)
take-shown zero xs = refl
take-shown (suc m) [] = refl
take-shown (suc m) (x ∷ xs) = ap (λ l. shown x ∷ l) (take-shown m xs)

drop-shown : (m : ℕ) (xs : List RefItem) → drop m (map shown xs) ≡ map shown (drop m xs)
drop-shown zero xs = refl
drop-shown (suc m) [] = refl
drop-shown (suc m) (x ∷ xs) = drop-shown m xs

one_sided_shown : (xs : List RefItem) → IsOneSided xs → IsOneSided (map shown xs)
one_sided_shown xs (inl h) = inl (all_shown is_left is_left left_same xs h)
one_sided_shown xs (inr h) = inr (all_shown is_right is_right right_same xs h)

one_sided_refs : (xs : List RefItem) → IsOneSided (map shown xs) → IsOneSided xs
one_sided_refs xs (inl h) = inl (all_refs is_left is_left left_same xs h)
one_sided_refs xs (inr h) = inr (all_refs is_right is_right right_same xs h)

normal_shown : (xs : List RefItem) → IsNormal xs → IsNormal (map shown xs)
normal_shown xs h = (
  h.0,
  subst (λ n. h.0 ≤ n) (sym (length-map xs shown)) h.1,
  subst (All (λ x. is_both x ≡ true)) (sym (take-shown h.0 xs)) (all_shown is_both is_both both_same (take h.0 xs) h.2),
  subst IsOneSided (sym (drop-shown h.0 xs)) (one_sided_shown (drop h.0 xs) h.3),
)

normal_refs : (xs : List RefItem) → IsNormal (map shown xs) → IsNormal xs
normal_refs xs h = (
  h.0,
  subst (λ n. h.0 ≤ n) (length-map xs shown) h.1,
  all_refs is_both is_both both_same (take h.0 xs) (subst (All (λ x. is_both x ≡ true)) (take-shown h.0 xs) h.2),
  one_sided_refs (drop h.0 xs) (subst IsOneSided (drop-shown h.0 xs) h.3),
)

-- a test of items of references tests what they show
pub normal_is : (b : Bool) (xs ys : List RefItem) → ys ≡ xs → (IsTrue b ↔ IsNormal ys) → (IsTrue b ↔ IsNormal (map shown xs))
normal_is b xs ys e h = ((λ t. normal_shown xs (subst IsNormal e (h.0 t))), (λ n. h.1 (subst IsNormal (sym e) (normal_refs xs n))))
