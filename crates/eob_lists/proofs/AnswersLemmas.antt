-- The answers of calls of the ends of a list, by what the first call takes.
use Rattle.std.proofs.Common.{◌≡◌, ℕ, zero, suc, ◌+◌, ◌-◌, ◌<◌, ◌≤◌, List, [], ◌∷◌, ◌++◌, length, Option, Some, None, nat_lt, slice_get, false, inl, inr, refl, sym, ap, ap₂, ◌∙◌, add-one, append_assoc, reverse, arith}
use Rattle.std.proofs.lemmas.Bool.{cases_lt, lt-ltb, le-ltb}
use Rattle.std.proofs.lemmas.Grind.{reverse_onto}
use Rattle.std.proofs.lemmas.List.{length-append}
use Rattle.eob_lists.specs.declared.drive.End.{End}
use Rattle.eob_lists.specs.declared.drive.End.TheVariants.{Front, Back}
use Rattle.eob_lists.specs.Answers.{answer_at, answers_after, answers, from_back, from_front, WholeWalkLaw}

nat_lt_no : (a b : ℕ) → b ≤ a → nat_lt a b ≡ false
nat_lt_no a b h = le-ltb a b h

module _ {A : Type 0} where
  slice_get-front : (xs ys : List A) (i : ℕ) → i < length xs → slice_get (xs ++ ys) i ≡ slice_get xs i
  slice_get-front [] ys i h = absurd (omega arith)
  slice_get-front (x ∷ xs) ys zero h = refl
  slice_get-front (x ∷ xs) ys (suc i) h = slice_get-front xs ys i (omega arith)

  slice_get-seam : (xs : List A) (y : A) → slice_get (xs ++ y ∷ []) (length xs) ≡ Some y
  slice_get-seam [] y = refl
  slice_get-seam (x ∷ xs) y = slice_get-seam xs y

  within_front : (xs : List A) (f b : ℕ) → f + b < length xs → answer_at xs f b Front ≡ slice_get xs f
  within_front xs f b h = rw (lt-ltb (f + b) (length xs) h) refl

  within_back : (xs : List A) (f b : ℕ) → f + b < length xs → answer_at xs f b Back ≡ slice_get xs (length xs - 1 - b)
  within_back xs f b h = rw (lt-ltb (f + b) (length xs) h) refl

  past : (xs : List A) (f b : ℕ) (e : End) → length xs ≤ f + b → answer_at xs f b e ≡ None
  past xs f b Front h = rw (nat_lt_no (f + b) (length xs) h) refl
  past xs f b Back h = rw (nat_lt_no (f + b) (length xs) h) refl

  -- the first item taken, and one call of the front more
  at-cons : (x : A) (xs : List A) (f b : ℕ) (e : End) → answer_at (x ∷ xs) (f + 1) b e ≡ answer_at xs f b e
  at-cons x xs f b e = elim (cases_lt (f + b) (length xs)) [
    | inl h ↦ in_list e h
    | inr h ↦ past (x ∷ xs) (f + 1) b e (omega arith) ∙ sym (past xs f b e h)
  ] where
    in_list : (e : End) → f + b < length xs → answer_at (x ∷ xs) (f + 1) b e ≡ answer_at xs f b e
    in_list Front h = within_front (x ∷ xs) (f + 1) b (omega arith) ∙ ap (slice_get (x ∷ xs)) (add-one f) ∙ sym (within_front xs f b h)
    in_list Back h =
        let same : length (x ∷ xs) - 1 - b ≡ suc (length xs - 1 - b) = omega arith in
        within_back (x ∷ xs) (f + 1) b (omega arith) ∙ ap (slice_get (x ∷ xs)) same ∙ sym (within_back xs f b h)

  -- the last item taken, and one call of the back more
  at-last : (xs : List A) (y : A) (f b : ℕ) (e : End) → answer_at (xs ++ y ∷ []) f (b + 1) e ≡ answer_at xs f b e
  at-last xs y f b e = elim (cases_lt (f + b) (length xs)) [
    | inl h ↦ in_list e h
    | inr h ↦ past (xs ++ y ∷ []) f (b + 1) e (let k = length-append xs (y ∷ []) in omega (arith, k)) ∙ sym (past xs f b e h)
  ] where
    in_list : (e : End) → f + b < length xs → answer_at (xs ++ y ∷ []) f (b + 1) e ≡ answer_at xs f b e
    in_list Front h = within_front (xs ++ y ∷ []) f (b + 1) (let k = length-append xs (y ∷ []) in omega (arith, k)) ∙ slice_get-front xs (y ∷ []) f (omega arith) ∙ sym (within_front xs f b h)
    in_list Back h =
        let k = length-append xs (y ∷ []) in
        let same : length (xs ++ y ∷ []) - 1 - (b + 1) ≡ length xs - 1 - b = omega (arith, k) in
        within_back (xs ++ y ∷ []) f (b + 1) (omega (arith, k)) ∙ ap (slice_get (xs ++ y ∷ [])) same ∙ slice_get-front xs (y ∷ []) (length xs - 1 - b) (omega arith) ∙ sym (within_back xs f b h)

  after-cons : (x : A) (xs : List A) (f b : ℕ) (calls : List End) → answers_after (x ∷ xs) (f + 1) b calls ≡ answers_after xs f b calls
  after-cons x xs f b [] = refl
  after-cons x xs f b (Front ∷ more) = ap₂ (λ a l. a ∷ l) (at-cons x xs f b Front) (after-cons x xs (f + 1) b more)
  after-cons x xs f b (Back ∷ more) = ap₂ (λ a l. a ∷ l) (at-cons x xs f b Back) (after-cons x xs f (b + 1) more)

  after-last : (xs : List A) (y : A) (f b : ℕ) (calls : List End) → answers_after (xs ++ y ∷ []) f (b + 1) calls ≡ answers_after xs f b calls
  after-last xs y f b [] = refl
  after-last xs y f b (Front ∷ more) = ap₂ (λ a l. a ∷ l) (at-last xs y f b Front) (after-last xs y (f + 1) b more)
  after-last xs y f b (Back ∷ more) = ap₂ (λ a l. a ∷ l) (at-last xs y f b Back) (after-last xs y f (b + 1) more)

  after-nil : (f b g c : ℕ) (calls : List End) → answers_after {A = A} [] f b calls ≡ answers_after [] g c calls
  after-nil f b g c [] = refl
  after-nil f b g c (Front ∷ more) = ap₂ (λ a l. a ∷ l) (past [] f b Front (omega arith) ∙ sym (past [] g c Front (omega arith))) (after-nil (f + 1) b (g + 1) c more)
  after-nil f b g c (Back ∷ more) = ap₂ (λ a l. a ∷ l) (past [] f b Back (omega arith) ∙ sym (past [] g c Back (omega arith))) (after-nil f (b + 1) g (c + 1) more)

  pub answers-front : (x : A) (xs : List A) (calls : List End) → answers (x ∷ xs) (Front ∷ calls) ≡ Some x ∷ answers xs calls
  answers-front x xs calls = ap₂ (λ a l. a ∷ l) (within_front (x ∷ xs) 0 0 (omega arith)) (after-cons x xs 0 0 calls)

  pub answers-back : (xs : List A) (y : A) (calls : List End) → answers (xs ++ y ∷ []) (Back ∷ calls) ≡ Some y ∷ answers xs calls
  answers-back xs y calls =
      let k = length-append xs (y ∷ []) in
      let same : length (xs ++ y ∷ []) - 1 - 0 ≡ length xs = omega (arith, k) in
      ap₂ (λ a l. a ∷ l) (within_back (xs ++ y ∷ []) 0 0 (omega (arith, k)) ∙ ap (slice_get (xs ++ y ∷ [])) same ∙ slice_get-seam xs y) (after-last xs y 0 0 calls)

  pub answers-none : (e : End) (calls : List End) → answers {A = A} [] (e ∷ calls) ≡ None ∷ answers [] calls
  answers-none Front calls = ap (λ l. None ∷ l) (after-nil 1 0 0 0 calls)
  answers-none Back calls = ap (λ l. None ∷ l) (after-nil 0 1 0 0 calls)

  -- a list that is not empty has a last item
  last_of : (x : A) (xs : List A) → (ys : List A) × (y : A) × (x ∷ xs ≡ ys ++ y ∷ [])
  last_of x [] = ([], x, refl)
  last_of x (z ∷ zs) = let rest = last_of z zs in (x ∷ rest.0, rest.1, ap (λ l. x ∷ l) rest.2)

  abbrev taken_by : List End → List (Option A) → List A
  taken_by ends given = from_front ends given ++ reverse (from_back ends given)

  pub whole_walk : WholeWalkLaw A
  whole_walk [] [] h = refl
  whole_walk (x ∷ xs) [] h = absurd (omega arith)
  whole_walk [] (Front ∷ ends) h = ap (taken_by (Front ∷ ends)) (answers-none Front ends) ∙ whole_walk [] ends (omega arith)
  whole_walk [] (Back ∷ ends) h = ap (taken_by (Back ∷ ends)) (answers-none Back ends) ∙ whole_walk [] ends (omega arith)
  whole_walk (x ∷ xs) (Front ∷ ends) h = ap (taken_by (Front ∷ ends)) (answers-front x xs ends) ∙ ap (λ l. x ∷ l) (whole_walk xs ends (omega (arith, h)))
  whole_walk (x ∷ xs) (Back ∷ ends) h =
      let last = last_of x xs in
      let fewer = ap length last.2 ∙ length-append last.0 (last.1 ∷ []) in
      ap (λ l. taken_by (Back ∷ ends) (answers l (Back ∷ ends))) last.2
      ∙ ap (taken_by (Back ∷ ends)) (answers-back last.0 last.1 ends)
      ∙ ap (λ l. from_front ends (answers last.0 ends) ++ l) (reverse_onto (from_back ends (answers last.0 ends)) last.1 [])
      ∙ sym (append_assoc (from_front ends (answers last.0 ends)) (reverse (from_back ends (answers last.0 ends))) (last.1 ∷ []))
      ∙ ap (λ l. l ++ last.1 ∷ []) (whole_walk last.0 ends (omega (arith, h, fewer)))
      ∙ sym last.2
