-- What the trims of the library leave, as lists, and case that is folded.
use Rattle.std.proofs.Common.{◌≡◌, ◌-◌, ◌<◌, ◌≤◌, ℕ, zero, suc, Bool, true, false, ◌&&◌, List, [], ◌∷◌, length, take, drop, slice_index, nat_eq, ◌↔◌, ◌∙◌, IsTrue, arith, ap, refl, subst, sym}
use Rattle.std.proofs.lemmas.Str.{IsUtf8-from_is_utf8, is_utf8-from_IsUtf8}
use Rattle.std.specs.Bool.{MatchBool}
use Rattle.std.specs.Char.{is_ascii_whitespace}
use Rattle.std.specs.Cmp.Lexicographic.{pointwise, told_text}
use Rattle.std.specs.List.{list_all}
use Rattle.std.specs.Str.{IsAsciiWhitespaceBelow, IsAsciiWhitespaceFrom, IsUtf8, chars, is_utf8}
use Rattle.caseless.specs.Caseless.{IsDefaultMatch, default_case_fold}
use Rattle.keyed_numbers.specs.Cells.{same_folded, without_lead, without_trail}

pub lead : (n : ℕ) (s : List ℕ) → n ≤ length s → IsAsciiWhitespaceBelow s n
    → (n < length s → is_ascii_whitespace (slice_index s n) ≡ false) → drop n s ≡ without_lead s
lead zero [] l below stops = refl
lead zero (b ∷ bs) l below stops = rw (stops (omega arith)) refl
lead (suc n) [] l below stops = absurd (omega arith)
lead (suc n) (b ∷ bs) l below stops =
    rw (below zero (omega arith)) (lead n bs (omega arith) (λ i k. below (suc i) (omega arith)) (λ k. stops (omega arith)))

all_blank : (s : List ℕ) → IsAsciiWhitespaceFrom s zero → list_all is_ascii_whitespace s ≡ true
all_blank [] from = refl
all_blank (b ∷ bs) from = rw (from zero (omega arith) (omega arith)) (all_blank bs (λ i k l. from (suc i) (omega arith) (omega arith)))

blank_none : (s : List ℕ) → list_all is_ascii_whitespace s ≡ true → without_trail s ≡ []
blank_none [] e = refl
blank_none (b ∷ bs) e = rw e refl

and_false : (b : Bool) → (b && false) ≡ false
and_false true = refl
and_false false = refl

not_all : (n : ℕ) (s : List ℕ) → n < length s → is_ascii_whitespace (slice_index s n) ≡ false → list_all is_ascii_whitespace s ≡ false
not_all n [] l e = absurd (omega arith)
not_all zero (b ∷ bs) l e = rw e refl
not_all (suc n) (b ∷ bs) l e = rw (not_all n bs (omega arith) e) (and_false (is_ascii_whitespace b))

less_one : (n : ℕ) → suc n - 1 ≡ n
less_one n = omega arith

more : (n : ℕ) (b : ℕ) (bs : List ℕ) → is_ascii_whitespace (slice_index (b ∷ bs) n) ≡ false
    → zero < n → is_ascii_whitespace (slice_index bs (n - 1)) ≡ false
more zero b bs e l = absurd (omega arith)
more (suc n) b bs e l = subst (λ k. is_ascii_whitespace (slice_index bs k) ≡ false) (sym (less_one n)) e

pub trail : (n : ℕ) (s : List ℕ) → n ≤ length s → IsAsciiWhitespaceFrom s n
    → (zero < n → is_ascii_whitespace (slice_index s (n - 1)) ≡ false) → take n s ≡ without_trail s
trail zero s l from stops = sym (blank_none s (all_blank s from))
trail (suc n) [] l from stops = absurd (omega arith)
trail (suc n) (b ∷ bs) l from stops =
    let last : is_ascii_whitespace (slice_index (b ∷ bs) n) ≡ false
    = subst (λ k. is_ascii_whitespace (slice_index (b ∷ bs) k) ≡ false) (less_one n) (stops (omega arith)) in
    rw (not_all n (b ∷ bs) (omega arith) last)
    (ap (λ r. b ∷ r) (trail n bs (omega arith) (λ i k m. from (suc i) (omega arith) (omega arith)) (more n b bs last)))

-- bytes that are no UTF-8
false_unless_true : (b : Bool) → ¬ (b ≡ true) → b ≡ false
false_unless_true true h = absurd (h refl)
false_unless_true false h = refl

pub no_utf8 : (bs : List ℕ) → ¬ (IsUtf8 bs) → is_utf8 bs ≡ false
no_utf8 bs h = false_unless_true (is_utf8 bs) (λ t. h (IsUtf8-from_is_utf8 bs t))

-- a test of what another one decides
decided : (b r : Bool) (P : Type 0) → (b ≡ true → P) → (P → b ≡ true) → MatchBool r P (¬ P) → b ≡ r
decided true true P f g m = refl
decided true false P f g m = absurd (m (f refl))
decided false true P f g m = g m
decided false false P f g m = refl

pub is_match : (b : Bool) (xs ys : List ℕ) → (b ≡ true → xs ≡ ys) → (xs ≡ ys → b ≡ true) → b ≡ pointwise nat_eq xs ys
is_match b xs ys f g = decided b (pointwise nat_eq xs ys) (xs ≡ ys) f g (told_text xs ys (pointwise nat_eq xs ys) refl)

-- texts of UTF-8 are the same once case is folded where a match says so
pub folded : (b : Bool) (cell other text next : List ℕ) → text ≡ cell → next ≡ other → IsUtf8 cell → IsUtf8 other
    → (IsTrue b ↔ IsDefaultMatch (chars text) (chars next)) → b ≡ same_folded cell other
folded b cell other text next e k u v h =
    let one : IsUtf8 text = subst (λ t. IsUtf8 t) (sym e) u in
    let two : IsUtf8 next = subst (λ t. IsUtf8 t) (sym k) v in
    let said : b ≡ same_folded text next = rw (is_utf8-from_IsUtf8 text one, is_utf8-from_IsUtf8 next two)
    (is_match b (default_case_fold (chars text)) (default_case_fold (chars next)) h.0 h.1) in
    said ∙ ap (λ t. same_folded t next) e ∙ ap (λ t. same_folded cell t) k

pub none_first : (cell other : List ℕ) → ¬ (IsUtf8 cell) → false ≡ same_folded cell other
none_first cell other h = rw (no_utf8 cell h) refl

pub none_next : (cell other : List ℕ) → ¬ (IsUtf8 other) → false ≡ same_folded cell other
none_next cell other h = rw (no_utf8 other h) (sym (ap (λ b. b && pointwise nat_eq (default_case_fold (chars cell)) (default_case_fold (chars other))) (and_false (is_utf8 cell))))
