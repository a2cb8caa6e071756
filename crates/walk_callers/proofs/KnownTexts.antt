-- The lines of the texts of this crate: the commands that they say, and their answers.
use Rattle.std.proofs.Common.{ℕ, zero, suc, ◌≡◌, ◌⊎◌, List, [], ◌∷◌, ◌++◌, inl, inr, take, drop, refl, ap, ◌∙◌, arith}
use Rattle.std.specs.Prelude.{All, Bool, true, false, codes}
use Rattle.std.proofs.lemmas.Fmt.{decimal_digit}
use Rattle.std.proofs.lemmas.List.Elements.{All-nil, All-cons, All-head, All-tail}
use Rattle.eob_both.specs.declared.either_or_both.EitherOrBoth.TheVariants.{Left, Both, Right}
use Rattle.eob_lists.specs.declared.drive.End.TheVariants.{Front, Back}
use Rattle.eob_lists.specs.Normal.{is_both, is_left, is_right, IsNormal}
use Rattle.line_words.specs.Words.{words}
use Rattle.walk_lines.specs.Commands.{Named, Command, Collect, Walk, Normal, Ends, HasNames, IsBad, Says}
use Rattle.walk_lines.specs.Texts.{bad_text, IsAnswer, LineAnswer}
use Rattle.walk_callers.proofs.KnownLines.{Knows, letter, Line, wordless}

-- what the laws of the answers say
abbrev pub SaidLaw : Type 0
SaidLaw = (number : ℕ) (line text : List ℕ) (bad : Bool) (command : Command) → Says line command → LineAnswer number line text bad → (bad ≡ false) × IsAnswer command text

abbrev pub BadLaw : Type 0
BadLaw = (number : ℕ) (line text : List ℕ) (bad : Bool) → IsBad line → LineAnswer number line text bad → (bad ≡ true) × (text ≡ bad_text number)

names : (x y z : Named) → HasNames x → HasNames y → HasNames z → All HasNames (x ∷ y ∷ z ∷ [])
names x y z a b c = All-cons HasNames x (y ∷ z ∷ []) a (All-cons HasNames y (z ∷ []) b (All-cons HasNames z [] c (All-nil HasNames)))

two_names : (x y : Named) → HasNames x → HasNames y → All HasNames (x ∷ y ∷ [])
two_names x y a b = All-cons HasNames x (y ∷ []) a (All-cons HasNames y [] b (All-nil HasNames))

abbrev left_a : Named
left_a = Left (codes "a")

abbrev left_c : Named
left_c = Left (codes "c")

abbrev right_b : Named
right_b = Right (codes "b")

abbrev right_d : Named
right_d = Right (codes "d")

abbrev both_ab : Named
both_ab = Both (codes "a") (codes "b")

abbrev both_bc : Named
both_bc = Both (codes "b") (codes "c")

named_a : HasNames left_a
named_a = letter 97 (omega arith) (omega arith)

named_b : HasNames right_b
named_b = letter 98 (omega arith) (omega arith)

named_c : HasNames left_c
named_c = letter 99 (omega arith) (omega arith)

named_d : HasNames right_d
named_d = letter 100 (omega arith) (omega arith)

abbrev pub collect_line : Line
collect_line = record { line = codes "collect l:a b:b:c r:d"; answer = λ _. codes "Both [a b] [c d]"; is_bad = false }

abbrev pub walk_line : Line
walk_line = record { line = codes "walk r:b l:a l:c"; answer = λ _. codes "b:a:b l:c"; is_bad = false }

abbrev pub ends_line : Line
ends_line = record { line = codes "ends bfb r:b l:a l:c"; answer = λ _. codes "l:c b:a:b . left 0"; is_bad = false }

abbrev pub normal_line : Line
normal_line = record { line = codes "normal b:a:b l:c"; answer = λ _. codes "yes"; is_bad = false }

abbrev pub blank_line : Line
blank_line = record { line = codes " "; answer = bad_text; is_bad = true }

pub second_bad : bad_text 2 ≡ codes "line 2: bad"
second_bad = ap (λ l. codes "line " ++ (l ++ codes ": bad")) (decimal_digit 2 (omega arith))

abbrev pub not_normal_line : Line
not_normal_line = record { line = codes "normal l:c b:a:b"; answer = λ _. codes "no"; is_bad = false }

says_collect : Says collect_line.line (Collect (left_a ∷ both_bc ∷ right_d ∷ []))
unfolding words
says_collect = record { words = refl; formed = names left_a both_bc right_d named_a (named_b, named_c) named_d }

pub knows_collect : SaidLaw → Knows collect_line
knows_collect law number text bad a = law number _ text bad _ says_collect a

says_walk : Says walk_line.line (Walk (right_b ∷ left_a ∷ left_c ∷ []))
unfolding words
says_walk = record { words = refl; formed = names right_b left_a left_c named_b named_a named_c }

pub knows_walk : SaidLaw → Knows walk_line
knows_walk law number text bad a = law number _ text bad _ says_walk a

says_ends : Says ends_line.line (Ends (Back ∷ Front ∷ Back ∷ []) (right_b ∷ left_a ∷ left_c ∷ []))
unfolding words
says_ends = record { words = refl; formed = ((λ e. absurd (cc (e))), names right_b left_a left_c named_b named_a named_c) }

pub knows_ends : SaidLaw → Knows ends_line
knows_ends law number text bad a =
    let said = law number _ text bad _ says_ends a in
    (said.0, said.1 ∙ ap (λ l. codes "l:c b:a:b . left " ++ l) (decimal_digit 0 (omega arith)))

says_normal : Says normal_line.line (Normal (both_ab ∷ left_c ∷ []))
unfolding words
says_normal = record { words = refl; formed = two_names both_ab left_c (named_a, named_b) named_c }

is_normal : IsNormal (both_ab ∷ left_c ∷ [])
is_normal = (
  1,
  omega arith,
  All-cons (λ x. is_both x ≡ true) both_ab [] refl (All-nil (λ x. is_both x ≡ true)),
  inl (All-cons (λ x. is_left x ≡ true) left_c [] refl (All-nil (λ x. is_left x ≡ true))),
)

yes : (text : List ℕ) → IsAnswer (Normal (both_ab ∷ left_c ∷ [])) text → text ≡ codes "yes"
yes text (inl h) = h.1
yes text (inr h) = absurd (h.0 is_normal)

pub knows_normal : SaidLaw → Knows normal_line
knows_normal law number text bad a = let said = law number _ text bad _ says_normal a in (said.0, yes text said.1)

blank_words : words blank_line.line ≡ []
unfolding words
blank_words = refl

pub knows_blank : BadLaw → Knows blank_line
knows_blank law number text bad a = law number _ text bad (wordless blank_line.line blank_words) a

says_not_normal : Says not_normal_line.line (Normal (left_c ∷ both_ab ∷ []))
unfolding words
says_not_normal = record { words = refl; formed = two_names left_c both_ab named_c (named_a, named_b) }

-- the first value is not both, and not each is a left value alone
is_not_normal : ¬ IsNormal (left_c ∷ both_ab ∷ [])
is_not_normal h = by h.0 h.2 h.3
  where
    by : (m : ℕ) → All (λ x. is_both x ≡ true) (take m (left_c ∷ both_ab ∷ [])) → (All (λ x. is_left x ≡ true) (drop m (left_c ∷ both_ab ∷ [])) ⊎ All (λ x. is_right x ≡ true) (drop m (left_c ∷ both_ab ∷ []))) → ⊥
    by zero f (inl g) = let e : false ≡ true = All-head (λ x. is_left x ≡ true) both_ab [] (All-tail (λ x. is_left x ≡ true) left_c (both_ab ∷ []) g) in absurd (cc (e))
    by zero f (inr g) = let e : false ≡ true = All-head (λ x. is_right x ≡ true) left_c (both_ab ∷ []) g in absurd (cc (e))
    by (suc m) f g = let e : false ≡ true = All-head (λ x. is_both x ≡ true) left_c (take m (both_ab ∷ [])) f in absurd (cc (e))

no : (text : List ℕ) → IsAnswer (Normal (left_c ∷ both_ab ∷ [])) text → text ≡ codes "no"
no text (inl h) = absurd (is_not_normal h.0)
no text (inr h) = h.1

pub knows_not_normal : SaidLaw → Knows not_normal_line
knows_not_normal law number text bad a = let said = law number _ text bad _ says_not_normal a in (said.0, no text said.1)
