-- The forms that the code of a character has, by how many digits it needs.
use Rattle.std.proofs.Common.{ℕ, ◌<◌, List, [], ◌∷◌, cond}
use Rattle.std.specs.Prelude.{nat_lt}
use Rattle.std.proofs.lemmas.Bool.{cond_both, ltb-true}
use Rattle.std.specs.Char.Escape.{escape_unicode, hex_digit_at}

-- so many digits, and what ends them
abbrev pub one_more : ℕ → List ℕ
one_more c = hex_digit_at 1 c ∷ 125 ∷ []

abbrev pub two_more : ℕ → List ℕ
two_more c = hex_digit_at 0x10 c ∷ one_more c

abbrev pub three_more : ℕ → List ℕ
three_more c = hex_digit_at 0x100 c ∷ two_more c

abbrev pub four_more : ℕ → List ℕ
four_more c = hex_digit_at 0x1000 c ∷ three_more c

abbrev pub five_more : ℕ → List ℕ
five_more c = hex_digit_at 0x1_0000 c ∷ four_more c

abbrev pub six_more : ℕ → List ℕ
six_more c = hex_digit_at 0x10_0000 c ∷ five_more c

abbrev pub begun : List ℕ → List ℕ
begun digits = 92 ∷ 117 ∷ 123 ∷ digits

-- the code of a character that needs more digits than so many
abbrev past_five : ℕ → List ℕ
past_five c = begun (six_more c)

abbrev past_four : ℕ → List ℕ
past_four c = cond (nat_lt c 0x10_0000) (begun (five_more c)) (past_five c)

abbrev past_three : ℕ → List ℕ
past_three c = cond (nat_lt c 0x1_0000) (begun (four_more c)) (past_four c)

abbrev past_two : ℕ → List ℕ
past_two c = cond (nat_lt c 0x1000) (begun (three_more c)) (past_three c)

abbrev past_one : ℕ → List ℕ
past_one c = cond (nat_lt c 0x100) (begun (two_more c)) (past_two c)

-- it has one of the six forms
pub code_forms : (P : List ℕ → Type 0) (c : ℕ)
    → (c < 0x10 → P (begun (one_more c)))
    → (c < 0x100 → P (begun (two_more c)))
    → (c < 0x1000 → P (begun (three_more c)))
    → (c < 0x1_0000 → P (begun (four_more c)))
    → (c < 0x10_0000 → P (begun (five_more c)))
    → P (begun (six_more c)) → P (escape_unicode c)
code_forms P c a b d e f g =
    cond_both (nat_lt c 0x10) (begun (one_more c)) (past_one c) P (λ t. a (ltb-true c 0x10 t))
    (λ t. cond_both (nat_lt c 0x100) (begun (two_more c)) (past_two c) P (λ t. b (ltb-true c 0x100 t))
    (λ t. cond_both (nat_lt c 0x1000) (begun (three_more c)) (past_three c) P (λ t. d (ltb-true c 0x1000 t))
    (λ t. cond_both (nat_lt c 0x1_0000) (begun (four_more c)) (past_four c) P (λ t. e (ltb-true c 0x1_0000 t))
    (λ t. cond_both (nat_lt c 0x10_0000) (begun (five_more c)) (past_five c) P (λ t. f (ltb-true c 0x10_0000 t)) (λ t. g)))))
