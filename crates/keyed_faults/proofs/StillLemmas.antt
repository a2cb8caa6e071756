-- What stands for a cell moves nothing on a terminal, and is characters.
use Rattle.std.proofs.Common.{◌≡◌, ◌∙◌, ℕ, ◌/◌, ◌%◌, ◌<◌, ◌≤◌, ◌==◌, Bool, true, false, not, List, [], ◌∷◌, ◌++◌, refl, sym, subst, arith}
use Rattle.std.proofs.lemmas.Bool.{and_from, cond_both, not-false, not_from_true, or_from, or_parts}
use Rattle.std.proofs.lemmas.Bool.Decides.{nat_tests}
use Rattle.std.proofs.lemmas.List.Folds.{list_any-append}
use Rattle.std.specs.Char.{IsScalar, digit_char}
use Rattle.std.specs.Char.Escape.{escape_unicode, hex_digit_at}
use Rattle.std.specs.List.{list_any}
use lib.Utf8.{scalar, scalars}
use mathlib.Core.Logic.{inl, inr}
use Rattle.keyed_faults.proofs.CodeLemmas.{begun, code_forms, one_more, two_more, three_more, four_more, five_more, six_more}
use Rattle.keyed_faults.specs.ShownCells.{AreSignsShown, IsCellShown, IsCharShown, IsSignShown, ShowsNoControlLaw, Sign, escape_byte, is_moving, letter_of}
use Rattle.keyed_faults.specs.ShownCells.Sign.{char, byte}

-- a test that no printable ASCII passes, and no character that stands as it is
module _ (p : ℕ → Bool) (ascii : (c : ℕ) → 32 ≤ c → c < 127 → p c ≡ false) (bare : (c : ℕ) → IsScalar c → is_moving c ≡ false → p c ≡ false) where
  record AreStill (cs : List ℕ) : Type 0 where
    none : list_any p cs ≡ false

  still_nil : AreStill []
  still_nil = record { none = refl }

  still_append : (xs ys : List ℕ) → AreStill xs → AreStill ys → AreStill (xs ++ ys)
  still_append xs ys h k = record { none = list_any-append p xs ys ∙ or_from _ _ h.none k.none }

  still_first : (c : ℕ) (cs : List ℕ) → p c ≡ false → AreStill cs → AreStill (c ∷ cs)
  still_first c cs h k = record { none = or_from _ _ h k.none }

  still_digit : (d : ℕ) (cs : List ℕ) → d < 16 → AreStill cs → AreStill (digit_char d ∷ cs)
  still_digit d cs h k =
      let low : 32 ≤ digit_char d = grind (arith, nat_tests) in
      let high : digit_char d < 127 = grind (arith, nat_tests) in
      still_first (digit_char d) cs (ascii (digit_char d) low high) k

  -- one more digit of a code
  still_hex : (q c : ℕ) (cs : List ℕ) → AreStill cs → AreStill (hex_digit_at q c ∷ cs)
  still_hex q c cs k = still_digit (c / q % 16) cs (omega arith) k

  still_begun : (cs : List ℕ) → AreStill cs → AreStill (begun cs)
  still_begun cs h =
      still_first 92 (117 ∷ 123 ∷ cs) (ascii 92 (omega arith) (omega arith)) (still_first 117 (123 ∷ cs) (ascii 117 (omega arith) (omega arith)) (still_first 123 cs (ascii 123 (omega arith) (omega arith)) h))

  still_code : (c : ℕ) → AreStill (escape_unicode c)
  still_code c =
      let one = still_hex 1 c (125 ∷ []) (still_first 125 [] (ascii 125 (omega arith) (omega arith)) still_nil) in
      let two = still_hex 0x10 c (one_more c) one in
      let three = still_hex 0x100 c (two_more c) two in
      let four = still_hex 0x1000 c (three_more c) three in
      let five = still_hex 0x1_0000 c (four_more c) four in
      let six = still_hex 0x10_0000 c (five_more c) five in
      code_forms AreStill c (λ h. still_begun (one_more c) one) (λ h. still_begun (two_more c) two) (λ h. still_begun (three_more c) three)
      (λ h. still_begun (four_more c) four) (λ h. still_begun (five_more c) five) (still_begun (six_more c) six)

  abbrev IsLetter : ℕ → Type 0
  IsLetter l = 0 < l → p l ≡ false

  -- by which of the characters with an escape by a letter it is
  still_letter : (c : ℕ) → IsLetter (letter_of c)
  still_letter c =
      let one : (l : ℕ) → 32 ≤ l → l < 127 → IsLetter l = λ l low high some. ascii l low high in
      cond_both (c == 0) 48 _ IsLetter (λ e. one 48 (omega arith) (omega arith))
      (λ e. cond_both (c == 9) 116 _ IsLetter (λ e. one 116 (omega arith) (omega arith))
      (λ e. cond_both (c == 10) 110 _ IsLetter (λ e. one 110 (omega arith) (omega arith))
      (λ e. cond_both (c == 13) 114 _ IsLetter (λ e. one 114 (omega arith) (omega arith))
      (λ e. cond_both (c == 34) 34 _ IsLetter (λ e. one 34 (omega arith) (omega arith))
      (λ e. cond_both (c == 92) 92 0 IsLetter (λ e. one 92 (omega arith) (omega arith)) (λ e some. absurd (omega arith)))))))

  still_char : (c : ℕ) (t : List ℕ) → IsScalar c → IsCharShown c t → AreStill t
  still_char c t scalar (inl (still, e)) = subst AreStill (sym e) (still_first c [] (bare c scalar (or_parts _ _ still).0) still_nil)
  still_char c t scalar (inr (inl (some, e))) =
      subst AreStill (sym e) (still_first 92 (letter_of c ∷ []) (ascii 92 (omega arith) (omega arith)) (still_first (letter_of c) [] (still_letter c some) still_nil))
  still_char c t scalar (inr (inr e)) = subst AreStill (sym e) (still_code c)

  still_byte : (b : ℕ) → b < 256 → AreStill (escape_byte b)
  still_byte b small =
      still_first 92 (120 ∷ digit_char (b / 16) ∷ digit_char (b % 16) ∷ []) (ascii 92 (omega arith) (omega arith))
      (still_first 120 (digit_char (b / 16) ∷ digit_char (b % 16) ∷ []) (ascii 120 (omega arith) (omega arith))
      (still_digit (b / 16) (digit_char (b % 16) ∷ []) (omega arith) (still_digit (b % 16) [] (omega arith) still_nil)))

  still_sign : (s : Sign) (t : List ℕ) → IsSignShown s t → AreStill t
  still_sign (char c) t h = still_char c t h.0 h.1
  still_sign (byte b) t h = subst AreStill (sym h.1) (still_byte b h.0)

  still_signs : (ss : List Sign) (t : List ℕ) → AreSignsShown ss t → AreStill t
  still_signs [] t h = subst AreStill (sym h) still_nil
  still_signs (s ∷ ss) t h = subst AreStill (sym h.4) (still_append h.0 h.1 (still_sign s h.0 h.2) (still_signs ss h.1 h.3))

  none_shown : (ss : List Sign) (t : List ℕ) → AreSignsShown ss t → list_any p t ≡ false
  none_shown ss t h = (still_signs ss t h).none

-- printable ASCII moves nothing
still_ascii : (c : ℕ) → 32 ≤ c → c < 127 → is_moving c ≡ false
still_ascii c low high = grind (arith, nat_tests)

still_cell : (cell t : List ℕ) → IsCellShown cell t → list_any is_moving t ≡ false
still_cell cell t (inl h) = h.1
still_cell cell t (inr h) =
    let inner = none_shown is_moving still_ascii (λ c scalar still. still) h.1.signs h.0 h.1.each in
    subst (λ cs. list_any is_moving cs ≡ false) (sym h.2) (or_from _ _ refl (list_any-append is_moving h.0 (34 ∷ []) ∙ or_from _ _ inner refl))

pub shows_no_control : ShowsNoControlLaw
shows_no_control cell text h = (h.0, h.1, still_cell cell h.0 h.2)

-- printable ASCII is characters
abbrev is_no_scalar : ℕ → Bool
is_no_scalar c = not (scalar c)

scalar_ascii : (c : ℕ) → 32 ≤ c → c < 127 → is_no_scalar c ≡ false
scalar_ascii c low high = grind (arith, nat_tests)

are_scalars : (cs : List ℕ) → list_any is_no_scalar cs ≡ false → scalars cs ≡ true
are_scalars [] h = refl
are_scalars (c ∷ cs) h =
    let parts = or_parts _ _ h in
    and_from _ _ (not-false _ parts.0) (are_scalars cs parts.1)

-- what stands between quotes for bytes is characters, and so are the quotes
pub quoted_scalars : (ss : List Sign) (t : List ℕ) → AreSignsShown ss t → scalars (34 ∷ (t ++ 34 ∷ [])) ≡ true
quoted_scalars ss t h =
    let inner = none_shown is_no_scalar scalar_ascii (λ c scalar still. not_from_true _ scalar) ss t h in
    are_scalars (34 ∷ (t ++ 34 ∷ [])) (or_from _ _ refl (list_any-append is_no_scalar t (34 ∷ []) ∙ or_from _ _ inner refl))
