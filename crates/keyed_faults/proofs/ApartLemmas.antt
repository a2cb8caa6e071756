-- Two cells that are shown alike are the same.
use Rattle.std.proofs.Common.{◌≡◌, ◌∙◌, ℕ, ◌+◌, ◌*◌, ◌/◌, ◌%◌, ◌<◌, ◌==◌, true, false, List, [], ◌∷◌, ◌++◌, chars, cond, drop, encode_utf8, encode_utf8_all, flat_map, refl, sym, ap, ap₂, subst, arith}
use Rattle.std.proofs.lemmas.Bool.{false≢true, cond_both, eqb-true, ne_eqb, or_parts}
use Rattle.std.proofs.lemmas.Bool.Decides.{nat_tests}
use Rattle.std.proofs.lemmas.List.{append_cancel_right}
use Rattle.std.proofs.lemmas.Str.{chars-encodes, digit_value-digit_char}
use Rattle.std.specs.Char.{IsScalar, digit_char, digit_value}
use Rattle.std.specs.Char.Escape.{escape_unicode, hex_digit_at}
use lib.Utf8.{encode, scalar_cases, scalars}
use Rattle.keyed_faults.proofs.CodeLemmas.{code_forms, one_more, two_more, three_more, four_more, five_more, six_more}
use Rattle.keyed_faults.proofs.StillLemmas.{quoted_scalars}
use mathlib.Core.Logic.{⊎_elim, inl, inr}
use Rattle.keyed_faults.specs.ShownCells.{AreSignsShown, IsCharShown, IsQuoted, IsSignShown, ShownApartLaw, Sign, begins_quoted, escape_byte, letter_of, sign_bytes}
use Rattle.keyed_faults.specs.ShownCells.Sign.{char, byte}

-- the number that hexadecimal digits before a brace make, after those that make v, and what follows the brace
abbrev code_after : ℕ → List ℕ → ℕ × List ℕ
code_after v [] = (v, [])
code_after v (d ∷ rest) = cond (d == 125) (v, rest) (code_after (v * 16 + digit_value d) rest)

code_more : (v x : ℕ) (rest : List ℕ) → (x == 125) ≡ false → code_after v (x ∷ rest) ≡ code_after (v * 16 + digit_value x) rest
code_more v x rest e = rw e refl

code_digit : (v d : ℕ) (rest : List ℕ) → d < 16 → code_after v (digit_char d ∷ rest) ≡ code_after (v * 16 + d) rest
code_digit v d rest small =
    let high : digit_char d < 125 = grind (arith, nat_tests) in
    code_more v (digit_char d) rest (ne_eqb (digit_char d) 125 (λ e. absurd (omega arith)))
    ∙ ap (λ x. code_after (v * 16 + x) rest) (digit_value-digit_char d (omega arith))

code_hex : (v p c : ℕ) (rest : List ℕ) → code_after v (hex_digit_at p c ∷ rest) ≡ code_after (v * 16 + c / p % 16) rest
code_hex v p c rest = code_digit v (c / p % 16) rest (omega arith)

-- the bytes that stand first, and what follows them
abbrev read_byte : List ℕ → List ℕ × List ℕ
read_byte [] = ([], [])
read_byte (h ∷ []) = ([], [])
read_byte (h ∷ (l ∷ rest)) = ((digit_value h * 16 + digit_value l) ∷ [], rest)

abbrev coded : ℕ × List ℕ → List ℕ × List ℕ
coded found = (encode_utf8 found.0, found.1)

abbrev read_code : List ℕ → List ℕ × List ℕ
read_code [] = ([], [])
read_code (brace ∷ rest) = coded (code_after 0 rest)

-- which character has a letter
abbrev of_letter : ℕ → ℕ
of_letter l = cond (l == 48) 0 (cond (l == 116) 9 (cond (l == 110) 10 (cond (l == 114) 13 l)))

abbrev read_escape : List ℕ → List ℕ × List ℕ
read_escape [] = ([], [])
read_escape (l ∷ rest) = cond (l == 117) (read_code rest) (cond (l == 120) (read_byte rest) (encode_utf8 (of_letter l), rest))

abbrev read_sign : List ℕ → List ℕ × List ℕ
read_sign [] = ([], [])
read_sign (c ∷ rest) = cond (c == 92) (read_escape rest) (encode_utf8 c, rest)

record ReadsChar (c : ℕ) (rest : List ℕ) (t : List ℕ) : Type 0 where
  read : read_sign (t ++ rest) ≡ (encode_utf8 c, rest)

-- what so many digits say, after those that make v
read_one : (v c : ℕ) (rest : List ℕ) → code_after v (one_more c ++ rest) ≡ (v * 16 + c / 1 % 16, rest)
read_one v c rest = code_hex v 1 c (125 ∷ rest)

read_two : (v c : ℕ) (rest : List ℕ) → code_after v (two_more c ++ rest) ≡ ((v * 16 + c / 0x10 % 16) * 16 + c / 1 % 16, rest)
read_two v c rest = code_hex v 0x10 c (one_more c ++ rest) ∙ read_one (v * 16 + c / 0x10 % 16) c rest

read_three : (v c : ℕ) (rest : List ℕ) → code_after v (three_more c ++ rest) ≡ (((v * 16 + c / 0x100 % 16) * 16 + c / 0x10 % 16) * 16 + c / 1 % 16, rest)
read_three v c rest = code_hex v 0x100 c (two_more c ++ rest) ∙ read_two (v * 16 + c / 0x100 % 16) c rest

read_four : (v c : ℕ) (rest : List ℕ) → code_after v (four_more c ++ rest) ≡ ((((v * 16 + c / 0x1000 % 16) * 16 + c / 0x100 % 16) * 16 + c / 0x10 % 16) * 16 + c / 1 % 16, rest)
read_four v c rest = code_hex v 0x1000 c (three_more c ++ rest) ∙ read_three (v * 16 + c / 0x1000 % 16) c rest

read_five : (v c : ℕ) (rest : List ℕ) → code_after v (five_more c ++ rest) ≡ (((((v * 16 + c / 0x1_0000 % 16) * 16 + c / 0x1000 % 16) * 16 + c / 0x100 % 16) * 16 + c / 0x10 % 16) * 16 + c / 1 % 16, rest)
read_five v c rest = code_hex v 0x1_0000 c (four_more c ++ rest) ∙ read_four (v * 16 + c / 0x1_0000 % 16) c rest

read_six : (v c : ℕ) (rest : List ℕ) → code_after v (six_more c ++ rest) ≡ ((((((v * 16 + c / 0x10_0000 % 16) * 16 + c / 0x1_0000 % 16) * 16 + c / 0x1000 % 16) * 16 + c / 0x100 % 16) * 16 + c / 0x10 % 16) * 16 + c / 1 % 16, rest)
read_six v c rest = code_hex v 0x10_0000 c (five_more c ++ rest) ∙ read_five (v * 16 + c / 0x10_0000 % 16) c rest

reads_code : (c : ℕ) (rest : List ℕ) → c < 0x100_0000 → ReadsChar c rest (escape_unicode c)
reads_code c rest top =
    let pair : (v : ℕ) → v ≡ c → coded (v, rest) ≡ (encode_utf8 c, rest) = λ v e. ap (λ x. (encode_utf8 x, rest)) e in
    code_forms (ReadsChar c rest) c
    (λ h. record { read = ap coded (read_one 0 c rest) ∙ pair (0 * 16 + c / 1 % 16) (omega arith) })
    (λ h. record { read = ap coded (read_two 0 c rest) ∙ pair ((0 * 16 + c / 0x10 % 16) * 16 + c / 1 % 16) (omega arith) })
    (λ h. record { read = ap coded (read_three 0 c rest) ∙ pair (((0 * 16 + c / 0x100 % 16) * 16 + c / 0x10 % 16) * 16 + c / 1 % 16) (omega arith) })
    (λ h. record { read = ap coded (read_four 0 c rest) ∙ pair ((((0 * 16 + c / 0x1000 % 16) * 16 + c / 0x100 % 16) * 16 + c / 0x10 % 16) * 16 + c / 1 % 16) (omega arith) })
    (λ h. record { read = ap coded (read_five 0 c rest) ∙ pair (((((0 * 16 + c / 0x1_0000 % 16) * 16 + c / 0x1000 % 16) * 16 + c / 0x100 % 16) * 16 + c / 0x10 % 16) * 16 + c / 1 % 16) (omega arith) })
    (record { read = ap coded (read_six 0 c rest) ∙ pair ((((((0 * 16 + c / 0x10_0000 % 16) * 16 + c / 0x1_0000 % 16) * 16 + c / 0x1000 % 16) * 16 + c / 0x100 % 16) * 16 + c / 0x10 % 16) * 16 + c / 1 % 16) (omega arith) })

reads_letter : (c : ℕ) (rest : List ℕ) → 0 < letter_of c → ReadsChar c rest (92 ∷ letter_of c ∷ [])
reads_letter c rest =
    let pair : (v : ℕ) → v ≡ c → coded (v, rest) ≡ coded (c, rest) = λ v e. ap (λ x. coded (x, rest)) e in
    cond_both (c == 0) 48 _ (λ l. 0 < l → ReadsChar c rest (92 ∷ l ∷ [])) (λ e some. record { read = pair 0 (sym (eqb-true c 0 e)) })
    (λ e. cond_both (c == 9) 116 _ (λ l. 0 < l → ReadsChar c rest (92 ∷ l ∷ [])) (λ e some. record { read = pair 9 (sym (eqb-true c 9 e)) })
    (λ e. cond_both (c == 10) 110 _ (λ l. 0 < l → ReadsChar c rest (92 ∷ l ∷ [])) (λ e some. record { read = pair 10 (sym (eqb-true c 10 e)) })
    (λ e. cond_both (c == 13) 114 _ (λ l. 0 < l → ReadsChar c rest (92 ∷ l ∷ [])) (λ e some. record { read = pair 13 (sym (eqb-true c 13 e)) })
    (λ e. cond_both (c == 34) 34 _ (λ l. 0 < l → ReadsChar c rest (92 ∷ l ∷ [])) (λ e some. record { read = pair 34 (sym (eqb-true c 34 e)) })
    (λ e. cond_both (c == 92) 92 0 (λ l. 0 < l → ReadsChar c rest (92 ∷ l ∷ [])) (λ e some. record { read = pair 92 (sym (eqb-true c 92 e)) })
    (λ e some. absurd (omega arith)))))))

reads_bare : (c : ℕ) (rest : List ℕ) → (c == 92) ≡ false → ReadsChar c rest (c ∷ [])
reads_bare c rest e = record { read = rw e refl }

reads_char : (c : ℕ) (t rest : List ℕ) → c < 0x100_0000 → IsCharShown c t → ReadsChar c rest t
reads_char c t rest top (inl (still, e)) = subst (ReadsChar c rest) (sym e) (reads_bare c rest (or_parts _ _ (or_parts _ _ still).1).1)
reads_char c t rest top (inr (inl (some, e))) = subst (ReadsChar c rest) (sym e) (reads_letter c rest some)
reads_char c t rest top (inr (inr e)) = subst (ReadsChar c rest) (sym e) (reads_code c rest top)

reads_byte : (b : ℕ) (rest : List ℕ) → b < 256 → read_sign (escape_byte b ++ rest) ≡ (b ∷ [], rest)
reads_byte b rest small =
    let high = digit_value-digit_char (b / 16) (omega arith) in
    let low = digit_value-digit_char (b % 16) (omega arith) in
    ap₂ (λ (x y : ℕ). ((x * 16 + y) ∷ [], rest)) high low ∙ ap (λ (x : ℕ). (x ∷ [], rest)) (omega arith)

scalar_below : (c : ℕ) → IsScalar c → c < 0x100_0000
scalar_below c e = ⊎_elim (λ h. omega arith) (λ h. omega (arith, h.1)) (scalar_cases c e)

reads_sign : (s : Sign) (t rest : List ℕ) → IsSignShown s t → read_sign (t ++ rest) ≡ (sign_bytes s, rest)
reads_sign (char c) t rest h = (reads_char c t rest (scalar_below c h.0) h.1).read
reads_sign (byte b) t rest h = subst (λ x. read_sign (x ++ rest) ≡ (b ∷ [], rest)) (sym h.1) (reads_byte b rest h.0)

-- nothing is shown for nothing alone
nothing_shown : (ss : List Sign) (t : List ℕ) → t ≡ [] → AreSignsShown ss t → flat_map sign_bytes ss ≡ []
nothing_shown [] t e h = refl
nothing_shown (s ∷ ss) t e h =
    let read : (sign_bytes s, h.1) ≡ ([], []) = sym (reads_sign s h.0 h.1 h.2) ∙ ap read_sign (sym h.4 ∙ e) in
    ap₂ (λ (x y : List ℕ). x ++ y) (ap (λ x. x.0) read) (nothing_shown ss h.1 (ap (λ x. x.1) read) h.3)

signs_apart : (ss next : List Sign) (t : List ℕ) → AreSignsShown ss t → AreSignsShown next t → flat_map sign_bytes ss ≡ flat_map sign_bytes next
signs_apart [] next t h k = sym (nothing_shown next t h k)
signs_apart (s ∷ ss) [] t h k = nothing_shown (s ∷ ss) t k h
signs_apart (s ∷ ss) (n ∷ next) t h k =
    let read : (sign_bytes s, h.1) ≡ (sign_bytes n, k.1) =
    sym (reads_sign s h.0 h.1 h.2) ∙ ap read_sign (sym h.4 ∙ k.4) ∙ reads_sign n k.0 k.1 k.2 in
    ap₂ (λ (x y : List ℕ). x ++ y) (ap (λ x. x.0) read) (signs_apart ss next k.1 (subst (AreSignsShown ss) (ap (λ x. x.1) read) h.3) k.3)

same_chars : (xs ys : List ℕ) → scalars xs ≡ true → scalars ys ≡ true → encode_utf8_all xs ≡ encode_utf8_all ys → xs ≡ ys
same_chars xs ys h k e = sym (chars-encodes xs h) ∙ ap chars e ∙ chars-encodes ys k

unquoted : (xs ys : List ℕ) → 34 ∷ (xs ++ 34 ∷ []) ≡ 34 ∷ (ys ++ 34 ∷ []) → xs ≡ ys
unquoted xs ys e = append_cancel_right xs ys (34 ∷ []) (ap (λ l. drop 1 l) e)

both_quoted : (cell next a b text : List ℕ) → IsQuoted cell a → IsQuoted next b → encode_utf8_all a ≡ text → encode_utf8_all b ≡ text → cell ≡ next
both_quoted cell next a b text h k ea eb =
    let first = quoted_scalars h.1.signs h.0 h.1.each in
    let second = quoted_scalars k.1.signs k.0 k.1.each in
    let texts = ap encode_utf8_all (sym h.2) ∙ ea ∙ sym eb ∙ ap encode_utf8_all k.2 in
    let same = unquoted h.0 k.0 (same_chars _ _ first second texts) in
    sym h.1.whole ∙ signs_apart h.1.signs k.1.signs k.0 (subst (AreSignsShown h.1.signs) same h.1.each) k.1.each ∙ k.1.whole

-- a cell that stands as it is begins with no quote
not_quoted : (cell next a b text : List ℕ) → encode_utf8_all a ≡ cell → begins_quoted cell ≡ false → IsQuoted next b → encode_utf8_all a ≡ text → encode_utf8_all b ≡ text → ⊥
unfolding encode
not_quoted cell next a b text ca bare k ea eb =
    false≢true (sym bare ∙ ap begins_quoted (sym ca ∙ ea ∙ sym eb ∙ ap encode_utf8_all k.2))

pub shown_apart : ShownApartLaw
shown_apart cell next text (a, ea, inl h) (b, eb, inl k) = sym h.0 ∙ ea ∙ sym eb ∙ k.0
shown_apart cell next text (a, ea, inl h) (b, eb, inr k) = absurd (not_quoted cell next a b text h.0 h.2 k ea eb)
shown_apart cell next text (a, ea, inr h) (b, eb, inl k) = absurd (not_quoted next cell b a text k.0 k.2 h eb ea)
shown_apart cell next text (a, ea, inr h) (b, eb, inr k) = both_quoted cell next a b text h k ea eb
