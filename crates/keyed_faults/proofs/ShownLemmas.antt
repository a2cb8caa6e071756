-- Bytes that are shown one after another.
use Rattle.std.proofs.Common.{◌≡◌, ◌∙◌, ℕ, ◌<◌, ◌==◌, ◌||◌, false, List, [], ◌∷◌, ◌++◌, encode_utf8, encode_utf8_all, chars, length, refl, sym, ap, ap₂, subst, append-nil, append_assoc, arith}
use Rattle.std.proofs.Output.{has_written_append, has_written_of_eq, writes_in_calls_nil}
use Rattle.std.proofs.lemmas.Grind.{flat_map-append}
use Rattle.std.proofs.lemmas.Str.{chars-encodes, encodes-append}
use Rattle.std.specs.Char.{IsScalar}
use Rattle.std.specs.Char.Escape.{escape_unicode}
use Rattle.std.specs.Str.{IsUtf8}
use Rattle.std.specs.Fmt.{HasWritten, IsPlainFormatter}
use Rattle.std.specs.declared.fmt.Formatter.{Formatter}
use mathlib.Core.Logic.{inl, inr}
use Rattle.keyed_faults.specs.ShownCells.{AreBytesShown, AreSignsShown, HasShown, IsCharShown, Sign, escape_byte, is_moving, letter_of, sign_bytes}
use Rattle.keyed_faults.specs.ShownCells.Sign.{char, byte}

signs_append : (ss rest : List Sign) (a b : List ℕ) → AreSignsShown ss a → AreSignsShown rest b → AreSignsShown (ss ++ rest) (a ++ b)
signs_append [] rest a b e h = subst (λ x. AreSignsShown rest (x ++ b)) (sym e) h
signs_append (s ∷ ss) rest a b h k =
    (h.0, h.1 ++ b, h.2, signs_append ss rest h.1 b h.3 k, ap (λ x. x ++ b) h.4 ∙ append_assoc h.0 h.1 b)

-- one text after another
pub bytes_append : (a b s t : List ℕ) → AreBytesShown a s → AreBytesShown b t → AreBytesShown (a ++ b) (s ++ t)
bytes_append a b s t p q = record {
  signs = p.signs ++ q.signs;
  whole = flat_map-append sign_bytes p.signs q.signs ∙ ap₂ (λ (x y : List ℕ). x ++ y) p.whole q.whole;
  each = signs_append p.signs q.signs s t p.each q.each;
}

-- one more character
pub encodes_more : (cs : List ℕ) (c : ℕ) → encode_utf8_all cs ++ encode_utf8 c ≡ encode_utf8_all (cs ++ c ∷ [])
encodes_more cs c = ap (λ l. encode_utf8_all cs ++ l) (sym (append-nil (encode_utf8 c))) ∙ sym (encodes-append cs (c ∷ []))

-- what stands between quotes
pub encodes_quoted : (cs : List ℕ) → encode_utf8 34 ++ (encode_utf8_all cs ++ encode_utf8 34) ≡ encode_utf8_all (34 ∷ (cs ++ 34 ∷ []))
encodes_quoted cs = ap (λ l. encode_utf8 34 ++ l) (encodes_more cs 34)

-- a text is that of its characters
pub encodes_chars : (bs : List ℕ) → IsUtf8 bs → encode_utf8_all (chars bs) ≡ bs
encodes_chars bs u = ap (λ x. encode_utf8_all (chars x)) (sym u.1.1) ∙ ap encode_utf8_all (chars-encodes u.0 u.1.0) ∙ u.1.1

pub empty_is_nil : (bs : List ℕ) → length bs ≡ 0 → bs ≡ []
empty_is_nil [] e = refl
empty_is_nil (b ∷ bs) e = absurd (omega arith)

-- one character, one byte
char_shown : (c : ℕ) (t : List ℕ) → IsScalar c → IsCharShown c t → AreBytesShown (encode_utf8 c) t
char_shown c t scalar h = record {
  signs = char c ∷ [];
  whole = append-nil (encode_utf8 c);
  each = (t, [], (scalar, h), refl, sym (append-nil t));
}

byte_shown : (b : ℕ) → b < 256 → AreBytesShown (b ∷ []) (escape_byte b)
byte_shown b h = record {
  signs = byte b ∷ [];
  whole = refl;
  each = (escape_byte b, [], (h, refl), refl, sym (append-nil (escape_byte b)));
}

module _ {W : Type 0} (took : W → List ℕ → W → Type 0) where
  pub shown_nothing : (f : Formatter W) → IsPlainFormatter f → HasShown took f [] f
  shown_nothing f plain = record {
    shown = [];
    wrote = record { wrote = writes_in_calls_nil took f.writer; plain = plain };
    each = record { signs = []; whole = refl; each = refl };
  }

  pub shown_append : (f g h : Formatter W) (a b : List ℕ) → HasShown took f a g → HasShown took g b h → HasShown took f (a ++ b) h
  shown_append f g h a b p q = record {
    shown = p.shown ++ q.shown;
    wrote = has_written_of_eq took _ _ _ _ (sym (encodes-append p.shown q.shown)) (has_written_append took _ _ _ _ _ p.wrote q.wrote);
    each = bytes_append a b p.shown q.shown p.each q.each;
  }

  pub shown_of_eq : (f g : Formatter W) (a b : List ℕ) → a ≡ b → HasShown took f a g → HasShown took f b g
  shown_of_eq f g a b e = subst (λ x. HasShown took f x g) e

  pub shown_as_code : (f g : Formatter W) (c : ℕ) → IsScalar c → HasWritten took f (encode_utf8_all (escape_unicode c)) g → HasShown took f (encode_utf8 c) g
  shown_as_code f g c scalar h = record { shown = escape_unicode c; wrote = h; each = char_shown c _ scalar (inr (inr refl)) }

  pub shown_by_letter : (f g : Formatter W) (c letter : ℕ) → IsScalar c → 0 < letter_of c → letter ≡ letter_of c
      → HasWritten took f (encode_utf8_all (92 ∷ letter ∷ [])) g → HasShown took f (encode_utf8 c) g
  shown_by_letter f g c letter scalar some e h = record {
    shown = 92 ∷ letter ∷ [];
    wrote = h;
    each = char_shown c _ scalar (inr (inl (some, ap (λ (x : ℕ). 92 ∷ x ∷ []) e)));
  }

  pub shown_bare : (f g : Formatter W) (c : ℕ) → IsScalar c → (is_moving c || (c == 34 || c == 92)) ≡ false → HasWritten took f (encode_utf8 c) g → HasShown took f (encode_utf8 c) g
  shown_bare f g c scalar still h = record {
    shown = c ∷ [];
    wrote = has_written_of_eq took _ _ _ _ (sym (append-nil (encode_utf8 c))) h;
    each = char_shown c _ scalar (inl (still, refl));
  }

  pub shown_as_byte : (f g : Formatter W) (b : ℕ) → b < 256 → HasWritten took f (encode_utf8_all (escape_byte b)) g → HasShown took f (b ∷ []) g
  shown_as_byte f g b small h = record { shown = escape_byte b; wrote = h; each = byte_shown b small }
