-- What a person reads for a cell: its characters as they are, or in quotes, where each may be escaped.
use Rattle.std.specs.Prelude.{◌≡◌, ℕ, ◌<◌, ◌/◌, ◌%◌, Bool, false, ◌||◌, ◌⊎◌, List, [], ◌∷◌, ◌++◌, ◌==◌, IsOk, Result, cond, encode_utf8, encode_utf8_all, flat_map}
use Rattle.std.specs.Char.{IsScalar, digit_char, is_control}
use Rattle.std.specs.Char.Escape.{escape_unicode}
use Rattle.std.specs.Fmt.{HasWritten, IsPlainFormatter}
use Rattle.std.specs.Int.{is_in_range}
use Rattle.std.specs.List.{list_any}
use Rattle.std.specs.declared.fmt.Error.{Error}
use Rattle.std.specs.declared.fmt.Formatter.{Formatter}

-- a mark that ends a line, or turns the direction of the text around it
abbrev pub is_turning : ℕ → Bool
is_turning c = c == 0x61C || (c == 0x200E || (c == 0x200F || (is_in_range 0x2028 0x202E c || is_in_range 0x2066 0x2069 c)))

-- a character that moves or turns a terminal's text
abbrev pub is_moving : ℕ → Bool
is_moving c = is_control c || is_turning c

-- what is escaped by a backslash and a letter or itself, and this, or 0 for any other character
abbrev pub letter_of : ℕ → ℕ
letter_of c = cond (c == 0) 48 (cond (c == 9) 116 (cond (c == 10) 110 (cond (c == 13) 114 (cond (c == 34) 34 (cond (c == 92) 92 0)))))

-- in quotes a character stands as it is, or as its escape by a letter, or by its code; one that moves text, a quote, and a backslash never
-- as they are
abbrev pub IsCharShown : ℕ → List ℕ → Type 0
IsCharShown c shown = ((is_moving c || (c == 34 || c == 92)) ≡ false) × (shown ≡ c ∷ [])
    ⊎ ((0 < letter_of c) × (shown ≡ 92 ∷ letter_of c ∷ []) ⊎ (shown ≡ escape_unicode c))

-- what stands for a byte that is no text
abbrev pub escape_byte : ℕ → List ℕ
escape_byte b = 92 ∷ 120 ∷ digit_char (b / 16) ∷ digit_char (b % 16) ∷ []

-- a character, or a byte that is no text
pub data Sign : Type 0 where
  char : ℕ → Sign
  byte : ℕ → Sign

abbrev pub sign_bytes : Sign → List ℕ
sign_bytes (char c) = encode_utf8 c
sign_bytes (byte b) = b ∷ []

abbrev pub IsSignShown : Sign → List ℕ → Type 0
IsSignShown (char c) shown = IsScalar c × IsCharShown c shown
IsSignShown (byte b) shown = (b < 256) × (shown ≡ escape_byte b)

-- one after another
abbrev pub AreSignsShown : List Sign → List ℕ → Type 0
AreSignsShown [] shown = shown ≡ []
AreSignsShown (s ∷ ss) shown = (first : List ℕ) × (rest : List ℕ) × IsSignShown s first × AreSignsShown ss rest × (shown ≡ first ++ rest)

-- bytes, of which each character and each byte that is no text is shown
pub record AreBytesShown (bytes : List ℕ) (shown : List ℕ) : Type 0 where
  pub signs : List Sign
  pub whole : flat_map sign_bytes signs ≡ bytes
  pub each : AreSignsShown signs shown

-- the same between quotes
abbrev pub IsQuoted : List ℕ → List ℕ → Type 0
IsQuoted bytes shown = (inner : List ℕ) × AreBytesShown bytes inner × (shown ≡ 34 ∷ (inner ++ 34 ∷ []))

abbrev pub begins_quoted : List ℕ → Bool
begins_quoted [] = false
begins_quoted (c ∷ cs) = c == 34

-- a cell stands as it is, where no character of it moves text and it begins with no quote, or else in quotes
abbrev pub IsCellShown : List ℕ → List ℕ → Type 0
IsCellShown cell shown = (encode_utf8_all shown ≡ cell) × (list_any is_moving shown ≡ false) × (begins_quoted cell ≡ false)
    ⊎ IsQuoted cell shown

-- a text is that of these characters, which are the cell as it is shown
abbrev pub IsShownCell : List ℕ → List ℕ → Type 0
IsShownCell cell text = (shown : List ℕ) × (encode_utf8_all shown ≡ text) × IsCellShown cell shown

-- what was written after f is the cell as it is shown
module _ {W : Type 0} (took : W → List ℕ → W → Type 0) where
  pub record HasShown (f : Formatter W) (bytes : List ℕ) (g : Formatter W) : Type 0 where
    pub shown : List ℕ
    pub wrote : HasWritten took f (encode_utf8_all shown) g
    pub each : AreBytesShown bytes shown

  -- if f is plain and r is `Ok`, g is f after the bytes were shown
  abbrev pub ShowsOnOk : Formatter W → Result (Unit {0}) Error → List ℕ → Formatter W → Type 0
  ShowsOnOk f r bytes g = IsPlainFormatter f → IsOk r → HasShown f bytes g

  -- if f is plain and r is `Ok`, g is f after the cell was shown
  abbrev pub ShowsCellOnOk : (List ℕ → List ℕ → Type 0) → Formatter W → Result (Unit {0}) Error → List ℕ → Formatter W → Type 0
  ShowsCellOnOk is_shown f r cell g = IsPlainFormatter f → IsOk r → (shown : List ℕ) × HasWritten took f (encode_utf8_all shown) g × is_shown cell shown

-- what stands for a cell has no control character, and none that ends a line or turns the direction of text
abbrev pub ShowsNoControlLaw : Type 0
ShowsNoControlLaw = (cell text : List ℕ) → IsShownCell cell text
    → (shown : List ℕ) × (encode_utf8_all shown ≡ text) × (list_any is_moving shown ≡ false)

-- cells for which the same stands are the same
abbrev pub ShownApartLaw : Type 0
ShownApartLaw = (cell next text : List ℕ) → IsShownCell cell text → IsShownCell next text → cell ≡ next
