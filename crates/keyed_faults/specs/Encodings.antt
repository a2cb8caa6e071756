-- What a text begins as.
use Rattle.std.specs.Prelude.{◌||◌, ℕ, List, [], ◌∷◌, Bool, Option, Some, None, is_some, nat_eq, if◌then◌else◌}
use Rattle.std.specs.List.{starts_with}
use Rattle.keyed_faults.specs.declared.encoding.Encoding.{Encoding}
use Rattle.keyed_faults.specs.declared.encoding.Encoding.TheVariants as kind

abbrev pub begins : List ℕ → List ℕ → Bool
begins text first = starts_with nat_eq text first

-- what a file is that has to be turned into text first
abbrev pub encoding_of : List ℕ → Option Encoding
encoding_of text =
    if begins text (31 ∷ 139 ∷ 8 ∷ []) then Some kind.Gzip
    else if begins text (40 ∷ 181 ∷ 47 ∷ 253 ∷ []) then Some kind.Zstd
    else if begins text (255 ∷ 254 ∷ []) || begins text (254 ∷ 255 ∷ []) then Some kind.Utf16
    else None

-- whether a text begins with a byte order mark, or as what is no text
abbrev pub is_marked : List ℕ → Bool
is_marked text = begins text (239 ∷ 187 ∷ 191 ∷ []) || is_some (encoding_of text)
