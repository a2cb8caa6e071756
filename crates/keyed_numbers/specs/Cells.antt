-- Cells as they are compared: without white space around them, or in any case.
use Rattle.std.specs.Prelude.{ℕ, Bool, true, false, cond, ◌&&◌, ◌||◌, nat_eq, List, [], ◌∷◌, chars}
use Rattle.std.specs.Char.{is_ascii_whitespace}
use Rattle.std.specs.Cmp.Lexicographic.{pointwise}
use Rattle.std.specs.List.{list_all}
use Rattle.std.specs.Str.{is_utf8}
use Rattle.caseless.specs.Caseless.{default_case_fold}

-- bytes from the first on that is no white space of ASCII
abbrev pub without_lead : List ℕ → List ℕ
without_lead [] = []
without_lead (byte ∷ rest) = cond (is_ascii_whitespace byte) (without_lead rest) (byte ∷ rest)

-- bytes up to the last that is no white space of ASCII
abbrev pub without_trail : List ℕ → List ℕ
without_trail [] = []
without_trail (byte ∷ rest) = cond (list_all is_ascii_whitespace (byte ∷ rest)) [] (byte ∷ without_trail rest)

-- a cell without white space around it
abbrev pub trimmed : List ℕ → List ℕ
trimmed cell = without_trail (without_lead cell)

-- the same where that is not compared, or else the whole cell
abbrev pub seen : Bool → List ℕ → List ℕ
seen true cell = trimmed cell
seen false cell = cell

-- two cells are texts of UTF-8 that are the same once case is folded
abbrev pub same_folded : List ℕ → List ℕ → Bool
same_folded cell other = (is_utf8 cell && is_utf8 other)
    && pointwise nat_eq (default_case_fold (chars cell)) (default_case_fold (chars other))

-- two cells are the same byte by byte or, where case is not compared, once it is folded
abbrev pub same_text : Bool → List ℕ → List ℕ → Bool
same_text true cell other = pointwise nat_eq cell other || same_folded cell other
same_text false cell other = pointwise nat_eq cell other
