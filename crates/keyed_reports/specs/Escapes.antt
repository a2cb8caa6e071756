-- What stands in a text of marks for a byte that is to be none.
use Rattle.std.specs.Prelude.{◌≡◌, ℕ, Bool, false, List, [], ◌∷◌, ◌||◌, ◌==◌, if◌then◌else◌, nat_eq}
use Rattle.std.specs.List.{flat_map, list_any}

-- the bytes that Markdown may read as a mark or a part of one
abbrev pub markdown_marks : List ℕ
markdown_marks = 92 ∷ 96 ∷ 42 ∷ 95 ∷ 126 ∷ 124 ∷ 60 ∷ 62 ∷ 38 ∷ 91 ∷ 93 ∷ 40 ∷ 41 ∷ 35 ∷ 33 ∷ 64 ∷ 58 ∷ []

-- whether a byte is one of them
abbrev pub is_markdown_mark : ℕ → Bool
is_markdown_mark b = list_any (nat_eq b) markdown_marks

-- a mark has a backslash before it
abbrev pub markdown_byte : ℕ → List ℕ
markdown_byte b = if is_markdown_mark b then 92 ∷ b ∷ [] else (b ∷ [])

-- what stands in a page of HTML for a byte
abbrev pub html_byte : ℕ → List ℕ
html_byte b = if b == 38 then 38 ∷ 97 ∷ 109 ∷ 112 ∷ 59 ∷ []
    else (if b == 60 then 38 ∷ 108 ∷ 116 ∷ 59 ∷ [] else (if b == 62 then 38 ∷ 103 ∷ 116 ∷ 59 ∷ []
    else (if b == 34 then 38 ∷ 113 ∷ 117 ∷ 111 ∷ 116 ∷ 59 ∷ [] else (if b == 39 then 38 ∷ 35 ∷ 51 ∷ 57 ∷ 59 ∷ [] else (b ∷ [])))))

-- a byte with which HTML begins or ends a tag, or a value in one
abbrev pub is_html_mark : ℕ → Bool
is_html_mark b = (b == 60) || ((b == 62) || ((b == 34) || (b == 39)))

-- none is among bytes that are escaped
abbrev pub HtmlIsTextLaw : Type 0
HtmlIsTextLaw = (bytes : List ℕ) → list_any is_html_mark (flat_map html_byte bytes) ≡ false
