-- The style of an answer that is written as a table is.
use Rattle.std.specs.Prelude.{◌≡◌, ℕ, List, Option, false, true}
use Rattle.keyed_text.specs.TextStyles.{headed_left, style_of}
use Rattle.keyed_text.specs.declared.quotes.Marks.{Marks}
use Rattle.keyed_text.specs.declared.style.Style.{Style}
use Rattle.keyed_requests.specs.FormBytes.{comment_of, delimiter_of}
use Rattle.keyed_requests.specs.declared.request.Form.{Form}
use Rattle.keyed_requests.specs.declared.writing.Heading.{Heading}
use Rattle.keyed_requests.specs.declared.writing.Heading.TheVariants as heading
use Rattle.keyed_jobs.specs.declared.styles.Watched.{Watched}

-- what a reader that is watched has left
abbrev pub watched_left : {R : Type 0} → (R → Option (List ℕ)) → Watched R → Option (List ℕ)
watched_left remaining watched = headed_left remaining watched.reader

-- one with no heading stands after other CSV, and so has no byte order mark
abbrev pub style_under : Heading → Style → Style
style_under heading.Written style = style
style_under heading.Omitted style = record style { has_mark = false }

-- the bytes that part a text in a form
abbrev pub marks_in : Form → Marks
marks_in form = record { delimiter = delimiter_of form; comment = comment_of form }

-- the style of a text in a form, with an end to its last row
abbrev pub IsNoted : Form → Style → List ℕ → Type 0
IsNoted form style text = style ≡ style_of (marks_in form) text true

-- the style of an answer that is written as a table is which has this style; whether its last row has an end, no clause says
abbrev pub IsStyleBy : Heading → Style → Style → Type 0
IsStyleBy heading first style = style ≡ style_under heading (record first { has_end = style.has_end })

-- the same, as a text in a form has it: its byte order mark, quotes and line end are those of the text
abbrev pub IsStyleOf : Form → Heading → List ℕ → Style → Type 0
IsStyleOf form heading text style = style ≡ style_under heading (style_of (marks_in form) text style.has_end)
