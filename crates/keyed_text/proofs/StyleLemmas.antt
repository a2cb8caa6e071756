-- The style of a text whose first bytes are noted, byte by byte.
use Rattle.std.proofs.Common.{◌≡◌, ◌∙◌, ◌+◌, ◌<◌, ◌≤◌, ◌==◌, ◌||◌, ◌&&◌, ℕ, suc, List, [], ◌∷◌, ◌++◌, Option, Some, None, Bool, false, true, drop, get_or, length, refl, sym, ap, arith, inl, inr, subst, slice_index_or, not, if◌then◌else◌}
use Rattle.std.specs.Prelude.{is_none, unwrap_or}
use Rattle.std.proofs.lemmas.Bool.{cases_Bool}
use Rattle.std.proofs.lemmas.List.{drop_all, drop_more}
use Rattle.csv.specs.Machine.{is_byte}
use Rattle.keyed_text.specs.Quotes.{cell_place, closed_place, ends_line, place_after, plain_place, row_place}
use Rattle.keyed_text.specs.TextStyles.{NotesMore, begins_bare, end_behind_cr, ending_after, ends_mark, ends_quoted, is_end_at, is_quoted_at, line_end_from, line_end_with, marked_from, place_next, quoted_after, quoted_from, quotes_by, shows_bare, style_of, style_with, with_byte}
use Rattle.keyed_text.specs.declared.quotes.Marks.{Marks}
use Rattle.keyed_text.specs.declared.quotes.Place.{Place}
use Rattle.keyed_text.specs.declared.quotes.Place.TheVariants as at
use Rattle.keyed_text.specs.declared.style.LineEnd.{LineEnd}
use Rattle.keyed_text.specs.declared.style.LineEnd.TheVariants.{CrLf, Lf}
use Rattle.keyed_text.specs.declared.style.Style.{Style}
use Rattle.keyed_text.specs.declared.style_notes.Ending.{Ending}
use Rattle.keyed_text.specs.declared.style_notes.Ending.TheVariants as ending
use Rattle.keyed_text.specs.declared.style_notes.StyleNotes.{StyleNotes}

-- a place at which no byte order mark goes on
abbrev NoMark : Place → Type 0
NoMark p = (rest : List ℕ) → marked_from p rest ≡ false

no-mark-plain : (m : Marks) (b : ℕ) → NoMark (plain_place m b)
no-mark-plain m b rest = elim (cases_Bool (b == m.delimiter)) [
  | inl cell ↦ rw cell refl
  | inr other ↦ elim (cases_Bool (ends_line b)) [ inl row ↦ rw (other, row) refl | inr bare ↦ rw (other, bare) refl ]
]

no-mark-cell : (m : Marks) (b : ℕ) → NoMark (cell_place m b)
no-mark-cell m b rest = elim (cases_Bool (b == 34)) [ inl quote ↦ rw quote refl | inr other ↦ rw other (no-mark-plain m b rest) ]

no-mark-row : (m : Marks) (b : ℕ) → NoMark (row_place m b)
no-mark-row m b rest = elim (cases_Bool (is_byte m.comment b)) [ inl comment ↦ rw comment refl | inr other ↦ rw other (no-mark-cell m b rest) ]

no-mark-closed : (m : Marks) (b : ℕ) → NoMark (unwrap_or (closed_place m b) at.Bare)
no-mark-closed m b rest = elim (cases_Bool (b == 34)) [
  | inl quote ↦ rw quote refl
  | inr other ↦ elim (cases_Bool (b == m.delimiter)) [
    | inl cell ↦ rw (other, cell) refl
    | inr more ↦ elim (cases_Bool (ends_line b)) [ inl row ↦ rw (other, more, row) refl | inr none ↦ rw (other, more, none) refl ]
  ]
]

mark-of-two : (b : ℕ) (rest : List ℕ) → marked_from at.FirstOfMark (b ∷ rest) ≡ (b == 187) && marked_from at.SecondOfMark rest
mark-of-two b [] = elim (cases_Bool (b == 187)) [ inl e ↦ rw e refl | inr e ↦ rw e refl ]
mark-of-two b (c ∷ rest) = refl

mark-of-three : (a : ℕ) (rest : List ℕ) → marked_from at.Top (a ∷ rest) ≡ (a == 239) && marked_from at.FirstOfMark rest
mark-of-three a [] = elim (cases_Bool (a == 239)) [ inl e ↦ rw e refl | inr e ↦ rw e refl ]
mark-of-three a (b ∷ []) = elim (cases_Bool (a == 239)) [ inl e ↦ rw e refl | inr e ↦ rw e refl ]
mark-of-three a (b ∷ c ∷ rest) = refl

-- the mark after one more byte
mark-next : (m : Marks) (p : Place) (b : ℕ) (rest : List ℕ) → ends_mark p b || marked_from (place_next m p b) rest ≡ marked_from p (b ∷ rest)
mark-next m at.Top b rest = elim (cases_Bool (b == 239)) [
  | inl e ↦ rw (mark-of-three b rest, e) refl
  | inr e ↦ rw (mark-of-three b rest, e) (no-mark-row m b rest)
]
mark-next m at.FirstOfMark b rest = elim (cases_Bool (b == 187)) [
  | inl e ↦ rw (mark-of-two b rest, e) refl
  | inr e ↦ rw (mark-of-two b rest, e) (no-mark-plain m b rest)
]
mark-next m at.SecondOfMark b rest = elim (cases_Bool (b == 191)) [
  | inl e ↦ rw e refl
  | inr e ↦ rw e (no-mark-plain m b rest)
]
mark-next m at.Row b rest = no-mark-row m b rest
mark-next m at.Cell b rest = no-mark-cell m b rest
mark-next m at.Bare b rest = no-mark-plain m b rest
mark-next m at.Quoted b rest = elim (cases_Bool (b == 34)) [ inl e ↦ rw e refl | inr e ↦ rw e refl ]
mark-next m at.Closed b rest = no-mark-closed m b rest
mark-next m at.Comment b rest = elim (cases_Bool (ends_line b)) [ inl e ↦ rw e refl | inr e ↦ rw e refl ]

or_assoc : (a b c : Bool) → (a || b) || c ≡ a || (b || c)
or_assoc true b c = refl
or_assoc false b c = refl

marked-next : (m : Marks) (has : Bool) (p : Place) (b : ℕ) (rest : List ℕ)
    → (has || ends_mark p b) || marked_from (place_next m p b) rest ≡ has || marked_from p (b ∷ rest)
marked-next m has p b rest = or_assoc has (ends_mark p b) (marked_from (place_next m p b) rest) ∙ ap (λ t. has || t) (mark-next m p b rest)

-- the end of the first line after one more byte
line-end-next : (m : Marks) (e : Ending) (p : Place) (b : ℕ) (rest : List ℕ) → line_end_with m (ending_after e p b) (place_next m p b) rest ≡ line_end_with m e p (b ∷ rest)
unfolding line_end_from
line-end-next m ending.Open p b rest = elim (cases_Bool (is_end_at p b)) [
  | inl ends ↦ elim (cases_Bool (b == 13)) [ inl cr ↦ rw (ends, cr) refl | inr lf ↦ rw (ends, lf) refl ]
  | inr more ↦ rw more refl
]
line-end-next m ending.AfterCr p b rest = refl
line-end-next m (ending.Ended line_end) p b rest = refl

-- the quotes of the first row
quoted-next : (m : Marks) (q : Option Bool) (p : Place) (b : ℕ) (rest : List ℕ)
    → unwrap_or (quoted_after m q p b) (quoted_from m (place_next m p b) rest) ≡ unwrap_or q (quoted_from m p (b ∷ rest))
unfolding quoted_from
quoted-next m (Some quoted) p b rest = refl
quoted-next m None p b rest = elim (cases_Bool (ends_quoted p b)) [
  | inl ends ↦ rw ends refl
  | inr more ↦ elim (cases_Bool (shows_bare m p b)) [ inl bare ↦ rw (more, bare) refl | inr none ↦ rw (more, none) refl ]
]

style_made : Bool → Bool → LineEnd → Style
style_made mark quoted line_end = record { has_mark = mark; quotes = quotes_by quoted; line_end = line_end; has_end = true }

-- the style after one more byte
pub style-next : (n : StyleNotes) (b : ℕ) (rest : List ℕ) → style_with (with_byte n b) rest ≡ style_with n (b ∷ rest)
unfolding style_made
style-next n b rest =
    ap (λ mark. style_made mark (unwrap_or (quoted_after n.marks n.quoted n.place b) (quoted_from n.marks (place_next n.marks n.place b) rest))
    (line_end_with n.marks (ending_after n.ending n.place b) (place_next n.marks n.place b) rest)) (marked-next n.marks n.has_mark n.place b rest)
    ∙ ap (λ quoted. style_made (n.has_mark || marked_from n.place (b ∷ rest)) quoted
    (line_end_with n.marks (ending_after n.ending n.place b) (place_next n.marks n.place b) rest)) (quoted-next n.marks n.quoted n.place b rest)
    ∙ ap (λ line_end. style_made (n.has_mark || marked_from n.place (b ∷ rest)) (unwrap_or n.quoted (quoted_from n.marks n.place (b ∷ rest))) line_end)
    (line-end-next n.marks n.ending n.place b rest)

-- where no byte comes next
pub marked-none : (p : Place) → marked_from p [] ≡ false
marked-none at.Top = refl
marked-none at.FirstOfMark = refl
marked-none at.SecondOfMark = refl
marked-none at.Row = refl
marked-none at.Cell = refl
marked-none at.Bare = refl
marked-none at.Quoted = refl
marked-none at.Closed = refl
marked-none at.Comment = refl

pub line-end-none : (m : Marks) (p : Place) → line_end_from m p [] ≡ Lf
unfolding line_end_from
line-end-none m p = refl

pub quoted-none : (m : Marks) (p : Place) → quoted_from m p [] ≡ is_quoted_at p
unfolding quoted_from
quoted-none m p = refl

or_none : (b : Bool) → b || false ≡ b
or_none true = refl
or_none false = refl

pub style-none : (n : StyleNotes)
    → record { has_mark = n.has_mark; quotes = quotes_by (unwrap_or n.quoted (is_quoted_at n.place)); line_end = line_end_with n.marks n.ending n.place []; has_end = true }
    ≡ style_with n []
unfolding style_made
style-none n =
    let line_end = line_end_with n.marks n.ending n.place [] in
    ap (λ mark. style_made mark (unwrap_or n.quoted (is_quoted_at n.place)) line_end) (sym (or_none n.has_mark) ∙ ap (λ m. n.has_mark || m) (sym (marked-none n.place)))
    ∙ ap (λ quoted. style_made (n.has_mark || marked_from n.place []) (unwrap_or n.quoted quoted) line_end) (sym (quoted-none n.marks n.place))

-- notes of which all is known
pub settled : (n : StyleNotes) (quoted : Bool) (line_end : LineEnd) → n.quoted ≡ Some quoted → n.ending ≡ ending.Ended line_end → NoMark n.place
    → (rest : List ℕ) → style_with n rest ≡ style_with n []
settled n quoted line_end q e none rest = rw (q, e, none rest, none []) refl

-- bytes are noted from a place on
pub notes-begin : (old : StyleNotes) (bytes : List ℕ) → old.skipped ≡ 0 → NotesMore old old []
notes-begin old bytes none = record { skipped = none; style = λ rest. refl }

pub notes-more : (old now : StyleNotes) (bytes : List ℕ) (i : ℕ) → i < length bytes → now.skipped ≡ 0
    → ((rest : List ℕ) → style_with now (drop i bytes ++ rest) ≡ style_with old (bytes ++ rest))
    → (rest : List ℕ) → style_with (with_byte now (slice_index_or bytes i 0)) (drop (i + 1) bytes ++ rest) ≡ style_with old (bytes ++ rest)
notes-more old now bytes i lt none held rest =
    style-next now (slice_index_or bytes i 0) (drop (i + 1) bytes ++ rest)
    ∙ ap (λ l. style_with now (l ++ rest)) (sym (drop_more bytes i 0 lt)) ∙ held rest

pub notes-all : (now : StyleNotes) (bytes rest : List ℕ) (i : ℕ) → length bytes ≤ i → style_with now (drop i bytes ++ rest) ≡ style_with now rest
notes-all now bytes rest i le = ap (λ l. style_with now (l ++ rest)) (drop_all i bytes le)
