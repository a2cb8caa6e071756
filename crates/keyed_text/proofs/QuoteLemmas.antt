-- The place of a text after its bytes: one byte at a time, and of bytes with no quote among them.
use Rattle.std.proofs.Common.{◌≡◌, ◌∙◌, ◌+◌, ◌-◌, ◌<◌, ◌≤◌, ◌==◌, ℕ, suc, List, [], ◌∷◌, ◌++◌, Option, Some, None, false, true, drop, get_or, length, length-take, refl, sym, ap, arith, inl, inr, slice_get, slice_index_or, take}
use Rattle.std.proofs.lemmas.Bool.{cases_Bool, eqb-true}
use Rattle.std.proofs.lemmas.List.{drop_all, drop_more, get_or-take, take-append-drop, take_all, length-drop}
use Rattle.memchr.specs.Find.{Nowhere, Passes, is_byte}
use Rattle.keyed_text.specs.Quotes.{IsOutside, IsQuoteFree, closed_place, ends_line, place_after, place_behind, place_behind_plain, plain_place, then_place}
use Rattle.keyed_text.specs.declared.quotes.Marks.{Marks}
use Rattle.keyed_text.specs.declared.quotes.Place.{Place}
use Rattle.keyed_text.specs.declared.quotes.Place.TheVariants as at

-- one more byte
pub behind-more : (m : Marks) (p : Place) (bytes : List ℕ) (i : ℕ) → i < length bytes
    → place_behind m p (drop i bytes) ≡ then_place (place_after m p (slice_index_or bytes i 0)) (λ q. place_behind m q (drop (i + 1) bytes))
unfolding place_behind
behind-more m p bytes i lt = rw (drop_more bytes i 0 lt) refl

-- no byte is left
pub behind-all : (m : Marks) (p : Place) (bytes : List ℕ) (i : ℕ) → length bytes ≤ i → place_behind m p (drop i bytes) ≡ Some p
unfolding place_behind
behind-all m p bytes i le = rw (drop_all i bytes le) refl

free-head : (b : ℕ) (rest : List ℕ) → IsQuoteFree (b ∷ rest) → (b == 34) ≡ false
free-head b rest h = elim (cases_Bool (b == 34)) [ inl e ↦ absurd (h 0 (omega arith) (omega arith) e) | inr e ↦ e ]

free-tail : (b : ℕ) (rest : List ℕ) → IsQuoteFree (b ∷ rest) → IsQuoteFree rest
free-tail b rest h k le lt e = h (suc k) (omega arith) (omega (arith, lt)) e

plain-outside : (m : Marks) (b : ℕ) → m.comment ≡ None → IsOutside m (plain_place m b)
plain-outside m b none = elim (cases_Bool (b == m.delimiter)) [
  | inl cell ↦ rw cell none
  | inr other ↦ elim (cases_Bool (ends_line b)) [ inl row ↦ rw (other, row) none | inr bare ↦ rw (other, bare) none ]
]

outside-none : (m : Marks) (p : Place) → IsOutside m p → m.comment ≡ None
outside-none m at.Row h = h
outside-none m at.Cell h = h
outside-none m at.Bare h = h
outside-none m at.Top h = absurd h
outside-none m at.FirstOfMark h = absurd h
outside-none m at.SecondOfMark h = absurd h
outside-none m at.Quoted h = absurd h
outside-none m at.Closed h = absurd h
outside-none m at.Comment h = absurd h

outside-step : (m : Marks) (p : Place) (b : ℕ) → IsOutside m p → (b == 34) ≡ false → place_after m p b ≡ Some (plain_place m b)
outside-step m at.Row b h n = rw (h, n) refl
outside-step m at.Cell b h n = rw n refl
outside-step m at.Bare b h n = refl
outside-step m at.Top b h n = absurd h
outside-step m at.FirstOfMark b h n = absurd h
outside-step m at.SecondOfMark b h n = absurd h
outside-step m at.Quoted b h n = absurd h
outside-step m at.Closed b h n = absurd h
outside-step m at.Comment b h n = absurd h

last-some : (r : ℕ) (rest : List ℕ) → (x : ℕ) × (slice_get (r ∷ rest) (length rest) ≡ Some x)
last-some r [] = (r, refl)
last-some r (s ∷ rest) = last-some s rest

plain-more : (m : Marks) (p : Place) (b : ℕ) (rest : List ℕ) → place_behind_plain m (plain_place m b) rest ≡ place_behind_plain m p (b ∷ rest)
plain-more m p b [] = refl
plain-more m p b (r ∷ rest) =
    let e : length (r ∷ rest) - 1 ≡ length rest = omega arith in
    let f : length (b ∷ r ∷ rest) - 1 ≡ suc (length rest) = omega arith in
    let last = last-some r rest in
    rw (e, f, last.1) refl

-- bytes with no quote among them, outside of quotes
pub plain-run : (m : Marks) (p : Place) (bytes : List ℕ) → IsOutside m p → IsQuoteFree bytes → place_behind m p bytes ≡ Some (place_behind_plain m p bytes)
unfolding place_behind
plain-run m p [] h free = refl
plain-run m p (b ∷ rest) h free =
    rw (outside-step m p b h (free-head b rest free)) (plain-run m (plain_place m b) rest (plain-outside m b (outside-none m p h)) (free-tail b rest free)
    ∙ ap Some (plain-more m p b rest))

-- between quotes
pub quoted-run : (m : Marks) (bytes : List ℕ) → IsQuoteFree bytes → place_behind m at.Quoted bytes ≡ Some at.Quoted
unfolding place_behind
quoted-run m [] free = refl
quoted-run m (b ∷ rest) free = rw (free-head b rest free) (quoted-run m rest (free-tail b rest free))

-- after a closing quote
pub closed-none : (m : Marks) (bytes : List ℕ) → length bytes ≡ 0 → place_behind m at.Closed bytes ≡ Some at.Closed
unfolding place_behind
closed-none m [] none = refl
closed-none m (b ∷ rest) none = absurd (omega (arith, none))

pub closed-more : (m : Marks) (b : ℕ) (rest : List ℕ) → place_behind m at.Closed (b ∷ rest) ≡ then_place (closed_place m b) (λ p. place_behind m p rest)
unfolding place_behind
closed-more m b rest = refl

-- the first bytes of those with no quote among them have none
pub free-taken : (bytes : List ℕ) (i : ℕ) → i < length bytes → Nowhere (Passes (is_byte 34) bytes) 0 i → IsQuoteFree (take i bytes)
free-taken bytes i lt none k le less e =
    let below : k < i = omega (arith, less, length-take i bytes) in
    none k le below (rw (get_or-take i bytes k 0 below) at e)

pub free-rest : (b : ℕ) (rest : List ℕ) → IsQuoteFree (b ∷ rest) → IsQuoteFree rest
free-rest b rest free = free-tail b rest free

-- bytes one after the other
behind-from : (m : Marks) (o : Option Place) (xs ys : List ℕ)
    → then_place o (λ p. place_behind m p (xs ++ ys)) ≡ then_place (then_place o (λ p. place_behind m p xs)) (λ p. place_behind m p ys)
unfolding place_behind
behind-from m None xs ys = refl
behind-from m (Some p) [] ys = refl
behind-from m (Some p) (b ∷ xs) ys = behind-from m (place_after m p b) xs ys

steps : (m : Marks) (o : Option Place) (ys : List ℕ)
    → then_place o (λ q. place_behind m q (34 ∷ ys)) ≡ then_place (then_place o (λ q. place_after m q 34)) (λ q. place_behind m q ys)
unfolding place_behind
steps m None ys = refl
steps m (Some p) ys = refl

-- up to a quote, and from there
pub quote-next : (m : Marks) (p : Place) (bytes : List ℕ) (i : ℕ) → i < length bytes → (get_or bytes i 0 == 34) ≡ true
    → place_behind m p bytes ≡ then_place (then_place (place_behind m p (take i bytes)) (λ q. place_after m q 34)) (λ q. place_behind m q (drop (i + 1) bytes))
quote-next m p bytes i lt e =
    let cut : bytes ≡ take i bytes ++ 34 ∷ drop (i + 1) bytes =
    sym (take-append-drop i bytes) ∙ ap (λ rest. take i bytes ++ rest) (drop_more bytes i 0 lt ∙ ap (λ b. b ∷ drop (i + 1) bytes) (eqb-true _ _ e)) in
    ap (place_behind m p) cut ∙ behind-from m (Some p) (take i bytes) (34 ∷ drop (i + 1) bytes) ∙ steps m (place_behind m p (take i bytes)) (drop (i + 1) bytes)

pub rest-taken : (bytes : List ℕ) (i : ℕ) → take (length bytes - i) (drop i bytes) ≡ drop i bytes
rest-taken bytes i = take_all (length bytes - i) (drop i bytes) (omega (arith, length-drop i bytes))
