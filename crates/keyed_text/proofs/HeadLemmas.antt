-- A reader whose first bytes are read before the others: what it has left, and the style that they tell.
use Rattle.std.proofs.Common.{◌≡◌, ◌∙◌, ◌+◌, ◌⊎◌, ℕ, List, [], ◌++◌, Option, None, Some, Bool, true, false, append_assoc, append-nil, ap, drop, drop-drop, inl, inr, refl, sym, take, take-append-drop, if◌then◌else◌}
use Rattle.std.specs.Prelude.{IfSome}
use Rattle.std.specs.Io.KnownBytes.{Consumes, Keeps, prepend_known}
use Rattle.keyed_text.specs.TextStyles.{NotesMore, headed_left, style_of, style_with}
use Rattle.keyed_text.specs.declared.headed.Headed.{Headed}
use Rattle.keyed_text.specs.declared.quotes.Marks.{Marks}
use Rattle.keyed_text.specs.declared.style_notes.StyleNotes.{StyleNotes}

keeps-all : (known : Option (List ℕ)) → Keeps known (prepend_known [] known)
keeps-all None = tt
keeps-all (Some text) = refl

-- no byte is read before
pub unread-keeps : {R : Type 0} (rem : R → Option (List ℕ)) (h : Headed R) (reader : R) → h.reader ≡ reader → h.is_ended ≡ false → h.head.items ≡ [] → h.passed ≡ 0
    → Keeps (rem reader) (headed_left rem h)
unread-keeps rem h reader same goes_on none passed = rw (same, goes_on, none, passed) (keeps-all (rem reader))

-- some of the first bytes are passed on
known-passed : (known : Option (List ℕ)) (all : List ℕ) (p n : ℕ)
    → Consumes (prepend_known (drop p all) known) (prepend_known (drop (p + n) all) known) (take n (drop p all))
known-passed None all p n = tt
known-passed (Some x) all p n =
    ap (λ l. l ++ x) (sym (take-append-drop n (drop p all))) ∙ append_assoc (take n (drop p all)) (drop n (drop p all)) x
    ∙ ap (λ l. take n (drop p all) ++ (l ++ x)) (drop-drop n p all)

head-passed : (ended : Bool) (known : Option (List ℕ)) (all : List ℕ) (p n : ℕ)
    → Consumes (if ended then Some (drop p all) else prepend_known (drop p all) known)
    (if ended then Some (drop (p + n) all) else prepend_known (drop (p + n) all) known) (take n (drop p all))
head-passed true known all p n = sym (take-append-drop n (drop p all)) ∙ ap (λ l. take n (drop p all) ++ l) (drop-drop n p all)
head-passed false known all p n = known-passed known all p n

pub head-given : {R : Type 0} (rem : R → Option (List ℕ)) (h : Headed R) (n : ℕ) (given : List ℕ) → given ≡ take n (drop h.passed h.head.items)
    → Consumes (headed_left rem h) (headed_left rem (record h { passed = h.passed + n })) given
head-given rem h n given e = rw e (head-passed h.is_ended (rem h.reader) h.head.items h.passed n)

-- the first bytes tell the style
told-of : (m : Marks) (n : StyleNotes) (head : List ℕ) (ended : Bool) (left : Option (List ℕ))
    → ((rest : List ℕ) → style_with n rest ≡ style_of m (head ++ rest) true)
    → (ended ≡ true) ⊎ ((rest : List ℕ) → style_with n rest ≡ style_with n [])
    → IfSome (if ended then Some head else prepend_known head left) (λ text. style_with n [] ≡ style_of m text true)
told-of m n head true left told known = told [] ∙ ap (λ t. style_of m t true) (append-nil head)
told-of m n head false None told known = tt
told-of m n head false (Some rest) told (inl ended) = absurd (cc)
told-of m n head false (Some rest) told (inr settled) = sym (settled rest) ∙ told rest

pub style-told : {R : Type 0} (rem : R → Option (List ℕ)) (m : Marks) (n : StyleNotes) (h : Headed R) → h.passed ≡ 0
    → ((rest : List ℕ) → style_with n rest ≡ style_of m (h.head.items ++ rest) true)
    → (h.is_ended ≡ true) ⊎ ((rest : List ℕ) → style_with n rest ≡ style_with n [])
    → IfSome (headed_left rem h) (λ text. style_with n [] ≡ style_of m text true)
style-told rem m n h passed told how = rw passed (told-of m n h.head.items h.is_ended (rem h.reader) told how)

-- more of them are noted
pub noted-more : (m : Marks) (old new : StyleNotes) (head grown more : List ℕ) → grown ≡ head ++ more → NotesMore old new more
    → ((rest : List ℕ) → style_with old rest ≡ style_of m (head ++ rest) true) → (rest : List ℕ) → style_with new rest ≡ style_of m (grown ++ rest) true
noted-more m old new head grown more e notes told rest =
    notes.style rest ∙ told (more ++ rest) ∙ ap (λ t. style_of m t true) (sym (append_assoc head more rest) ∙ ap (λ l. l ++ rest) (sym e))
