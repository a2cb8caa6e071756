-- What a reader of lines has left after a read.
use Rattle.std.proofs.Common.{◌≡◌, ◌∙◌, ℕ, List, ◌++◌, Option, Some, None, Bool, true, false, take, drop, refl, sym, ap, append_assoc, take-append-drop, if◌then◌else◌}
use Rattle.std.specs.Prelude.{is_none}
use Rattle.std.specs.Io.KnownBytes.{Consumes, Keeps, prepend_known}
use Rattle.keyed_files.specs.Lines.{ahead_of, left_of, lines_left}
use Rattle.keyed_files.specs.declared.ahead.Ahead.{Ahead}
use Rattle.keyed_files.specs.declared.by_line.ByLine.{ByLine}

kept-consumes : (a b c : Option (List ℕ)) (bs : List ℕ) → Keeps a b → Consumes b c bs → Consumes a c bs
kept-consumes None b c bs h k = tt
kept-consumes (Some x) None c bs h k = absurd h
kept-consumes (Some x) (Some y) None bs h k = absurd k
kept-consumes (Some x) (Some y) (Some z) bs h k = sym h ∙ k

passed : (known : Option (List ℕ)) (all : List ℕ) (n : ℕ) → Consumes (prepend_known all known) (prepend_known (drop n all) known) (take n all)
passed None all n = tt
passed (Some x) all n = ap (λ l. l ++ x) (sym (take-append-drop n all)) ∙ append_assoc (take n all) (drop n all) x

passed-if : (e : Bool) (known : Option (List ℕ)) (all : List ℕ) (n : ℕ)
    → Consumes (if e then Some all else prepend_known all known) (if e then Some (drop n all) else prepend_known (drop n all) known) (take n all)
passed-if true known all n = sym (take-append-drop n all)
passed-if false known all n = passed known all n

-- some bytes are taken
left-passed : {R : Type 0} (rem : R → Option (List ℕ)) (a b : Ahead R) (n : ℕ) → ahead_of b ≡ drop n (ahead_of a) → b.inner ≡ a.inner → b.is_ended ≡ a.is_ended
    → Consumes (left_of rem a) (left_of rem b) (take n (ahead_of a))
left-passed rem a b n rest inner ended = rw (rest, inner, ended) (passed-if a.is_ended (rem a.inner) (ahead_of a) n)

consumed-if : (c : Option ℕ) (x y : Option (List ℕ)) (bs : List ℕ) → (c ≡ None → Consumes x y bs) → Consumes (if is_none c then x else None) (if is_none c then y else None) bs
consumed-if None x y bs h = h refl
consumed-if (Some b) x y bs h = tt

-- and given
pub line-given : {R : Type 0} (rem : R → Option (List ℕ)) (a b : ByLine R) (mid : Ahead R) (n : ℕ) (buf : List ℕ) → b.lines.comment ≡ a.lines.comment
    → Keeps (left_of rem a.file) (left_of rem mid) → ahead_of b.file ≡ drop n (ahead_of mid) → b.file.inner ≡ mid.inner → b.file.is_ended ≡ mid.is_ended
    → (a.lines.comment ≡ None → take n buf ≡ take n (ahead_of mid)) → Consumes (lines_left rem a) (lines_left rem b) (take n buf)
line-given rem a b mid n buf same kept rest inner ended given =
    rw same (consumed-if a.lines.comment _ _ _ (λ none. rw (given none) (kept-consumes _ _ _ _ kept (left-passed rem mid b.file n rest inner ended))))
