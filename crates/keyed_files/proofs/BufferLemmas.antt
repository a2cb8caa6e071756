-- Bytes that are read ahead: some of them taken, and some read after them.
use Rattle.std.proofs.Common.{◌≡◌, ◌∙◌, ◌+◌, ◌-◌, ◌≤◌, ℕ, List, ◌++◌, Option, Some, None, min, length, take, drop, slice_range, sym, ap, arith, append_assoc, length-take, drop-drop}
use Rattle.std.proofs.Math.Seq.{take-add}
use Rattle.std.proofs.lemmas.List.{drop-take, drop_min}
use Rattle.std.specs.Io.KnownBytes.{Consumes, Keeps, prepend_known}

drop-min-take : (k n : ℕ) (xs : List ℕ) → drop (min k n) (take k xs) ≡ drop n (take k xs)
drop-min-take k n xs =
    let front = take k xs in
    let same : min (min k n) (length front) ≡ min n (length front) = omega (arith, length-take k xs) in
    sym (drop_min (min k n) front) ∙ ap (λ m. drop m front) same ∙ drop_min n front

-- some are taken
pub range-passed : (xs : List ℕ) (a e n : ℕ) → slice_range xs (a + min (e - a) n) e ≡ drop n (slice_range xs a e)
range-passed xs a e n =
    let m = min (e - a) n in
    let whole : m + (e - (a + m)) ≡ e - a = omega arith in
    ap (take (e - (a + m))) (sym (drop-drop m a xs))
    ∙ sym (drop-take m (e - (a + m)) (drop a xs))
    ∙ ap (λ k. drop m (take k (drop a xs))) whole
    ∙ drop-min-take (e - a) n (drop a xs)

-- a range of what stands before a place
range-of-front : (xs : List ℕ) (a e : ℕ) → a ≤ e → slice_range xs a e ≡ drop a (take e xs)
range-of-front xs a e le =
    let whole : a + (e - a) ≡ e = omega arith in
    sym (drop-take a (e - a) xs) ∙ ap (λ k. drop a (take k xs)) whole

-- a range that goes on
range-more : (xs : List ℕ) (a e n : ℕ) → a ≤ e → slice_range xs a (e + n) ≡ slice_range xs a e ++ take n (drop e xs)
range-more xs a e n le =
    let both : e + n - a ≡ (e - a) + n = omega arith in
    let whole : a + (e - a) ≡ e = omega arith in
    ap (λ k. take k (drop a xs)) both
    ∙ take-add (e - a) n (drop a xs)
    ∙ ap (λ l. slice_range xs a e ++ take n l) (drop-drop (e - a) a xs ∙ ap (λ k. drop k xs) whole)

-- some are read after the others
pub range-grown : (old new : List ℕ) (a e n : ℕ) → a ≤ e → take e new ≡ take e old → slice_range new a (e + n) ≡ slice_range old a e ++ take n (drop e new)
range-grown old new a e n le same =
    range-more new a e n le
    ∙ ap (λ l. l ++ take n (drop e new)) (range-of-front new a e le ∙ ap (drop a) same ∙ sym (range-of-front old a e le))

-- what a reader has given is before what it has left
pub grown-keeps : (known after : Option (List ℕ)) (old new more : List ℕ) → Consumes known after more → new ≡ old ++ more
    → Keeps (prepend_known old known) (prepend_known new after)
grown-keeps None after old new more h e = tt
grown-keeps (Some x) None old new more h e = absurd h
grown-keeps (Some x) (Some y) old new more h e = ap (λ l. l ++ y) e ∙ append_assoc old more y ∙ ap (λ l. old ++ l) (sym h)

pub prepended-keeps : (known after : Option (List ℕ)) (old new : List ℕ) → Keeps known after → new ≡ old → Keeps (prepend_known old known) (prepend_known new after)
prepended-keeps None after old new h e = tt
prepended-keeps (Some x) None old new h e = absurd h
prepended-keeps (Some x) (Some y) old new h e = ap (λ l. l ++ y) e ∙ ap (λ l. old ++ l) h
