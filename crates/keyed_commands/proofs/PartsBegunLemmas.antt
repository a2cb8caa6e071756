-- Two tables that are read part by part, and what stands on the output where that ends with an error: a beginning of what is said of rows that
-- both tables begin with.
use Rattle.std.proofs.Common.{◌≡◌, ◌∙◌, ℕ, false, List, [], ◌++◌, Option, append-nil, append_assoc, inl, inr, sym, ap}
use Rattle.std.specs.Io.KnownBytes.{Appends, Keeps}
use Rattle.std.proofs.KnownBytes.{Appends-kept, Appends-trans, Keeps-refl}
use Rattle.keyed_jobs.specs.Written.{PutsBeginning, PutsSome}
use Rattle.keyed_commands.specs.PartAnswers.{on_later}
use Rattle.keyed_commands.specs.SortedParts.{HasWritten, IsFresh, SaysNext, SaysTaken}
use Rattle.keyed_commands.specs.declared.sorted.PartWritten.{PartWritten}
use Rattle.keyed_commands.specs.declared.sorted.TwoParts.{TwoParts}
use Rattle.keyed_commands.specs.declared.sorted.Work.{Work}
use Rattle.keyed_commands.proofs.PartsWrittenLemmas.{taken_first, taken_next, taken_written}

-- nothing is put
pub begun_not : (IsText : List ℕ → Type 0) (file : List ℕ) (before : Option (List ℕ)) → PutsBeginning IsText file before before
begun_not IsText file before = inl (Keeps-refl before)

-- bytes are put after those of another text
puts_after : (before between after : Option (List ℕ)) (first text : List ℕ) → Appends before between first → PutsSome between after text
    → PutsSome before after (first ++ text)
puts_after before between after first text a h =
    (first ++ h.0, h.1, ap (λ l. first ++ l) h.2 ∙ sym (append_assoc first h.0 h.1), Appends-trans before between after first h.0 a h.3)

-- a text is put, all of it
pub begun_whole : (IsText : List ℕ → Type 0) (file : List ℕ) (before after : Option (List ℕ)) (text : List ℕ) → IsText text → Appends before after text
    → PutsBeginning IsText file before after
begun_whole IsText file before after text is a = inr (text, is, (text, [], sym (append-nil text), a), λ other. a)

-- a text of one kind is one of another
pub begun_weaker : (P Q : List ℕ → Type 0) (file : List ℕ) (before after : Option (List ℕ)) → ((text : List ℕ) → P text → Q text)
    → PutsBeginning P file before after → PutsBeginning Q file before after
begun_weaker P Q file before after f (inl kept) = inl kept
begun_weaker P Q file before after f (inr h) = inr (h.0, f h.0 h.1, h.2, h.3)

module _ {R : Type 0} (rem : R → Option (List ℕ)) (how : Work) (start : TwoParts R) (file : List ℕ) where
  -- the first part is begun
  pub begun_first : (before after : Option (List ℕ)) → IsFresh start.left → IsFresh start.right → PutsBeginning (SaysNext rem how start) file before after
      → PutsBeginning (SaysTaken rem how start) file before after
  begun_first before after left right h = begun_weaker (SaysNext rem how start) (SaysTaken rem how start) file before after (taken_first rem how start left right) h

  -- a later one is
  pub begun_next : (later : Work) (mid : TwoParts R) (before between after : Option (List ℕ)) (first : PartWritten) → on_later how ≡ later
      → HasWritten rem how start mid before between first → first.is_last ≡ false → PutsBeginning (SaysNext rem later mid) file between after
      → PutsBeginning (SaysTaken rem how start) file before after
  begun_next later mid before between after first same h more (inl kept) =
      begun_whole (SaysTaken rem how start) file before after h.text (taken_written rem how start mid before between first h)
      (Appends-kept before between after h.text h.puts kept)
  begun_next later mid before between after first same h more (inr next) =
      inr (
        h.text ++ next.0,
        taken_next rem how later start mid before between first same h more next.0 next.1,
        puts_after before between after h.text next.0 h.puts next.2,
        λ other. Appends-trans before between after h.text next.0 h.puts (next.3 other),
      )

  -- no more comes after what is written
  pub begun_none : (now : TwoParts R) (before between after : Option (List ℕ)) (written : PartWritten) → HasWritten rem how start now before between written
      → Keeps between after → PutsBeginning (SaysTaken rem how start) file before after
  begun_none now before between after written h kept =
      begun_whole (SaysTaken rem how start) file before after h.text (taken_written rem how start now before between written h)
      (Appends-kept before between after h.text h.puts kept)
