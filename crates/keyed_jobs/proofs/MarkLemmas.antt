-- A text of rows and of lines that are none, one after the other.
use Rattle.std.proofs.Common.{◌≡◌, ◌∙◌, ℕ, List, [], ◌∷◌, ◌++◌, append-nil, append_assoc, ap, subst, sym}
use Rattle.std.specs.Prelude.{flat_map}
use Rattle.std.proofs.lemmas.List.{flat_map_more}
use Rattle.keyed_requests.specs.declared.request.Form.{Form}
use Rattle.keyed_files.specs.declared.written.Written.{Written}
use Rattle.keyed_files.specs.Writing.{PutsRows, Wrote, text_of, writer_of}
use Rattle.keyed_files.proofs.WritingLemmas.{wrote-more}
use Rattle.keyed_jobs.specs.MarkedText.{HasText, KeepsText, PutsText}
use Rattle.keyed_jobs.specs.declared.marks.Text.{Text}
use Rattle.keyed_jobs.proofs.RowTextLemmas.{text_both}

module _ (form : Form) where
  -- nothing is put
  pub puts-none : (a : Text) → PutsText form a a []
  puts-none a bytes h = subst (λ l. HasText form l a) (sym (append-nil bytes)) h

  -- one thing after the other
  pub puts-then : (a b e : Text) (xs ys : List ℕ) → PutsText form a b xs → PutsText form b e ys → PutsText form a e (xs ++ ys)
  puts-then a b e xs ys f g bytes h = subst (λ l. HasText form l e) (append_assoc bytes xs ys) (g (bytes ++ xs) (f bytes h))

  -- what one more of several things comes to
  pub puts-more : {A : Type 0} (f : A → List ℕ) (a b e : Text) (xs : List A) (x : A)
      → PutsText form a b (flat_map f xs) → PutsText form b e (f x) → PutsText form a e (flat_map f (xs ++ x ∷ []))
  puts-more f a b e xs x g h = subst (PutsText form a e) (flat_map_more f [] xs x) (puts-then a b e (flat_map f xs) (f x) g h)

  -- rows
  pub puts-rows : (text : Text) (new : Written) (more : List (List (List ℕ))) → PutsRows text.written new more
      → PutsText form text (record { bytes = text.bytes; written = new }) (text_of form more)
  puts-rows text new more puts bytes h = record {
    rows = h.rows ++ more;
    wrote = wrote-more form text.written new h.rows more h.wrote puts;
    are = ap (λ l. l ++ text_of form more) h.are ∙ append_assoc text.bytes.items (text_of form h.rows) (text_of form more)
        ∙ ap (λ l. text.bytes.items ++ l) (sym (text_both (writer_of form) h.rows more));
  }

  -- a line, where all bytes before it stay as they are
  pub puts-line : (a b e : Text) (line end : List ℕ) → KeepsText form a b → e.written ≡ b.written → e.bytes.items ≡ (b.bytes.items ++ line) ++ end
      → PutsText form a e (line ++ end)
  puts-line a b e line end keeps same items bytes h =
      let kept = keeps bytes h in record {
        rows = [];
        wrote = subst (Wrote form []) (sym same) kept.1;
        are = sym (append-nil e.bytes.items ∙ items ∙ append_assoc b.bytes.items line end ∙ ap (λ l. l ++ (line ++ end)) kept.0);
      }
