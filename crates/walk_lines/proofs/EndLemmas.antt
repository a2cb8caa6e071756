-- The calls of ends that a word names.
use Rattle.std.proofs.Common.{ℕ, ◌≡◌, ◌≢◌, ◌⊎◌, inl, inr, List, [], ◌∷◌, map, refl, sym, ap, ap₂, ◌∙◌}
use Rattle.std.specs.Prelude.{All}
use Rattle.std.proofs.lemmas.List.Elements.{All-nil, All-cons, All-head, All-tail}
use Rattle.eob_lists.specs.declared.drive.End.{End}
use Rattle.eob_lists.specs.declared.drive.End.TheVariants.{Front, Back}
use Rattle.line_words.specs.Words.{words}
use Rattle.walk_lines.specs.declared.line.Name.TheVariants as name
use Rattle.walk_lines.specs.Commands.{Named, Command, Collect, Walk, Normal, Ends, Join, end_letter, item_text}
use Rattle.walk_lines.specs.Answers.{SaysBehind, SaysItems, SaysNoItems}

abbrev IsLetter : ℕ → Type 0
IsLetter b = (b ≡ 102) ⊎ (b ≡ 98)

pub letters_ends : (bs : List ℕ) → All IsLetter bs → (ends : List End) × (bs ≡ map end_letter ends)
letters_ends [] h = ([], refl)
letters_ends (b ∷ bs) h = by (All-head IsLetter b bs h) (letters_ends bs (All-tail IsLetter b bs h))
  where
    by : IsLetter b → ((ends : List End) × (bs ≡ map end_letter ends)) → (ends : List End) × (b ∷ bs ≡ map end_letter ends)
    by (inl e) m = (Front ∷ m.0, ap₂ (λ x xs. x ∷ xs) e m.1)
    by (inr e) m = (Back ∷ m.0, ap₂ (λ x xs. x ∷ xs) e m.1)

pub ends_letters : (ends : List End) → All IsLetter (map end_letter ends)
ends_letters [] = All-nil IsLetter
ends_letters (Front ∷ ends) = All-cons IsLetter 102 (map end_letter ends) (inl refl) (ends_letters ends)
ends_letters (Back ∷ ends) = All-cons IsLetter 98 (map end_letter ends) (inr refl) (ends_letters ends)

-- some bytes name some calls
pub ends_filled : (bs : List ℕ) (ends : List End) → bs ≡ map end_letter ends → bs ≢ [] → ends ≢ []
ends_filled bs ends e n q = n (e ∙ ap (map end_letter) q)

pub filled : (ends : List End) → ends ≢ [] → map end_letter ends ≢ []
filled [] n e = n refl
filled (end ∷ ends) n e = absurd (cc)

-- the words after `ends`
ends_words : (bytes letters rest : List ℕ) → (letters ≡ [] → words bytes ≡ []) → (letters ≢ [] → words bytes ≡ letters ∷ words rest)
    → (first : List ℕ) (others : List (List ℕ)) → words bytes ≡ first ∷ others → (letters ≡ first) × (words rest ≡ others)
ends_words bytes [] rest none some first others e = absurd (cc (none refl, e))
ends_words bytes (l ∷ letters) rest none some first others e =
    let same : (l ∷ letters) ∷ words rest ≡ first ∷ others = sym (some (λ q. absurd (cc))) ∙ e in
    (cc, cc)

pub no_calls : (bytes letters rest : List ℕ) → (letters ≡ [] → words bytes ≡ []) → (letters ≢ [] → words bytes ≡ letters ∷ words rest)
    → ((ends : List End) → ends ≢ [] → letters ≢ map end_letter ends) → (c : Command) → SaysBehind name.Ends bytes c → ⊥
no_calls bytes letters rest none some h (Ends ends items) s =
    h ends s.formed.0 (ends_words bytes letters rest none some (map end_letter ends) (map item_text items) s.words).0
no_calls bytes letters rest none some h (Collect items) s = absurd (cc (s.name))
no_calls bytes letters rest none some h (Walk items) s = absurd (cc (s.name))
no_calls bytes letters rest none some h (Normal items) s = absurd (cc (s.name))
no_calls bytes letters rest none some h (Join p q) s = absurd (cc (s.name))

pub no_ends_items : (bytes letters rest : List ℕ) → (letters ≡ [] → words bytes ≡ []) → (letters ≢ [] → words bytes ≡ letters ∷ words rest)
    → SaysNoItems rest → (c : Command) → SaysBehind name.Ends bytes c → ⊥
no_ends_items bytes letters rest none some h (Ends ends items) s =
    h items (record { words = (ends_words bytes letters rest none some (map end_letter ends) (map item_text items) s.words).1; names = s.formed.1 })
no_ends_items bytes letters rest none some h (Collect items) s = absurd (cc (s.name))
no_ends_items bytes letters rest none some h (Walk items) s = absurd (cc (s.name))
no_ends_items bytes letters rest none some h (Normal items) s = absurd (cc (s.name))
no_ends_items bytes letters rest none some h (Join p q) s = absurd (cc (s.name))

pub says_ends : (bytes letters rest : List ℕ) (ends : List End) (items : List Named) → (letters ≢ [] → words bytes ≡ letters ∷ words rest)
    → ends ≢ [] → letters ≡ map end_letter ends → SaysItems rest items → SaysBehind name.Ends bytes (Ends ends items)
says_ends bytes letters rest ends items some n e s = record {
  name = refl;
  words = some (λ q. filled ends n (sym e ∙ q)) ∙ ap₂ (λ w ws. w ∷ ws) e s.words;
  formed = (n, s.names);
}
