-- Names, items and pairs at the front of bytes.
use Rattle.std.proofs.Common.{ℕ, ◌≡◌, ◌≢◌, List, [], ◌∷◌, ◌++◌, inl, inr, refl, sym, ap, ◌∙◌, subst, append_assoc, arith}
use Rattle.std.specs.Prelude.{All}
use Rattle.std.proofs.lemmas.List.Elements.{All-weaker, All-head, All-tail}
use Rattle.line_words.specs.Names.{IsName, IsNameByte, NoNameAhead}
use Rattle.line_words.specs.Words.{IsWordEnd}

-- the bytes of a name at the front end where they end
pub one_split : (a x b y : List ℕ) → All IsNameByte a → All IsNameByte b → NoNameAhead x → NoNameAhead y → a ++ x ≡ b ++ y → (a ≡ b) × (x ≡ y)
one_split [] x [] y p q m n e = (refl, e)
one_split [] x (d ∷ b) y p q m n e = absurd (m d (b ++ y) e (All-head IsNameByte d b q))
one_split (c ∷ a) x [] y p q m n e = absurd (n c (a ++ x) (sym e) (All-head IsNameByte c a p))
one_split (c ∷ a) x (d ∷ b) y p q m n e =
    let r = one_split a x b y (All-tail IsNameByte c a p) (All-tail IsNameByte d b q) m n (cc) in
    let h : c ≡ d = cc in
    ((ap (λ l. c ∷ l) r.0 ∙ ap (λ z. z ∷ b) h), r.1)

no_space_byte : (b : ℕ) → IsNameByte b → b ≢ 32
no_space_byte b (inl h) e = absurd (omega arith)
no_space_byte b (inr h) e = absurd (omega arith)

pub end_no_name : (rest : List ℕ) → IsWordEnd rest → NoNameAhead rest
end_no_name [] h b more e p = absurd (cc)
end_no_name (c ∷ rest) h b more e p = let s : c ≡ b = cc in no_space_byte b p (sym s ∙ h)

-- a byte that is none of a name, in front
pub byte_no_name : (c : ℕ) (rest : List ℕ) → ¬ IsNameByte c → NoNameAhead (c ∷ rest)
byte_no_name c rest h b more e p = let s : c ≡ b = cc in h (subst IsNameByte (sym s) p)

pub name_spaceless : (n : List ℕ) → IsName n → All (λ b. b ≢ 32) n
name_spaceless n h = All-weaker IsNameByte (λ b. b ≢ 32) no_space_byte n h.1

pub name_ahead : (v more : List ℕ) → IsName v → NoNameAhead (v ++ more) → ⊥
name_ahead [] more h n = h.0 refl
name_ahead (b ∷ v) more h n = n b (v ++ more) refl (All-head IsNameByte b v h.1)

-- what stands after the first of two names
pub names_rest : (bytes first rest v w more : List ℕ) (p : ℕ) → ¬ IsNameByte p → IsName first → NoNameAhead rest → bytes ≡ first ++ rest → IsName v → bytes ≡ (v ++ p ∷ w) ++ more → rest ≡ p ∷ (w ++ more)
names_rest bytes first rest v w more p np nf nr e nv f =
    (one_split first rest v (p ∷ (w ++ more)) nf.1 nv.1 nr (byte_no_name p (w ++ more) np) (sym e ∙ f ∙ append_assoc v (p ∷ w) more)).1
