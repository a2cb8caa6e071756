-- Words of a line, from its front.
use Rattle.std.proofs.Common.{ℕ, ◌≡◌, ◌≢◌, ◌<◌, ◌==◌, zero, suc, List, [], ◌∷◌, ◌++◌, Bool, true, false, length, get_or, take, drop, refl, sym, ap, ◌∙◌, subst, append-nil, arith, take-append-drop}
use Rattle.std.specs.Prelude.{All, filter}
use Rattle.std.specs.List.{slice_split}
use Rattle.std.proofs.lemmas.List.Splits.{slice_split_none, slice_split_at}
use Rattle.std.proofs.lemmas.List.Elements.{All-nil, All-cons, All-weaker}
use Rattle.line_words.specs.Words.{is_filled, words, IsWord, IsWordEnd, NoSpaceAhead}

abbrev is_space : ℕ → Bool
is_space b = b == 32

no_space : (b : ℕ) → b ≢ 32 → is_space b ≡ false
no_space b h = by (is_space b) refl
  where
    by : (t : Bool) → is_space b ≡ t → is_space b ≡ false
    by true e = absurd (h (grind (arith, e)))
    by false e = e

pub words_nil : words [] ≡ []
unfolding words
words_nil = refl

pub words_space : (xs : List ℕ) → words (32 ∷ xs) ≡ words xs
unfolding words
words_space xs = refl

pub words_spaces : (n : ℕ) (xs : List ℕ) → ((k : ℕ) → k < n → k < length xs → get_or xs k 0 ≡ 32) → words (drop n xs) ≡ words xs
words_spaces zero xs f = refl
words_spaces (suc n) [] f = refl
words_spaces (suc n) (x ∷ xs) f = words_spaces n xs (λ k l m. f (suc k) (omega arith) (omega arith)) ∙ sym (ap (λ b. words (b ∷ xs)) (f 0 (omega arith) (omega arith)) ∙ words_space xs)

filter_filled : (w : List ℕ) (ws : List (List ℕ)) → w ≢ [] → filter is_filled (w ∷ ws) ≡ w ∷ filter is_filled ws
filter_filled [] ws h = absurd (h refl)
filter_filled (b ∷ w) ws h = refl

pub words_word : (w rest : List ℕ) → IsWord w → IsWordEnd rest → words (w ++ rest) ≡ w ∷ words rest
unfolding words
words_word w [] h e = ap words (append-nil w) ∙ ap (filter is_filled) (slice_split_none is_space w (All-weaker (λ b. b ≢ 32) (λ b. is_space b ≡ false) no_space w h.1)) ∙ filter_filled w [] h.0
words_word w (b ∷ ys) h e =
    ap (λ c. words (w ++ c ∷ ys)) e
    ∙ ap (filter is_filled) (slice_split_at is_space w 32 ys (All-weaker (λ b. b ≢ 32) (λ b. is_space b ≡ false) no_space w h.1) refl)
    ∙ filter_filled w (slice_split is_space ys) h.0
    ∙ ap (λ l. w ∷ l) (sym (ap (λ c. words (c ∷ ys)) e))

-- bytes up to their first space
up_to_space : (xs : List ℕ) → (w : List ℕ) × (rest : List ℕ) × (xs ≡ w ++ rest) × All (λ b. b ≢ 32) w × IsWordEnd rest
up_to_space [] = ([], [], refl, All-nil (λ b. b ≢ 32), tt)
up_to_space (x ∷ xs) = by (is_space x) refl (up_to_space xs)
  where
    by : (t : Bool) → is_space x ≡ t → ((w : List ℕ) × (rest : List ℕ) × (xs ≡ w ++ rest) × All (λ b. b ≢ 32) w × IsWordEnd rest)
        → (w : List ℕ) × (rest : List ℕ) × (x ∷ xs ≡ w ++ rest) × All (λ b. b ≢ 32) w × IsWordEnd rest
    by true e h = ([], x ∷ xs, refl, All-nil (λ b. b ≢ 32), grind (arith, e))
    by false e h = (x ∷ h.0, h.1, ap (λ l. x ∷ l) h.2, All-cons (λ b. b ≢ 32) x h.0 (λ q. grind (arith, e, q)) h.3, h.4)

-- the first word of bytes that begin with none but a word
pub first_word : (xs : List ℕ) → NoSpaceAhead xs → xs ≢ [] → (w : List ℕ) × (rest : List ℕ) × (xs ≡ w ++ rest) × IsWord w × IsWordEnd rest
first_word xs a n = by (up_to_space xs)
  where
    by : ((w : List ℕ) × (rest : List ℕ) × (xs ≡ w ++ rest) × All (λ b. b ≢ 32) w × IsWordEnd rest)
        → (w : List ℕ) × (rest : List ℕ) × (xs ≡ w ++ rest) × IsWord w × IsWordEnd rest
    by h = (h.0, h.1, h.2, ((λ e. filled h.0 h.1 e h.2 h.4), h.3), h.4)
      where
        filled : (w rest : List ℕ) → w ≡ [] → xs ≡ w ++ rest → IsWordEnd rest → ⊥
        filled w [] e q end = n (q ∙ append-nil w ∙ e)
        filled w (b ∷ ys) e q end = a b ys (q ∙ ap (λ l. l ++ b ∷ ys) e) end

-- where the first of the words is known, the bytes begin with it
pub word_ahead : (xs w : List ℕ) (ws : List (List ℕ)) → NoSpaceAhead xs → words xs ≡ w ∷ ws → (rest : List ℕ) × (xs ≡ w ++ rest) × IsWordEnd rest × (words rest ≡ ws) × IsWord w
word_ahead [] w ws a e = absurd (cc (words_nil, e))
word_ahead (x ∷ xs) w ws a e =
    let f = first_word (x ∷ xs) a (λ q. cc) in
    let g : f.0 ∷ words f.1 ≡ w ∷ ws = sym (ap words f.2 ∙ words_word f.0 f.1 f.3 f.4) ∙ e in
    let h : f.0 ≡ w = cc in
    (f.1, f.2 ∙ ap (λ l. l ++ f.1) h, f.4, cc, subst IsWord h f.3)

-- bytes that have a byte, and no space in front, have a word
pub has_word : (xs : List ℕ) → NoSpaceAhead xs → words xs ≡ [] → xs ≡ []
has_word [] a e = refl
has_word (x ∷ xs) a e =
    let f = first_word (x ∷ xs) a (λ q. cc) in
    let g : f.0 ∷ words f.1 ≡ [] = sym (ap words f.2 ∙ words_word f.0 f.1 f.3 f.4) ∙ e in
    absurd (cc)

-- from what stands at each index
pub no_space_from : (n : ℕ) (xs : List ℕ) → (n < length xs → get_or xs n 0 ≢ 32) → NoSpaceAhead (drop n xs)
no_space_from zero [] h b rest e q = absurd (cc)
no_space_from zero (x ∷ xs) h b rest e q = let same : x ≡ b = cc in h (omega arith) (same ∙ q)
no_space_from (suc n) [] h b rest e q = absurd (cc)
no_space_from (suc n) (x ∷ xs) h b rest e q = no_space_from n xs (λ l. h (omega arith)) b rest e q

pub word_end_from : (n : ℕ) (xs : List ℕ) → (n < length xs → get_or xs n 0 ≡ 32) → IsWordEnd (drop n xs)
word_end_from zero [] h = tt
word_end_from zero (x ∷ xs) h = h (omega arith)
word_end_from (suc n) [] h = tt
word_end_from (suc n) (x ∷ xs) h = word_end_from n xs (λ l. h (omega arith))

pub no_spaces_in : (n : ℕ) (xs : List ℕ) → ((k : ℕ) → k < n → k < length xs → get_or xs k 0 ≢ 32) → All (λ b. b ≢ 32) (take n xs)
no_spaces_in zero xs f = All-nil (λ b. b ≢ 32)
no_spaces_in (suc n) [] f = All-nil (λ b. b ≢ 32)
no_spaces_in (suc n) (x ∷ xs) f = All-cons (λ b. b ≢ 32) x (take n xs) (f 0 (omega arith) (omega arith)) (no_spaces_in n xs (λ k l m. f (suc k) (omega arith) (omega arith)))

pub word_none : (s : List ℕ) → NoSpaceAhead s → (0 < length s → get_or s 0 0 ≡ 32) → words s ≡ []
word_none [] a f = words_nil
word_none (x ∷ s) a f = absurd (a x s refl (f (omega arith)))

pub word_split : (s : List ℕ) (n : ℕ) (w r : List ℕ) → w ≡ take n s → r ≡ drop n s → ((k : ℕ) → k < n → get_or s k 0 ≢ 32) → (n < length s → get_or s n 0 ≡ 32) → w ≢ [] → words s ≡ w ∷ words r
word_split s n w r p q before end ne =
    let word : IsWord w = (ne, subst (All (λ b. b ≢ 32)) (sym p) (no_spaces_in n s (λ k l m. before k l))) in
    let stop : IsWordEnd r = subst IsWordEnd (sym q) (word_end_from n s end) in
    ap words (sym (take-append-drop n s) ∙ ap (λ l. l ++ drop n s) (sym p) ∙ ap (λ l. w ++ l) (sym q)) ∙ words_word w r word stop

pub no_bytes : (xs : List ℕ) → length xs ≡ 0 → xs ≡ []
no_bytes [] e = refl
no_bytes (x ∷ xs) e = absurd (omega arith)
