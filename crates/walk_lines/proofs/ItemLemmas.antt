-- Items and entries that the words of a line say.
use Rattle.std.proofs.Common.{ℕ, ◌==◌, false, eq-eqb, true≢false, ◌≡◌, ◌≢◌, List, [], ◌∷◌, ◌++◌, inl, inr, map, refl, sym, ap, ◌∙◌, append-nil, append_assoc, arith}
use Rattle.std.specs.Prelude.{All}
use Rattle.std.proofs.lemmas.List.{map-append}
use Rattle.std.proofs.lemmas.List.Elements.{All-cons, All-head, All-tail, All-append, All-push}
use Rattle.eob_both.specs.declared.either_or_both.EitherOrBoth.TheVariants.{Left, Both, Right}
use Rattle.line_words.specs.Names.{IsNameByte, NoNameAhead}
use Rattle.line_words.specs.Words.{words, IsWord}
use Rattle.line_words.proofs.NameLemmas.{byte_no_name, name_spaceless, one_split}
use Rattle.walk_lines.specs.Commands.{Named, Entry, item_text, entry_text, HasNames, HasEntryNames}
use Rattle.walk_lines.specs.Answers.{SaysFirst, SaysItems, SaysNoItems, NoItemAhead}

behind : (b : ℕ) (bs : List ℕ) → b ≢ 32 → All (λ c. c ≢ 32) bs → All (λ c. c ≢ 32) (b ∷ bs)
behind b bs h p = All-cons (λ c. c ≢ 32) b bs h p

pub item_word : (item : Named) → HasNames item → IsWord (item_text item)
item_word (Left w) h = (λ e. absurd (cc), behind 108 (58 ∷ w) (λ q. absurd (omega arith)) (behind 58 w (λ q. absurd (omega arith)) (name_spaceless w h)))
item_word (Right w) h = (λ e. absurd (cc), behind 114 (58 ∷ w) (λ q. absurd (omega arith)) (behind 58 w (λ q. absurd (omega arith)) (name_spaceless w h)))
item_word (Both v w) h = (
  λ e. absurd (cc),
  behind 98 (58 ∷ v ++ 58 ∷ w) (λ q. absurd (omega arith)) (behind 58 (v ++ 58 ∷ w) (λ q. absurd (omega arith))
      (All-append (λ c. c ≢ 32) v (58 ∷ w) (name_spaceless v h.0) (behind 58 w (λ q. absurd (omega arith)) (name_spaceless w h.1)))),
)

pub entry_word : (p : Entry) → HasEntryNames p → IsWord (entry_text p)
entry_word p h = (λ e. h.0.0 (front p.0 (61 ∷ p.1) e), All-append (λ c. c ≢ 32) p.0 (61 ∷ p.1) (name_spaceless p.0 h.0) (behind 61 p.1 (λ q. absurd (omega arith)) (name_spaceless p.1 h.1)))
  where
    front : (xs ys : List ℕ) → xs ++ ys ≡ [] → xs ≡ []
    front [] ys e = refl
    front (x ∷ xs) ys e = absurd (cc)

pub heads : (a b : ℕ) (xs ys : List ℕ) → (a == b) ≡ false → a ∷ xs ≡ b ∷ ys → ⊥
heads a b xs ys n e = let h : a ≡ b = cc in true≢false (sym (eq-eqb a b h) ∙ n)

-- two ways to take an item off the front are one
pub item_once : (i j : Named) (x y : List ℕ) → HasNames i → HasNames j → NoNameAhead x → NoNameAhead y → item_text i ++ x ≡ item_text j ++ y → x ≡ y
item_once (Left v) (Left w) x y p q m n e = (one_split v x w y p.1 q.1 m n (cc)).1
item_once (Right v) (Right w) x y p q m n e = (one_split v x w y p.1 q.1 m n (cc)).1
item_once (Both u v) (Both w z) x y p q m n e =
    let inner : (u ++ 58 ∷ v) ++ x ≡ (w ++ 58 ∷ z) ++ y = cc in
    let r = one_split u (58 ∷ (v ++ x)) w (58 ∷ (z ++ y)) p.0.1 q.0.1 (byte_no_name 58 (v ++ x) colon) (byte_no_name 58 (z ++ y) colon) (sym (append_assoc u (58 ∷ v) x) ∙ inner ∙ append_assoc w (58 ∷ z) y) in
    let s : v ++ x ≡ z ++ y = tail r.1 in
    (one_split v x z y p.1.1 q.1.1 m n s).1
  where
    colon : ¬ IsNameByte 58
    colon (inl h) = absurd (omega arith)
    colon (inr h) = absurd (omega arith)

    tail : {xs ys : List ℕ} → 58 ∷ xs ≡ 58 ∷ ys → xs ≡ ys
    tail e = cc
item_once (Left v) (Right w) x y p q m n e = absurd (heads 108 114 (58 ∷ (v ++ x)) (58 ∷ (w ++ y)) refl e)
item_once (Left v) (Both w z) x y p q m n e = absurd (heads 108 98 (58 ∷ (v ++ x)) (58 ∷ ((w ++ 58 ∷ z) ++ y)) refl e)
item_once (Right v) (Left w) x y p q m n e = absurd (heads 114 108 (58 ∷ (v ++ x)) (58 ∷ (w ++ y)) refl e)
item_once (Right v) (Both w z) x y p q m n e = absurd (heads 114 98 (58 ∷ (v ++ x)) (58 ∷ ((w ++ 58 ∷ z) ++ y)) refl e)
item_once (Both u v) (Left w) x y p q m n e = absurd (heads 98 108 (58 ∷ ((u ++ 58 ∷ v) ++ x)) (58 ∷ (w ++ y)) refl e)
item_once (Both u v) (Right w) x y p q m n e = absurd (heads 98 114 (58 ∷ ((u ++ 58 ∷ v) ++ x)) (58 ∷ (w ++ y)) refl e)

pub says_more : (all : List (List ℕ)) (done : List Named) (i : Named) (others more : List (List ℕ)) → SaysFirst all done others → others ≡ item_text i ∷ more → HasNames i → SaysFirst all (done ++ i ∷ []) more
says_more all done i others more s e h = record {
  words =
      s.words ∙ ap (λ l. map item_text done ++ l) e
      ∙ sym (append_assoc (map item_text done) (item_text i ∷ []) more)
      ∙ ap (λ l. l ++ more) (sym (map-append item_text done (i ∷ [])));
  names = All-push HasNames done i s.names h;
}

pub says_all : (bytes : List ℕ) (items : List Named) (others : List (List ℕ)) → SaysFirst (words bytes) items others → others ≡ [] → SaysItems bytes items
says_all bytes items others s e = record { words = s.words ∙ ap (λ l. map item_text items ++ l) e ∙ append-nil (map item_text items); names = s.names }

-- what is left of a list of items after the first of them
left_behind : (done items : List Named) (others : List (List ℕ)) → map item_text items ≡ map item_text done ++ others → All HasNames items
    → (more : List Named) × (others ≡ map item_text more) × All HasNames more
left_behind [] items others e h = (items, sym e, h)
left_behind (d ∷ done) [] others e h = absurd (cc)
left_behind (d ∷ done) (i ∷ items) others e h = left_behind done items others (cc) (All-tail HasNames i items h)

pub says_none : (bytes : List ℕ) (done : List Named) (rest : List ℕ) → SaysFirst (words bytes) done (words rest) → NoItemAhead rest → (words rest ≡ [] → ⊥) → SaysNoItems bytes
says_none bytes done rest s n f items t = by (left_behind done items (words rest) (sym t.words ∙ s.words) t.names)
  where
    by : ((more : List Named) × (words rest ≡ map item_text more) × All HasNames more) → ⊥
    by m = cases m.0 m.1 m.2
      where
        cases : (more : List Named) → words rest ≡ map item_text more → All HasNames more → ⊥
        cases [] e h = f e
        cases (i ∷ more) e h = n i (map item_text more) (All-head HasNames i more h) e
