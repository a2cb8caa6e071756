-- The tables that the words of a `join` line say.
use Rattle.std.proofs.Common.{ℕ, ◌≡◌, ◌≢◌, List, [], ◌∷◌, ◌++◌, map, refl, sym, ap, ap₂, ◌∙◌, subst, append-nil, append_assoc, inl, inr, arith}
use Rattle.std.specs.Prelude.{All, codes, ⊤, Option, Some, None, MatchOption}
use Rattle.std.specs.Borrow.{Bor}
use Rattle.std.specs.declared.cmp.Ordering.TheVariants.{Less}
use Rattle.std.proofs.lemmas.List.{map-append}
use Rattle.std.proofs.lemmas.List.Elements.{All-nil, All-cons, All-head, All-tail, All-push}
use Rattle.eob_lists.specs.Join.{Rising}
use Rattle.eob_lists.proofs.MergeLemmas.{Up, up, rising}
use Rattle.eob_lists.proofs.RisingLemmas.{shown_rises}
use Rattle.line_words.specs.Names.{IsName, IsNameByte, NoNameAhead}
use Rattle.line_words.specs.Words.{words, IsWord}
use Rattle.line_words.proofs.NameLemmas.{byte_no_name, one_split}
use Rattle.walk_lines.specs.declared.line.Name.TheVariants as name
use Rattle.walk_lines.specs.Commands.{Entry, Command, Collect, Walk, Normal, Ends, Join, bytes_cmp, entry_text, HasEntryNames}
use Rattle.walk_lines.specs.Answers.{NoEntryAhead, SaysBehind, SaysTable, shown_table}

equals_no_name : ¬ IsNameByte 61
equals_no_name (inl h) = absurd (omega arith)
equals_no_name (inr h) = absurd (omega arith)

slash_no_name : ¬ IsNameByte 47
slash_no_name (inl h) = absurd (omega arith)
slash_no_name (inr h) = absurd (omega arith)

no_name_nil : NoNameAhead []
no_name_nil b rest e p = absurd (cc)

-- two ways to take an entry off the front are one
pub entry_once : (i j : Entry) (x y : List ℕ) → HasEntryNames i → HasEntryNames j → NoNameAhead x → NoNameAhead y → entry_text i ++ x ≡ entry_text j ++ y → (i ≡ j) × (x ≡ y)
entry_once i j x y p q m n e =
    let r = one_split i.0 (61 ∷ (i.1 ++ x)) j.0 (61 ∷ (j.1 ++ y)) p.0.1 q.0.1 (byte_no_name 61 (i.1 ++ x) equals_no_name) (byte_no_name 61 (j.1 ++ y) equals_no_name)
    (sym (append_assoc i.0 (61 ∷ i.1) x) ∙ e ∙ append_assoc j.0 (61 ∷ j.1) y) in
    let s : i.1 ++ x ≡ j.1 ++ y = tail r.1 in
    let t = one_split i.1 x j.1 y p.1.1 q.1.1 m n s in
    (ap₂ (λ a b. (a, b)) r.0 t.0, t.1)
  where
    tail : {xs ys : List ℕ} → 61 ∷ xs ≡ 61 ∷ ys → xs ≡ ys
    tail e = cc

entry_same : (i j : Entry) → HasEntryNames i → HasEntryNames j → entry_text i ≡ entry_text j → i ≡ j
entry_same i j p q e = (entry_once i j [] [] p q no_name_nil no_name_nil (append-nil (entry_text i) ∙ e ∙ sym (append-nil (entry_text j)))).0

-- `/` is no entry
slash_no_entry : (i : Entry) → HasEntryNames i → entry_text i ≡ codes "/" → ⊥
slash_no_entry i p e = front i.0 (61 ∷ i.1) p.0 e
  where
    front : (w more : List ℕ) → IsName w → w ++ more ≡ 47 ∷ [] → ⊥
    front [] more n e = n.0 refl
    front (b ∷ w) more n e = let s : b ≡ 47 = cc in slash_no_name (subst IsNameByte s (All-head IsNameByte b w n.1))

pub table_more : (all : List (List ℕ)) (done : List Entry) (i : Entry) (others more : List (List ℕ)) → SaysTable all done others → others ≡ entry_text i ∷ more → HasEntryNames i
    → SaysTable all (done ++ i ∷ []) more
table_more all done i others more s e h = record {
  words =
      s.words ∙ ap (λ l. map entry_text done ++ l) e
      ∙ sym (append_assoc (map entry_text done) (entry_text i ∷ []) more)
      ∙ ap (λ l. l ++ more) (sym (map-append entry_text done (i ∷ [])));
  names = All-push HasEntryNames done i s.names h;
}

-- words that begin with two tables, each as far as there are entries, begin with one
pub table_once : (p q : List Entry) (x y : List (List ℕ)) → All HasEntryNames p → All HasEntryNames q → map entry_text p ++ x ≡ map entry_text q ++ y
    → ((i : Entry) (ws : List (List ℕ)) → HasEntryNames i → x ≡ entry_text i ∷ ws → ⊥) → ((i : Entry) (ws : List (List ℕ)) → HasEntryNames i → y ≡ entry_text i ∷ ws → ⊥)
    → (p ≡ q) × (x ≡ y)
table_once [] [] x y a b e m n = (refl, e)
table_once [] (j ∷ q) x y a b e m n = absurd (m j (map entry_text q ++ y) (All-head HasEntryNames j q b) e)
table_once (i ∷ p) [] x y a b e m n = absurd (n i (map entry_text p ++ x) (All-head HasEntryNames i p a) (sym e))
table_once (i ∷ p) (j ∷ q) x y a b e m n =
    let texts : entry_text i ≡ entry_text j = cc in
    let r = table_once p q x y (All-tail HasEntryNames i p a) (All-tail HasEntryNames j q b) (cc) m n in
    (ap₂ (λ z zs. z ∷ zs) (entry_same i j (All-head HasEntryNames i p a) (All-head HasEntryNames j q b) texts) r.0, r.1)

pub slash_ahead : (ws : List (List ℕ)) (i : Entry) (others : List (List ℕ)) → HasEntryNames i → codes "/" ∷ ws ≡ entry_text i ∷ others → ⊥
slash_ahead ws i others h e = let s : entry_text i ≡ codes "/" = cc in slash_no_entry i h s

pub nothing_ahead : (i : Entry) (others : List (List ℕ)) → HasEntryNames i → [] ≡ entry_text i ∷ others → ⊥
nothing_ahead i others h e = absurd (cc)

-- the first table of a command is the one that was read
first_table : (bytes rest : List ℕ) (left p q : List Entry) → SaysTable (words bytes) left (words rest) → NoEntryAhead rest
    → words bytes ≡ map entry_text p ++ codes "/" ∷ map entry_text q → All HasEntryNames p → (left ≡ p) × (words rest ≡ codes "/" ∷ map entry_text q)
first_table bytes rest left p q s n e h = table_once left p (words rest) (codes "/" ∷ map entry_text q) s.names h (sym s.words ∙ e) (λ i ws k f. n i ws k f) (slash_ahead (map entry_text q))

-- and so is the second
second_table : (bytes rest : List ℕ) (right q : List Entry) → SaysTable (words bytes) right (words rest) → NoEntryAhead rest → words bytes ≡ map entry_text q → All HasEntryNames q
    → (right ≡ q) × (words rest ≡ [])
second_table bytes rest right q s n e h = table_once right q (words rest) [] s.names h (sym s.words ∙ e ∙ sym (append-nil (map entry_text q))) (λ i ws k f. n i ws k f) nothing_ahead

-- what a read of the words after `join` found
pub record Tables (bytes first behind last : List ℕ) (left right : List Entry) : Type 0 where
  pub left_said : SaysTable (words bytes) left (words first)
  pub left_whole : NoEntryAhead first
  pub slash : words first ≡ codes "/" ∷ words behind
  pub right_said : SaysTable (words behind) right (words last)
  pub right_whole : NoEntryAhead last

pub no_slash : (bytes first : List ℕ) (left : List Entry) → SaysTable (words bytes) left (words first) → NoEntryAhead first
    → ((others : List (List ℕ)) → words first ≢ codes "/" ∷ others) → (c : Command) → SaysBehind name.Join bytes c → ⊥
no_slash bytes first left s n h (Join p q) c = h (map entry_text q) (first_table bytes first left p q s n c.words c.formed.0).1
no_slash bytes first left s n h (Collect items) c = absurd (cc (c.name))
no_slash bytes first left s n h (Walk items) c = absurd (cc (c.name))
no_slash bytes first left s n h (Normal items) c = absurd (cc (c.name))
no_slash bytes first left s n h (Ends ends items) c = absurd (cc (c.name))

-- a command says the tables that were read
pub tables_said : (bytes first behind last : List ℕ) (left right p q : List Entry) → Tables bytes first behind last left right → SaysBehind name.Join bytes (Join p q)
    → (left ≡ p) × (right ≡ q) × (words last ≡ [])
tables_said bytes first behind last left right p q t c =
    let a = first_table bytes first left p q t.left_said t.left_whole c.words c.formed.0 in
    let same : codes "/" ∷ words behind ≡ codes "/" ∷ map entry_text q = sym t.slash ∙ a.1 in
    let b = second_table behind last right q t.right_said t.right_whole (tail same) c.formed.1 in
    (a.0, b.0, b.1)
  where
    tail : {w : List ℕ} {xs ys : List (List ℕ)} → w ∷ xs ≡ w ∷ ys → xs ≡ ys
    tail e = cc

pub says_tables : (bytes first behind last : List ℕ) (left right : List Entry) → Tables bytes first behind last left right → words last ≡ [] → Rising bytes_cmp left → Rising bytes_cmp right
    → SaysBehind name.Join bytes (Join left right)
says_tables bytes first behind last left right t e x y = record {
  name = refl;
  words =
      t.left_said.words ∙ ap (λ l. map entry_text left ++ l) (t.slash ∙ ap (λ l. codes "/" ∷ l)
      (t.right_said.words ∙ ap (λ l. map entry_text right ++ l) e ∙ append-nil (map entry_text right)));
  formed = (t.left_said.names, t.right_said.names, x, y);
}

-- keys of references strictly increase as the keys that they show
abbrev Pairs : Type 0
Pairs = List (Bor (List ℕ) × Bor (List ℕ))

read_after : (j : List ℕ) (xs : Pairs) → Up (λ x y. bytes_cmp x.now y.now) (λ k. bytes_cmp j k.now ≡ Less) xs → Up bytes_cmp (λ k. bytes_cmp j k ≡ Less) (shown_table xs)
read_after j [] h = tt
read_after j (x ∷ xs) h = (h.0, read_after x.0.now xs h.1)

read_up : (xs : Pairs) → Up (λ x y. bytes_cmp x.now y.now) (λ k. ⊤) xs → Up bytes_cmp (λ k. ⊤) (shown_table xs)
read_up [] h = tt
read_up (x ∷ xs) h = (tt, read_after x.0.now xs h.1)

pub rising_shown : (xs : Pairs) → Rising (λ x y. bytes_cmp x.now y.now) xs → Rising bytes_cmp (shown_table xs)
rising_shown xs h = rising bytes_cmp (λ k. ⊤) (shown_table xs) (read_up xs (up (λ x y. bytes_cmp x.now y.now) xs h))

pub rising_refs : (xs : Pairs) → Rising bytes_cmp (shown_table xs) → Rising (λ x y. bytes_cmp x.now y.now) xs
rising_refs xs h = shown_rises bytes_cmp (List ℕ) xs h

pub slash_word : IsWord (codes "/")
slash_word = ((λ e. absurd (cc)), All-cons (λ b. b ≢ 32) 47 [] (λ q. absurd (omega arith)) (All-nil (λ b. b ≢ 32)))

-- where no entry is taken off the front, none stands there
pub no_entry : {B : Type 0} (bytes : List ℕ) (Q : B → Type 0) (r : Option B) → MatchOption r (NoEntryAhead bytes) Q → ((x : B) → r ≡ Some x → ⊥) → NoEntryAhead bytes
no_entry bytes Q None h n = h
no_entry bytes Q (Some x) h n = absurd (n x refl)

module _ (bytes first behind last : List ℕ) (left right : List Entry) (t : Tables bytes first behind last left right) where
  -- words after the second table
  pub words_left : (words last ≡ [] → ⊥) → (c : Command) → SaysBehind name.Join bytes c → ⊥
  words_left h (Join p q) s = h (tables_said bytes first behind last left right p q t s).2
  words_left h (Collect items) s = absurd (cc (s.name))
  words_left h (Walk items) s = absurd (cc (s.name))
  words_left h (Normal items) s = absurd (cc (s.name))
  words_left h (Ends ends items) s = absurd (cc (s.name))

  -- keys that do not strictly increase
  pub not_rising : (Rising bytes_cmp left × Rising bytes_cmp right → ⊥) → (c : Command) → SaysBehind name.Join bytes c → ⊥
  not_rising h (Join p q) s =
      let a = tables_said bytes first behind last left right p q t s in
      h (subst (λ l. Rising bytes_cmp l) (sym a.0) s.formed.2, subst (λ l. Rising bytes_cmp l) (sym a.1) s.formed.3)
  not_rising h (Collect items) s = absurd (cc (s.name))
  not_rising h (Walk items) s = absurd (cc (s.name))
  not_rising h (Normal items) s = absurd (cc (s.name))
  not_rising h (Ends ends items) s = absurd (cc (s.name))
