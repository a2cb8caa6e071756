-- A line says at most one command.
use Rattle.std.proofs.Common.{ℕ, ◌≡◌, List, [], ◌∷◌, ◌++◌, inl, inr, map, refl, sym, ap, ap₂, ◌∙◌, append-nil, subst, arith}
use Rattle.std.specs.Prelude.{All, Bool, true, false, codes}
use Rattle.std.proofs.lemmas.List.Elements.{All-head, All-tail}
use Rattle.eob_both.specs.declared.either_or_both.EitherOrBoth.TheVariants.{Left, Both, Right}
use Rattle.line_words.specs.Names.{IsNameByte}
use Rattle.line_words.proofs.NameLemmas.{byte_no_name, one_split}
use Rattle.walk_lines.specs.Commands.{Named, Command, Collect, Walk, Normal, Ends, Join, command_words, end_letter, entry_text, HasNames, IsBad, IsWellFormed, item_text, Says}
use Rattle.walk_lines.specs.Answers.{end_of, name_of, name_text, words_behind}
use Rattle.walk_lines.specs.Texts.{bad_text, IsAnswer, LineAnswer}
use Rattle.walk_lines.proofs.CommandLemmas.{name_once, words_of}
use Rattle.walk_lines.proofs.DrivenLemmas.{letters_back}
use Rattle.walk_lines.proofs.ItemLemmas.{heads}
use Rattle.walk_lines.proofs.TableLemmas.{nothing_ahead, slash_ahead, table_once}

tail : {X : Type 0} {x y : X} {xs ys : List X} → x ∷ xs ≡ y ∷ ys → xs ≡ ys
tail e = cc

-- items that are written alike are the same
item_same : (i j : Named) → HasNames i → HasNames j → item_text i ≡ item_text j → i ≡ j
item_same (Left v) (Left w) p q e = let same : v ≡ w = cc in ap Left same
item_same (Right v) (Right w) p q e = let same : v ≡ w = cc in ap Right same
item_same (Both u v) (Both w z) p q e =
    let inner : u ++ 58 ∷ v ≡ w ++ 58 ∷ z = cc in
    let r = one_split u (58 ∷ v) w (58 ∷ z) p.0.1 q.0.1 (byte_no_name 58 v colon) (byte_no_name 58 z colon) inner in
    ap₂ Both r.0 (tail r.1)
  where
    colon : ¬ IsNameByte 58
    colon (inl h) = absurd (omega arith)
    colon (inr h) = absurd (omega arith)
item_same (Left v) (Right w) p q e = absurd (heads 108 114 (58 ∷ v) (58 ∷ w) refl e)
item_same (Left v) (Both w z) p q e = absurd (heads 108 98 (58 ∷ v) (58 ∷ (w ++ 58 ∷ z)) refl e)
item_same (Right v) (Left w) p q e = absurd (heads 114 108 (58 ∷ v) (58 ∷ w) refl e)
item_same (Right v) (Both w z) p q e = absurd (heads 114 98 (58 ∷ v) (58 ∷ (w ++ 58 ∷ z)) refl e)
item_same (Both u v) (Left w) p q e = absurd (heads 98 108 (58 ∷ (u ++ 58 ∷ v)) (58 ∷ w) refl e)
item_same (Both u v) (Right w) p q e = absurd (heads 98 114 (58 ∷ (u ++ 58 ∷ v)) (58 ∷ w) refl e)

items_same : (xs ys : List Named) → All HasNames xs → All HasNames ys → map item_text xs ≡ map item_text ys → xs ≡ ys
items_same [] [] f g e = refl
items_same [] (y ∷ ys) f g e = absurd (cc)
items_same (x ∷ xs) [] f g e = absurd (cc)
items_same (x ∷ xs) (y ∷ ys) f g e =
    let first : item_text x ≡ item_text y = cc in
    ap₂ (λ z zs. z ∷ zs) (item_same x y (All-head HasNames x xs f) (All-head HasNames y ys g) first) (items_same xs ys (All-tail HasNames x xs f) (All-tail HasNames y ys g) (tail e))

same_name : (c d : Command) → command_words c ≡ command_words d → name_of c ≡ name_of d
same_name c d e =
    let same : name_text (name_of c) ∷ words_behind c ≡ name_text (name_of d) ∷ words_behind d = sym (words_of c) ∙ e ∙ words_of d in
    let first : name_text (name_of c) ≡ name_text (name_of d) = cc in
    name_once (name_of c) (name_of d) first

-- commands with the same words are the same
same_command : (c d : Command) → IsWellFormed c → IsWellFormed d → command_words c ≡ command_words d → c ≡ d
same_command (Collect xs) (Collect ys) f g e = ap Collect (items_same xs ys f g (tail e))
same_command (Collect xs) (Walk ys) f g e = absurd (cc (same_name (Collect xs) (Walk ys) e))
same_command (Collect xs) (Normal ys) f g e = absurd (cc (same_name (Collect xs) (Normal ys) e))
same_command (Collect xs) (Ends fs ys) f g e = absurd (cc (same_name (Collect xs) (Ends fs ys) e))
same_command (Collect xs) (Join r t) f g e = absurd (cc (same_name (Collect xs) (Join r t) e))
same_command (Walk xs) (Collect ys) f g e = absurd (cc (same_name (Walk xs) (Collect ys) e))
same_command (Walk xs) (Walk ys) f g e = ap Walk (items_same xs ys f g (tail e))
same_command (Walk xs) (Normal ys) f g e = absurd (cc (same_name (Walk xs) (Normal ys) e))
same_command (Walk xs) (Ends fs ys) f g e = absurd (cc (same_name (Walk xs) (Ends fs ys) e))
same_command (Walk xs) (Join r t) f g e = absurd (cc (same_name (Walk xs) (Join r t) e))
same_command (Normal xs) (Collect ys) f g e = absurd (cc (same_name (Normal xs) (Collect ys) e))
same_command (Normal xs) (Walk ys) f g e = absurd (cc (same_name (Normal xs) (Walk ys) e))
same_command (Normal xs) (Normal ys) f g e = ap Normal (items_same xs ys f g (tail e))
same_command (Normal xs) (Ends fs ys) f g e = absurd (cc (same_name (Normal xs) (Ends fs ys) e))
same_command (Normal xs) (Join r t) f g e = absurd (cc (same_name (Normal xs) (Join r t) e))
same_command (Ends es xs) (Collect ys) f g e = absurd (cc (same_name (Ends es xs) (Collect ys) e))
same_command (Ends es xs) (Walk ys) f g e = absurd (cc (same_name (Ends es xs) (Walk ys) e))
same_command (Ends es xs) (Normal ys) f g e = absurd (cc (same_name (Ends es xs) (Normal ys) e))
same_command (Ends es xs) (Ends fs ys) f g e = let letters : map end_letter es ≡ map end_letter fs = cc in
    let items : map item_text xs ≡ map item_text ys = cc in
    ap₂ Ends (sym (letters_back es) ∙ ap (map end_of) letters ∙ letters_back fs) (items_same xs ys f.1 g.1 items)
same_command (Ends es xs) (Join r t) f g e = absurd (cc (same_name (Ends es xs) (Join r t) e))
same_command (Join p q) (Collect ys) f g e = absurd (cc (same_name (Join p q) (Collect ys) e))
same_command (Join p q) (Walk ys) f g e = absurd (cc (same_name (Join p q) (Walk ys) e))
same_command (Join p q) (Normal ys) f g e = absurd (cc (same_name (Join p q) (Normal ys) e))
same_command (Join p q) (Ends fs ys) f g e = absurd (cc (same_name (Join p q) (Ends fs ys) e))
same_command (Join p q) (Join r t) f g e = let left = table_once p r (codes "/" ∷ map entry_text q) (codes "/" ∷ map entry_text t) f.0 g.0 (tail e) (slash_ahead (map entry_text q)) (slash_ahead (map entry_text t)) in
    let behind : map entry_text q ++ [] ≡ map entry_text t ++ [] = append-nil (map entry_text q) ∙ tail left.1 ∙ sym (append-nil (map entry_text t)) in
    ap₂ Join left.0 (table_once q t [] [] f.1 g.1 behind nothing_ahead nothing_ahead).0

pub one_command : (line : List ℕ) (first second : Command) → Says line first → Says line second → first ≡ second
one_command line first second s t = same_command first second s.formed t.formed (sym s.words ∙ t.words)

-- the answer to a line that says a command
pub said_answer : (number : ℕ) (line text : List ℕ) (bad : Bool) (command : Command) → Says line command → LineAnswer number line text bad → (bad ≡ false) × IsAnswer command text
unfolding LineAnswer
said_answer number line text true command s a = absurd (a.0 command s)
said_answer number line text false command s a = (refl, subst (λ c. IsAnswer c text) (one_command line a.0 command a.1 s) a.2)

-- and to one that says none
pub bad_answer : (number : ℕ) (line text : List ℕ) (bad : Bool) → IsBad line → LineAnswer number line text bad → (bad ≡ true) × (text ≡ bad_text number)
unfolding LineAnswer
bad_answer number line text true b a = (refl, a.1)
bad_answer number line text false b a = absurd (b a.0 a.1)
