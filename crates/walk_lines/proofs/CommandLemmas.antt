-- From what the words after a name say to what the line says.
use Rattle.std.proofs.Common.{ℕ, ◌==◌, ◌≡◌, ◌≢◌, List, [], ◌∷◌, get_or, map, Option, Some, None, refl, sym, ap, ◌∙◌, subst}
use Rattle.std.specs.Bool.{if◌then◌else◌}
use Rattle.std.specs.Prelude.{Result, Ok, Err, IfOk, MatchOption, Vec}
use Rattle.line_words.specs.Words.{words}
use Rattle.walk_lines.specs.declared.line.Name.{Name}
use Rattle.walk_lines.specs.declared.line.Name.TheVariants as name
use Rattle.walk_lines.specs.declared.line.Answer.{Answer}
use Rattle.walk_lines.specs.Commands.{Command, Collect, Walk, Normal, Ends, Join, command_words, IsBad, Says}
use Rattle.walk_lines.specs.Answers.{AnswersBehind, AnswersLine, RefItem, shown, name_of, name_text, SaysBehind, SaysItems, SaysNoItems, words_behind}

-- the words of a command: its name, and what stands after it
pub words_of : (c : Command) → command_words c ≡ name_text (name_of c) ∷ words_behind c
words_of (Collect items) = refl
words_of (Walk items) = refl
words_of (Normal items) = refl
words_of (Ends ends items) = refl
words_of (Join p q) = refl

-- the command that a word names, by its first letter
named : List ℕ → Name
named w =
    let b = get_or w 0 0 in
    if b == 99 then name.Collect else (if b == 119 then name.Walk else (if b == 110 then name.Normal else (if b == 101 then name.Ends else name.Join)))

named-name_text : (n : Name) → named (name_text n) ≡ n
unfolding named
named-name_text name.Collect = refl
named-name_text name.Walk = refl
named-name_text name.Normal = refl
named-name_text name.Ends = refl
named-name_text name.Join = refl

pub name_once : (n m : Name) → name_text n ≡ name_text m → n ≡ m
name_once n m e = sym (named-name_text n) ∙ ap named e ∙ named-name_text m

says_line : (line bytes : List ℕ) (n : Name) (c : Command) → words line ≡ name_text n ∷ words bytes → SaysBehind n bytes c → Says line c
says_line line bytes n c e s = record {
  words = e ∙ ap (λ m. name_text m ∷ words bytes) (sym s.name) ∙ ap (λ ws. name_text (name_of c) ∷ ws) s.words ∙ sym (words_of c);
  formed = s.formed;
}

says_behind : (line bytes : List ℕ) (n : Name) (c : Command) → words line ≡ name_text n ∷ words bytes → Says line c → SaysBehind n bytes c
says_behind line bytes n c e s =
    let same : name_text n ∷ words bytes ≡ name_text (name_of c) ∷ words_behind c = sym e ∙ s.words ∙ words_of c in
    let first : name_text (name_of c) ≡ name_text n = cc in
    record { name = name_once (name_of c) n first; words = cc; formed = s.formed }

-- an answer after a name is the answer to the line
pub answers_line : {M : Type 0} (line bytes : List ℕ) (n : Name) (given : Option (Answer M)) → words line ≡ name_text n ∷ words bytes → AnswersBehind n bytes given
    → MatchOption given (IsBad line) (λ a. AnswersLine line a)
answers_line line bytes n None e h = λ c s. h c (says_behind line bytes n c e s)
answers_line line bytes n (Some a) e h = (h.0, says_line line bytes n h.0 e h.1, h.2)

-- a line that has no word, or whose first word names no command, is bad
pub bad_name : (line word : List ℕ) (others : List (List ℕ)) → words line ≡ word ∷ others → ((n : Name) → word ≡ name_text n → ⊥) → IsBad line
bad_name line word others e h c s =
    let same : word ∷ others ≡ name_text (name_of c) ∷ words_behind c = sym e ∙ s.words ∙ words_of c in
    h (name_of c) (cc)

pub bad_empty : (line : List ℕ) → words line ≡ [] → IsBad line
bad_empty line e c s =
    let same : [] ≡ name_text (name_of c) ∷ words_behind c = sym e ∙ s.words ∙ words_of c in
    absurd (cc)

pub name_filled : (n : Name) → name_text n ≡ [] → ⊥
name_filled name.Collect e = absurd (cc)
name_filled name.Walk e = absurd (cc)
name_filled name.Normal e = absurd (cc)
name_filled name.Ends e = absurd (cc)
name_filled name.Join e = absurd (cc)

-- bytes that say no items say no command that is called with items
pub no_collect : (bytes : List ℕ) → SaysNoItems bytes → (c : Command) → SaysBehind name.Collect bytes c → ⊥
no_collect bytes h (Collect items) s = h items (record { words = s.words; names = s.formed })
no_collect bytes h (Walk items) s = absurd (cc (s.name))
no_collect bytes h (Normal items) s = absurd (cc (s.name))
no_collect bytes h (Ends ends items) s = absurd (cc (s.name))
no_collect bytes h (Join p q) s = absurd (cc (s.name))

pub no_walk : (bytes : List ℕ) → SaysNoItems bytes → (c : Command) → SaysBehind name.Walk bytes c → ⊥
no_walk bytes h (Walk items) s = h items (record { words = s.words; names = s.formed })
no_walk bytes h (Collect items) s = absurd (cc (s.name))
no_walk bytes h (Normal items) s = absurd (cc (s.name))
no_walk bytes h (Ends ends items) s = absurd (cc (s.name))
no_walk bytes h (Join p q) s = absurd (cc (s.name))

pub no_normal : (bytes : List ℕ) → SaysNoItems bytes → (c : Command) → SaysBehind name.Normal bytes c → ⊥
no_normal bytes h (Normal items) s = h items (record { words = s.words; names = s.formed })
no_normal bytes h (Collect items) s = absurd (cc (s.name))
no_normal bytes h (Walk items) s = absurd (cc (s.name))
no_normal bytes h (Ends ends items) s = absurd (cc (s.name))
no_normal bytes h (Join p q) s = absurd (cc (s.name))

-- what was found in bytes, from what was made of them
pub items_said : {M : Type 0} (bytes : List ℕ) (o : Option (Vec RefItem M)) (v : Vec RefItem M) → o ≡ Some v → MatchOption o (SaysNoItems bytes) (λ u. SaysItems bytes (map shown u.items))
    → SaysItems bytes (map shown v.items)
items_said bytes o v e h = subst (λ p. MatchOption p (SaysNoItems bytes) (λ u. SaysItems bytes (map shown u.items))) e h

pub answer_said : {M : Type 0} (line : List ℕ) (o : Option (Answer M)) (a : Answer M) → o ≡ Some a → MatchOption o (IsBad line) (λ b. AnswersLine line b) → AnswersLine line a
answer_said line o a e h = subst (λ p. MatchOption p (IsBad line) (λ b. AnswersLine line b)) e h

pub bad_said : {M : Type 0} (line : List ℕ) (o : Option (Answer M)) → o ≡ None → MatchOption o (IsBad line) (λ b. AnswersLine line b) → IsBad line
bad_said line o e h = subst (λ p. MatchOption p (IsBad line) (λ b. AnswersLine line b)) e h

-- the words of a line whose first word names a command
pub named_words : (line word rest : List ℕ) (n : Name) → (word ≢ [] → words line ≡ word ∷ words rest) → word ≡ name_text n → words line ≡ name_text n ∷ words rest
named_words line word rest n some e = some (λ q. name_filled n (sym e ∙ q)) ∙ ap (λ w. w ∷ words rest) e

pub bad_first : (line word rest : List ℕ) → (word ≡ [] → words line ≡ []) → (word ≢ [] → words line ≡ word ∷ words rest) → ((n : Name) → word ≢ name_text n) → IsBad line
bad_first line [] rest none some h = bad_empty line (none refl)
bad_first line (b ∷ w) rest none some h = bad_name line (b ∷ w) (words rest) (some (λ q. absurd (cc))) h

-- the same, where memory may have been refused
pub line_answered : {M E : Type 0} (line bytes : List ℕ) (n : Name) (r : Result (Option (Answer M)) E) → words line ≡ name_text n ∷ words bytes → IfOk r (λ given. AnswersBehind n bytes given)
    → IfOk r (λ given. MatchOption given (IsBad line) (λ a. AnswersLine line a))
line_answered line bytes n (Ok given) e h = answers_line line bytes n given e h
line_answered line bytes n (Err f) e h = tt
