-- What has been taken of a text, line by line.
use Rattle.std.proofs.Common.{ℕ, ◌≡◌, ◌≢◌, ◌≤◌, ◌+◌, ◌-◌, ◌^◌, ◌==◌, min, List, [], ◌∷◌, ◌++◌, Bool, true, false, length, refl, sym, ap, ◌∙◌, subst, append-nil, append_assoc, arith, length-append}
use Rattle.std.specs.Prelude.{All, ◌||◌, Option, Some, None, IfSome, MatchOption, Result, Ok, Err, IfErr}
use Rattle.std.specs.List.{slice_split}
use Rattle.std.proofs.lemmas.List.Concat.{flat_map-append}
use Rattle.std.specs.Io.KnownBytes.{Appends, Consumes}
use Rattle.std.proofs.lemmas.List.Splits.{length-slice_split, slice_split_none, slice_split_at}
use Rattle.std.proofs.lemmas.List.Elements.{All-nil, All-weaker, All-head, All-tail, All-append, All-push}
use Rattle.line_runs.specs.Lines.{lines, last_line, without_empty_last}
use Rattle.line_runs.specs.Texts.{Answering, AnswersLines, number_after}
use Rattle.std.proofs.KnownBytes.{Appends-trans}
use Rattle.line_runs.specs.declared.session.Stop.{Stop}
use Rattle.line_runs.specs.declared.session.Stop.TheVariants.{NoMemory}
use Rattle.line_runs.specs.Session.{AnswersAhead, AnswersBeginning, AnswersFirst, AnswersFirstLines, ended, HasNoEnd, HasTaken, Stopped}

abbrev is_end : ℕ → Bool
is_end b = b == 10

no_end : (b : ℕ) → b ≢ 10 → is_end b ≡ false
no_end b h = by (is_end b) refl
  where
    by : (t : Bool) → is_end b ≡ t → is_end b ≡ false
    by true e = absurd (h (grind (arith, e)))
    by false e = e

endless : (bs : List ℕ) → HasNoEnd bs → All (λ b. is_end b ≡ false) bs
endless bs h = All-weaker (λ b. b ≢ 10) (λ b. is_end b ≡ false) no_end bs h

pieces : (whole : List (List ℕ)) (last : List ℕ) → All HasNoEnd whole → HasNoEnd last → slice_split is_end (ended whole ++ last) ≡ whole ++ last ∷ []
pieces [] last w h = slice_split_none is_end last (endless last h)
pieces (l ∷ whole) last w h =
    ap (slice_split is_end) (append_assoc (l ++ 10 ∷ []) (ended whole) last ∙ append_assoc l (10 ∷ []) (ended whole ++ last))
    ∙ slice_split_at is_end l 10 (ended whole ++ last) (endless l (All-head HasNoEnd l whole w)) refl
    ∙ ap (λ z. l ∷ z) (pieces whole last (All-tail HasNoEnd l whole w) h)

no_empty_last : (whole : List (List ℕ)) (last : List ℕ) → without_empty_last (whole ++ last ∷ []) ≡ whole ++ last_line last
no_empty_last [] last = refl
no_empty_last (l ∷ []) last = refl
no_empty_last (l ∷ m ∷ whole) last = ap (λ z. l ∷ z) (no_empty_last (m ∷ whole) last)

pub lines_of : (whole : List (List ℕ)) (last : List ℕ) → All HasNoEnd whole → HasNoEnd last → lines (ended whole ++ last) ≡ whole ++ last_line last
unfolding lines
lines_of whole last w h = ap without_empty_last (pieces whole last w h) ∙ no_empty_last whole last

pieces_ahead : (whole : List (List ℕ)) (rest : List ℕ) → All HasNoEnd whole → slice_split is_end (ended whole ++ rest) ≡ whole ++ slice_split is_end rest
pieces_ahead [] rest w = refl
pieces_ahead (l ∷ whole) rest w =
    ap (slice_split is_end) (append_assoc (l ++ 10 ∷ []) (ended whole) rest ∙ append_assoc l (10 ∷ []) (ended whole ++ rest))
    ∙ slice_split_at is_end l 10 (ended whole ++ rest) (endless l (All-head HasNoEnd l whole w)) refl
    ∙ ap (λ z. l ∷ z) (pieces_ahead whole rest (All-tail HasNoEnd l whole w))

last_ahead : (whole ls : List (List ℕ)) → 1 ≤ length ls → without_empty_last (whole ++ ls) ≡ whole ++ without_empty_last ls
last_ahead [] ls h = refl
last_ahead (l ∷ whole) [] h = absurd (omega arith)
last_ahead (l ∷ []) (m ∷ ls) h = refl
last_ahead (l ∷ k ∷ whole) (m ∷ ls) h = ap (λ z. l ∷ z) (last_ahead (k ∷ whole) (m ∷ ls) h)

-- whole lines stand before those of the rest
lines_ahead : (whole : List (List ℕ)) (rest : List ℕ) → All HasNoEnd whole → lines (ended whole ++ rest) ≡ whole ++ lines rest
unfolding lines
lines_ahead whole rest w = ap without_empty_last (pieces_ahead whole rest w) ∙ last_ahead whole (slice_split is_end rest) (omega (arith, length-slice_split is_end rest))

or_false : (a : Bool) → (a || false) ≡ a
or_false true = refl
or_false false = refl

or_assoc : (a b c : Bool) → ((a || b) || c) ≡ (a || (b || c))
or_assoc true b c = refl
or_assoc false b c = refl

-- one more line is answered
pub answers_more : (A : Answering) → (k : ℕ) (ls : List (List ℕ)) (text : List ℕ) (bad : Bool) → AnswersLines A k ls text bad → (line here : List ℕ) (b : Bool) → A (number_after (k + length ls)) line here b
    → AnswersLines A k (ls ++ line ∷ []) (text ++ here ++ 10 ∷ []) (bad || b)
unfolding AnswersLines
answers_more A k [] text bad h line here b a = (
  here,
  [],
  b,
  false,
  ap (λ t. (t ++ here) ++ 10 ∷ []) h.0 ∙ sym (append-nil (here ++ 10 ∷ [])),
  ap (λ t. t || b) h.1 ∙ sym (or_false b),
  subst (λ n. A (number_after n) line here b) (omega arith) a,
  (refl, refl),
)
answers_more A k (l ∷ ls) text bad h line here b a =
    let m = h.1 in (
      h.0,
      m ++ here ++ 10 ∷ [],
      h.2,
      h.3 || b,
      ap (λ t. (t ++ here) ++ 10 ∷ []) h.4 ∙ ap (λ t. t ++ 10 ∷ []) (append_assoc (h.0 ++ 10 ∷ []) m here) ∙ append_assoc (h.0 ++ 10 ∷ []) (m ++ here) (10 ∷ []),
      ap (λ t. t || b) h.5 ∙ or_assoc h.2 h.3 b,
      h.6,
      answers_more A (k + 1) ls m h.3 h.7 line here b (subst (λ n. A (number_after n) line here b) (omega arith) a),
    )

-- nothing is taken yet
pub none_taken : (A : Answering) → HasTaken A [] [] [] [] 0 false
unfolding AnswersLines
none_taken A = record { whole = []; split = refl; ends = All-nil HasNoEnd; last = All-nil (λ b. b ≢ 10); answered = (refl, refl); number = refl }

-- more bytes of the unfinished line
pub rest_taken : (A : Answering) → (given written unfinished unwritten : List ℕ) (n : ℕ) (bad : Bool) → HasTaken A given written unfinished unwritten n bad
    → (rest : List ℕ) → HasNoEnd rest → HasTaken A (given ++ rest) written (unfinished ++ rest) unwritten n bad
rest_taken A given written unfinished unwritten n bad t rest h = record {
  whole = t.whole;
  split = ap (λ l. l ++ rest) t.split ∙ append_assoc (ended t.whole) unfinished rest;
  ends = t.ends;
  last = All-append (λ b. b ≢ 10) unfinished rest t.last h;
  answered = t.answered;
  number = t.number;
}

-- the bytes that end the line, which is answered
pub line_taken : (A : Answering) → (given written unfinished unwritten : List ℕ) (n m : ℕ) (bad : Bool) → HasTaken A given written unfinished unwritten n bad
    → (line : List ℕ) → HasNoEnd line → (text : List ℕ) (b : Bool) → A m (unfinished ++ line) text b → m ≡ min (n + 1) (2 ^ 64 - 1)
    → HasTaken A (given ++ line ++ 10 ∷ []) written [] (unwritten ++ text ++ 10 ∷ []) m (bad || b)
line_taken A given written unfinished unwritten n m bad t line h text b a e =
    let full = unfinished ++ line in
    let same : m ≡ number_after (0 + length t.whole) = omega (arith, t.number, e) in
    let more = answers_more A 0 t.whole (written ++ unwritten) bad t.answered full text b (subst (λ k. A k full text b) same a) in
    record {
      whole = t.whole ++ full ∷ [];
      split =
          ap (λ l. (l ++ line) ++ 10 ∷ []) t.split
          ∙ ap (λ l. l ++ 10 ∷ []) (append_assoc (ended t.whole) unfinished line)
          ∙ append_assoc (ended t.whole) full (10 ∷ [])
          ∙ ap (λ l. ended t.whole ++ l) (sym (append-nil (full ++ 10 ∷ [])))
          ∙ sym (flat_map-append (λ l. l ++ 10 ∷ []) t.whole (full ∷ []))
          ∙ sym (append-nil (ended (t.whole ++ full ∷ [])));
      ends = All-push HasNoEnd t.whole full t.ends (All-append (λ b. b ≢ 10) unfinished line t.last h);
      last = All-nil (λ b. b ≢ 10);
      answered = subst (λ l. AnswersLines A 0 (t.whole ++ full ∷ []) l (bad || b)) (ap (λ l. l ++ 10 ∷ []) (append_assoc written unwritten text) ∙ append_assoc written (unwritten ++ text) (10 ∷ [])) more;
      number = omega (arith, t.number, e, length-append t.whole (full ∷ []));
    }

-- what was not written yet is written
pub written_taken : (A : Answering) → (given written unfinished unwritten : List ℕ) (n : ℕ) (bad : Bool) → HasTaken A given written unfinished unwritten n bad
    → HasTaken A given (written ++ unwritten) unfinished [] n bad
written_taken A given written unfinished unwritten n bad t = record {
  whole = t.whole;
  split = t.split;
  ends = t.ends;
  last = t.last;
  answered = subst (λ l. AnswersLines A 0 t.whole l bad) (sym (append-nil (written ++ unwritten))) t.answered;
  number = t.number;
}

-- at the end of the text, with no unfinished line, and with one
pub ended_with_none : (A : Answering) → (given written unwritten : List ℕ) (n : ℕ) (bad : Bool) → HasTaken A given written [] unwritten n bad → AnswersLines A 0 (lines given) (written ++ unwritten) bad
ended_with_none A given written unwritten n bad t =
    subst (λ ls. AnswersLines A 0 ls (written ++ unwritten) bad) (sym (ap lines t.split ∙ lines_of t.whole [] t.ends t.last ∙ append-nil t.whole)) t.answered

pub ended_with_some : (A : Answering) → (given written unfinished unwritten : List ℕ) (n m : ℕ) (bad : Bool) → HasTaken A given written unfinished unwritten n bad → unfinished ≢ []
    → (text : List ℕ) (b : Bool) → A m unfinished text b → m ≡ min (n + 1) (2 ^ 64 - 1)
    → AnswersLines A 0 (lines given) (written ++ (unwritten ++ text ++ 10 ∷ [])) (bad || b)
ended_with_some A given written unfinished unwritten n m bad t f text b a e =
    let same : m ≡ number_after (0 + length t.whole) = omega (arith, t.number, e) in
    let more = answers_more A 0 t.whole (written ++ unwritten) bad t.answered unfinished text b (subst (λ k. A k unfinished text b) same a) in
    let at : lines given ≡ t.whole ++ unfinished ∷ [] = ap lines t.split ∙ lines_of t.whole unfinished t.ends t.last ∙ ap (λ l. t.whole ++ l) (filled unfinished f) in
    subst (λ ls. AnswersLines A 0 ls (written ++ (unwritten ++ text ++ 10 ∷ [])) (bad || b)) (sym at)
    (subst (λ l. AnswersLines A 0 (t.whole ++ unfinished ∷ []) l (bad || b)) (ap (λ l. l ++ 10 ∷ []) (append_assoc written unwritten text) ∙ append_assoc written (unwritten ++ text) (10 ∷ [])) more)
  where
    filled : (u : List ℕ) → u ≢ [] → last_line u ≡ u ∷ []
    filled [] h = absurd (h refl)
    filled (c ∷ u) h = refl

-- the same of equal values
pub retaken : (A : Answering) → (given written u u' v v' : List ℕ) (n : ℕ) (b b' : Bool) → HasTaken A given written u v n b → u' ≡ u → v' ≡ v → b' ≡ b → HasTaken A given written u' v' n b'
retaken A given written u u' v v' n b b' t e f h =
    subst (λ x. HasTaken A given written x v' n b') (sym e) (subst (λ x. HasTaken A given written u x n b') (sym f) (subst (λ x. HasTaken A given written u v n x) (sym h) t))

-- the bytes done, one line later
pub done_more : (all done rest line after : List ℕ) → all ≡ done ++ rest → rest ≡ line ++ 10 ∷ after → all ≡ (done ++ line ++ 10 ∷ []) ++ after
done_more all done rest line after e f =
    e ∙ ap (λ l. done ++ l) f ∙ sym (append_assoc done line (10 ∷ after)) ∙ sym (append_assoc (done ++ line) (10 ∷ []) after)

pub given_more : (given done line : List ℕ) → ((given ++ done) ++ line) ++ 10 ∷ [] ≡ given ++ ((done ++ line) ++ 10 ∷ [])
given_more given done line = ap (λ l. l ++ 10 ∷ []) (append_assoc given done line) ∙ append_assoc given (done ++ line) (10 ∷ [])

pub no_bytes : (xs : List ℕ) → length xs ≡ 0 → xs ≡ []
no_bytes [] e = refl
no_bytes (x ∷ xs) e = absurd (omega arith)

-- where no line is taken off the front, none ends
pub no_line : {B : Type 0} (bytes : List ℕ) (Q : B → Type 0) (r : Option B) → MatchOption r (HasNoEnd bytes) Q → ((x : B) → r ≡ Some x → ⊥) → HasNoEnd bytes
no_line bytes Q None h n = h
no_line bytes Q (Some x) h n = absurd (n x refl)

-- the lines taken are the first ones of each text that begins with these bytes
pub taken_ahead : (A : Answering) → (given written unfinished unwritten : List ℕ) (n : ℕ) (bad : Bool) → HasTaken A given written unfinished unwritten n bad
    → (rest : List ℕ) → AnswersAhead A (given ++ rest) written unwritten
taken_ahead A given written unfinished unwritten n bad t rest later = record {
  first = t.whole;
  others = lines (unfinished ++ (rest ++ later));
  any_bad = bad;
  split =
      ap lines (append_assoc given rest later ∙ ap (λ l. l ++ (rest ++ later)) t.split ∙ append_assoc (ended t.whole) unfinished (rest ++ later))
      ∙ lines_ahead t.whole (unfinished ++ (rest ++ later)) t.ends;
  answered = t.answered;
}

-- the same of equal bytes
pub ahead_of : (A : Answering) → (given same written unwritten equal : List ℕ) → same ≡ given → equal ≡ unwritten → AnswersAhead A given written unwritten → AnswersAhead A same written equal
ahead_of A given same written unwritten equal e f a =
    subst (λ g. AnswersAhead A g written equal) (sym e) (subst (λ u. AnswersAhead A given written u) (sym f) a)

-- the lines taken are the first ones
pub taken_first : (A : Answering) → (given written unfinished unwritten : List ℕ) (n : ℕ) (bad : Bool) → HasTaken A given written unfinished unwritten n bad
    → (later : List ℕ) → AnswersFirst A (given ++ later) written unwritten
taken_first A given written unfinished unwritten n bad t later =
    subst (λ g. AnswersFirst A (g ++ later) written unwritten) (append-nil given) (taken_ahead A given written unfinished unwritten n bad t [] later)

-- some of what is more is put
pub first_moved : (A : Answering) → (text written put more : List ℕ) → AnswersFirst A text written (put ++ more) → AnswersFirst A text (written ++ put) more
first_moved A text written put more f = record {
  first = f.first;
  others = f.others;
  any_bad = f.any_bad;
  split = f.split;
  answered = subst (λ l. AnswersLines A 0 f.first l f.any_bad) (sym (append_assoc written put more)) f.answered;
}

-- all that is more is put
pub first_put : (A : Answering) → (text written more : List ℕ) → AnswersFirst A text written more → AnswersFirst A text (written ++ more) []
first_put A text written more f = first_moved A text written more [] (subst (λ l. AnswersFirst A text written l) (sym (append-nil more)) f)

-- all lines are the first ones
pub first_whole : (A : Answering) → (text written unwritten : List ℕ) (bad : Bool) → AnswersLines A 0 (lines text) (written ++ unwritten) bad → AnswersFirst A text written unwritten
first_whole A text written unwritten bad a = record { first = lines text; others = []; any_bad = bad; split = sym (append-nil (lines text)); answered = a }

-- no line is answered yet
pub first_none : (A : Answering) → (text : List ℕ) → AnswersFirst A text [] []
unfolding AnswersLines
first_none A text = record { first = []; others = lines text; any_bad = false; split = refl; answered = (refl, refl) }

-- a known text begins with the bytes that were read of it
pub known_ahead : (old new : Option (List ℕ)) (given : List ℕ) (P : List ℕ → Type 0) → Consumes old new given → ((later : List ℕ) → P (given ++ later)) → IfSome old P
known_ahead None new given P h f = tt
known_ahead (Some text) None given P h f = absurd h
known_ahead (Some text) (Some later) given P h f = subst P (sym h) (f later)

-- a run that stopped after it had written some answers
pub stopped_later : (A : Answering) → (old mid new : Option (List ℕ)) (text written : List ℕ) (stop : Stop) → Appends old mid written
    → Stopped mid new (λ put more. AnswersFirst A text (written ++ put) more) stop → Stopped old new (AnswersFirst A text) stop
stopped_later A old mid new text written stop e s = record {
  put = written ++ s.put;
  more = s.more;
  appended = Appends-trans _ _ _ _ _ e s.appended;
  answers = s.answers;
  whole = s.whole;
}

pub first_lines : (A : Answering) → (given old new : Option (List ℕ)) (stop : Stop) → IfSome given (λ text. Stopped old new (AnswersFirst A text) stop) → stop ≡ NoMemory → AnswersFirstLines A given old new
first_lines A None old new stop s e = tt
first_lines A (Some text) old new stop s e = (s.put, s.appended, subst (λ l. AnswersFirst A text s.put l) (s.whole e) s.answers)

pub beginning : (A : Answering) → (given old new : Option (List ℕ)) (stop : Stop) → IfSome given (λ text. Stopped old new (AnswersFirst A text) stop) → AnswersBeginning A given old new
beginning A None old new stop s = tt
beginning A (Some text) old new stop s = (s.put, s.more, s.appended, s.answers)

-- of whatever error a result holds
pub any_err : {T E : Type 0} (P : E → Type 0) (r : Result T E) → ((e : E) → P e) → IfErr r P
any_err P (Ok x) f = tt
any_err P (Err e) f = f e

-- of an error of which Q is known
pub err_with : {T E : Type 0} (Q P : E → Type 0) (r : Result T E) → IfErr r Q → ((e : E) → Q e → P e) → IfErr r P
err_with Q P (Ok x) h f = tt
err_with Q P (Err e) h f = f e h
