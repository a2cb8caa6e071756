-- What a run has done of a known text, and what it makes of all of it.
use Rattle.std.specs.Prelude.{ℕ, List, [], ◌∷◌, ◌++◌, ◌≡◌, ◌≢◌, ◌-◌, ◌^◌, ◌||◌, min, length, All, Bool, Option, IfSome}
use Rattle.std.specs.List.{flat_map}
use Rattle.std.specs.Io.KnownBytes.{Appends}
use Rattle.line_runs.specs.declared.session.Session.{Session}
use Rattle.line_runs.specs.declared.session.Stop.{Stop}
use Rattle.line_runs.specs.declared.session.Stop.TheVariants.{NoMemory}
use Rattle.line_runs.specs.Lines.{lines}
use Rattle.line_runs.specs.Texts.{Answering, AnswersLines}

-- lines, with the byte that ends each
abbrev pub ended : List (List ℕ) → List ℕ
ended whole = flat_map (λ line. line ++ 10 ∷ []) whole

-- no line ends in these bytes
abbrev pub HasNoEnd : List ℕ → Type 0
HasNoEnd bytes = All (λ b. b ≢ 10) bytes

-- of the bytes that were given, whole lines came and the bytes of one that is unfinished; what was written, and what is not written yet,
-- are the answers to the whole lines
pub record HasTaken (answers : Answering) (given written unfinished unwritten : List ℕ) (count : ℕ) (any_bad : Bool) : Type 0 where
  pub whole : List (List ℕ)
  pub split : given ≡ ended whole ++ unfinished
  pub ends : All HasNoEnd whole
  pub last : HasNoEnd unfinished
  pub answered : AnswersLines answers 0 whole (written ++ unwritten) any_bad
  pub number : count ≡ min (length whole) (2 ^ 64 - 1)

-- a session has
abbrev pub Taken : {N A : Type 0} → Answering → List ℕ → List ℕ → Session N A → Type 0
Taken answers given written s = HasTaken answers given written s.unfinished.items s.answers.unwritten.items s.answers.lines s.answers.any_bad

-- the answer to a line is put after the ones that were there
abbrev pub AddsAnswer : Answering → List ℕ → List ℕ → List ℕ → ℕ → Bool → Bool → Type 0
AddsAnswer answers line old new number was_bad any_bad = (text : List ℕ) × (bad : Bool) × answers number line text bad
    × (new ≡ old ++ text ++ 10 ∷ []) × (any_bad ≡ (was_bad || bad))

-- of the lines of a text, the first ones are answered by some output and what is more
pub record AnswersFirst (answers : Answering) (text output more : List ℕ) : Type 0 where
  pub first : List (List ℕ)
  pub others : List (List ℕ)
  pub any_bad : Bool
  pub split : lines text ≡ first ++ others
  pub answered : AnswersLines answers 0 first (output ++ more) any_bad

-- the same of every text that begins with these bytes
abbrev pub AnswersAhead : Answering → List ℕ → List ℕ → List ℕ → Type 0
AnswersAhead answers given output more = (later : List ℕ) → AnswersFirst answers (given ++ later) output more

-- a run stopped: P says of what was put on a writer, and of what is still to be put, that these are answers. Where memory was refused,
-- nothing is still to be put.
pub record Stopped (old new : Option (List ℕ)) (P : List ℕ → List ℕ → Type 0) (stop : Stop) : Type 0 where
  pub put : List ℕ
  pub more : List ℕ
  pub appended : Appends old new put
  pub answers : P put more
  pub whole : stop ≡ NoMemory → more ≡ []

-- a run that had taken lines stopped amid these bytes
abbrev pub StopsAmid : {N A : Type 0} → Answering → Session N A → List ℕ → Option (List ℕ) → Option (List ℕ) → Stop → Type 0
StopsAmid answers s bytes old new stop = (given written : List ℕ) → Taken answers given written s
    → Stopped old new (λ put more. AnswersAhead answers (given ++ bytes) (written ++ put) more) stop

-- and at the end of its text
abbrev pub StopsAtEnd : {N A : Type 0} → Answering → Session N A → Option (List ℕ) → Option (List ℕ) → Stop → Type 0
StopsAtEnd answers s old new stop = (given written : List ℕ) → Taken answers given written s
    → Stopped old new (λ put more. AnswersFirst answers given (written ++ put) more) stop

-- bytes were put on a writer as far as these, and more stand after them
abbrev pub PutSome : Option (List ℕ) → Option (List ℕ) → List ℕ → Type 0
PutSome old new bytes = (put : List ℕ) × (more : List ℕ) × Appends old new put × (bytes ≡ put ++ more)

-- of a known text, a writer was given the answers to its first lines
abbrev pub AnswersFirstLines : Answering → Option (List ℕ) → Option (List ℕ) → Option (List ℕ) → Type 0
AnswersFirstLines answers given old new = IfSome given (λ text. (output : List ℕ) × Appends old new output × AnswersFirst answers text output [])

-- of a known text, a writer was given a beginning of the answers to its first lines
abbrev pub AnswersBeginning : Answering → Option (List ℕ) → Option (List ℕ) → Option (List ℕ) → Type 0
AnswersBeginning answers given old new = IfSome given (λ text. (output : List ℕ) × (more : List ℕ) × Appends old new output × AnswersFirst answers text output more)

-- of a known text, a writer was given the answers to its lines, and any_bad says whether one of them is bad
abbrev pub AnswersText : Answering → Option (List ℕ) → Option (List ℕ) → Option (List ℕ) → Bool → Type 0
AnswersText answers given old new any_bad = IfSome given (λ text. (output : List ℕ) × Appends old new output × AnswersLines answers 0 (lines text) output any_bad)
