-- The columns that go, and how a header spells its names, from the header of a source to its text.
use Rattle.std.proofs.Common.{◌≡◌, ◌∙◌, ℕ, Bool, true, false, List, [], ◌∷◌, ◌++◌, None, Option, Some, sym, ap, subst}
use Rattle.std.specs.Prelude.{IfSome}
use Rattle.csv.specs.Machine.{Read, next_record}
use Rattle.csv.specs.Reading.{Reached, strip_bom}
use Rattle.csv.specs.declared.parser.Config.{Config}
use Rattle.csv.specs.declared.parser.State.{State}
use Rattle.csv.specs.declared.parser.State.TheVariants as st
use Rattle.keyed_files.specs.Gone.{CameBy, CameOf, GoneBy, GoneOf, IsGoneHeader, IsTurned, KnowsGone, LeaveOf}
use Rattle.keyed_files.specs.Reading.{HasGiven, HasGivenIn, IsHeader, IsOpen, last_record}
use Rattle.keyed_columns.specs.Spelled.{SpelledBy, SpelledOf}
use Rattle.keyed_requests.specs.FormBytes.{comment_of, delimiter_of}
use Rattle.keyed_requests.specs.declared.request.Direction.{Direction}
use Rattle.keyed_requests.specs.declared.request.Direction.TheVariants.{Backward, Forward}
use Rattle.keyed_requests.specs.declared.request.Form.{Form}
use Rattle.keyed_columns.specs.declared.content.Content.{Content}
use Rattle.keyed_files.specs.declared.source.Next.{Next}
use Rattle.keyed_files.specs.declared.source.Next.TheVariants as next
use Rattle.keyed_files.specs.declared.source.Source.{Source}
use Rattle.keyed_text.specs.Texts.{AreRows, config_by}
use Rattle.keyed_text.proofs.TextLemmas.{rows-once}

some_same : {A : Type 0} {x y : A} → Some x ≡ Some y → x ≡ y
some_same e = cc e

-- what is read first of a text is the first of its records
head_once : (cfg : Config) (s s2 t2 : State) (xs ys zs : List ℕ) (a : List (List ℕ)) (more b : List (List (List ℕ)))
    → Reached cfg s xs (a ∷ more) s2 ys → Reached cfg s xs b t2 zs → next_record cfg t2 [] [] zs ≡ None → (rest : List (List (List ℕ))) × (b ≡ a ∷ rest)
unfolding Reached
head_once cfg s s2 t2 xs ys zs a more [] h k m =
    let e : next_record cfg s [] [] xs ≡ None = rw (k.0, k.1) m in
    absurd (cc (sym e ∙ h.1))
head_once cfg s s2 t2 xs ys zs a more (b ∷ bs) h k m =
    let same : h.0 ≡ k.0 = some_same (sym h.1 ∙ k.1) in
    (bs, ap (λ r. r ∷ bs) (k.2 ∙ ap (λ (p : Read). p.0) (sym same) ∙ sym h.2))

module _ {R : Type 0} (rem : R → Option (List ℕ)) (d : ℕ) (c : Option ℕ) (text : List ℕ) (source : Source R) (fields : List (List ℕ)) (more records : List (List (List ℕ)))
    (are : AreRows d c text records) where
  given_first : (now : Next) → HasGivenIn d c rem text (fields ∷ more) source now → (rest : List (List (List ℕ))) × (records ≡ fields ∷ rest)
  given_first next.Kept h =
      head_once (config_by d c) st.StartRecord _ are.0 (strip_bom text) _ are.1 fields (more ++ (last_record source ∷ [])) records h.reached are.2 are.3
  given_first next.Read h = head_once (config_by d c) st.StartRecord _ are.0 (strip_bom text) _ are.1 fields more records h.reached are.2 are.3
  given_first next.Ended h = (more, rows-once d c text records (fields ∷ more) are h)

module _ {R : Type 0} (rem : R → Option (List ℕ)) (form : Form) (text : List ℕ) (source : Source R) (records : List (List (List ℕ)))
    (are : AreRows (delimiter_of form) (comment_of form) text records) where
  gone_if : (has_header : Bool) (first : List (List (List ℕ))) → IsGoneHeader form text source.header.gone source.header.came has_header first
      → HasGiven (delimiter_of form) (comment_of form) rem text first source → GoneBy has_header records source.header.gone
  gone_if true [] head given =
      let none : records ≡ [] = rows-once (delimiter_of form) (comment_of form) text records [] are head.0 in
      subst (λ r. GoneBy true r source.header.gone) (sym none) head.1.0
  gone_if true (fields ∷ more) head given =
      let at = given_first rem (delimiter_of form) (comment_of form) text source fields more records are source.next given in
      subst (λ r. GoneBy true r source.header.gone) (sym at.1) head.0
  gone_if false first head given = tt

  pub gone-of : KnowsGone form rem text source → GoneOf form text source.header.gone
  gone-of known = (records, are, gone_if form.has_header known.first known.header known.given)

  came_if : (has_header : Bool) (first : List (List (List ℕ))) → IsGoneHeader form text source.header.gone source.header.came has_header first
      → HasGiven (delimiter_of form) (comment_of form) rem text first source → CameBy has_header records source.header.came
  came_if true [] head given =
      let none : records ≡ [] = rows-once (delimiter_of form) (comment_of form) text records [] are head.0 in
      subst (λ r. CameBy true r source.header.came) (sym none) head.1.1
  came_if true (fields ∷ more) head given =
      let at = given_first rem (delimiter_of form) (comment_of form) text source fields more records are source.next given in
      subst (λ r. CameBy true r source.header.came) (sym at.1) head.1
  came_if false first head given = tt

  came_of : KnowsGone form rem text source → CameOf form text source.header.came
  came_of known = (records, are, came_if form.has_header known.first known.header known.given)

  -- the columns that go in a direction are those that the header of changes says
  pub leave-of : (direction : Direction) (new : Source R) → IsTurned direction source new → KnowsGone form rem text source → LeaveOf direction form text new.header.gone
  leave-of Forward new same known = subst (λ s. GoneOf form text s.header.gone) (sym same) (gone-of known)
  leave-of Backward new turned known = subst (λ s. CameOf form text s.header.gone) (sym turned) (came_of known)

-- a source of changes is open in each direction
pub open-turned : {R : Type 0} (rem : R → Option (List ℕ)) (direction : Direction) (form : Form) (kind : Content) (text : List ℕ) (names : List (List ℕ)) (old new : Source R)
    → IsTurned direction old new → IsOpen form kind rem text names old → IsOpen form kind rem text names new
open-turned rem Forward form kind text names old new same begun = subst (IsOpen form kind rem text names) (sym same) begun
open-turned rem Backward form kind text names old new turned begun = subst (IsOpen form kind rem text names) (sym turned)
    (record { content = begun.content; first = begun.first; header = begun.header; given = begun.given; named = begun.named; spelled = begun.spelled })

-- and has the same names
pub names-turned : {R : Type 0} (direction : Direction) (old new : Source R) → IsTurned direction old new → old.header.names ≡ new.header.names
names-turned Forward old new same = ap (λ s. s.header.names) (sym same)
names-turned Backward old new turned = ap (λ s. s.header.names) (sym turned)

-- the names as a header spells them, of a source that is open
module _ {R : Type 0} (rem : R → Option (List ℕ)) (form : Form) (kind : Content) (text : List ℕ) (names : List (List ℕ)) (source : Source R) (records : List (List (List ℕ)))
    (are : AreRows (delimiter_of form) (comment_of form) text records) where
  spelled_if : (has_header : Bool) (first : List (List (List ℕ))) → IsHeader form kind text names has_header first
      → HasGiven (delimiter_of form) (comment_of form) rem text first source → SpelledBy has_header kind first source.header.spelling.spelled
      → SpelledBy has_header kind records source.header.spelling.spelled
  spelled_if true [] head given said =
      let none : records ≡ [] = rows-once (delimiter_of form) (comment_of form) text records [] are head.0 in
      subst (λ r. SpelledBy true kind r source.header.spelling.spelled) (sym none) said
  spelled_if true (fields ∷ []) head given said =
      let at = given_first rem (delimiter_of form) (comment_of form) text source fields [] records are source.next given in
      subst (λ r. SpelledBy true kind r source.header.spelling.spelled) (sym at.1) said
  spelled_if true (fields ∷ more ∷ rest) head given said = absurd head
  spelled_if false first head given said = tt

  pub spelled-of : IsOpen form kind rem text names source → SpelledOf form kind text source.header.spelling.spelled
  spelled-of begun = (records, are, spelled_if form.has_header begun.first begun.header begun.given begun.spelled)

-- what holds of a text that is known, beside what else holds
pub both-of : (P Q : List ℕ → Type 0) (m : Option (List ℕ)) → IfSome m P → IfSome m Q → IfSome m (λ t. P t × Q t)
both-of P Q None p q = tt
both-of P Q (Some t) p q = (p, q)
