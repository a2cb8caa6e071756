-- From the style in which the text of a stream begins to that of an answer which is written as its table is.
use Rattle.std.proofs.Common.{◌≡◌, ℕ, List, Option, None, Some, subst}
use Rattle.std.specs.Prelude.{IfSome}
use Rattle.std.specs.Io.KnownBytes.{Keeps}
use Rattle.keyed_text.specs.declared.style.Style.{Style}
use Rattle.keyed_requests.specs.declared.request.Form.{Form}
use Rattle.keyed_jobs.specs.NotedStyles.{IsNoted, IsStyleBy, IsStyleOf}

-- what holds of a text that is known, and of one that stayed as it was
pub known-more : {P Q : List ℕ → Type 0} (m : Option (List ℕ)) → ((t : List ℕ) → P t → Q t) → IfSome m P → IfSome m Q
known-more None f known = tt
known-more (Some t) f known = f t known

pub kept-known : (P : List ℕ → Type 0) (m n : Option (List ℕ)) → Keeps m n → IfSome n P → IfSome m P
kept-known P None n kept known = tt
kept-known P (Some t) None kept known = absurd kept
kept-known P (Some t) (Some u) kept known = subst P kept known

-- the style of an answer is that of the text which begins in this one
pub style-of : (form old new : Form) (text : List ℕ) (first style : Style) → old ≡ new → IsNoted form first text → IsStyleBy old.writing.heading first style
    → IsStyleOf form new.writing.heading text style
style-of form old new text first style same is by = subst (λ s. IsStyleBy new.writing.heading s style) is (subst (λ f. IsStyleBy f.writing.heading first style) same by)
