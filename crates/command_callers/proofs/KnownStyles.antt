-- The style of an answer that is written as a text is which is known.
use Rattle.std.proofs.Common.{◌≡◌, ◌∙◌, ℕ, List, ap, subst, true}
use Rattle.keyed_text.specs.TextStyles.{style_of}
use Rattle.keyed_text.specs.declared.style.Style.{Style}
use Rattle.keyed_requests.specs.declared.request.Form.{Form}
use Rattle.keyed_requests.specs.declared.writing.Heading.{Heading}
use Rattle.keyed_requests.specs.declared.writing.Heading.TheVariants.{Written}
use Rattle.keyed_jobs.specs.NotedStyles.{IsStyleOf, marks_in}
use Rattle.keyed_jobs.specs.declared.answer.Answer.{Answer}
use Rattle.command_callers.specs.Answered.{IsButForEnd, IsInStyle, IsSpelledIn, IsTableInStyle, file_in}

-- a text in a form is known, and with it its style
pub record IsStyled (form : Form) (heading : Heading) (text : List ℕ) (named : Style) : Type 0 where
  pub literal : List ℕ
  pub is : text ≡ literal
  pub written : heading ≡ Written
  pub style : style_of (marks_in form) literal true ≡ named

pub known_style : (form : Form) (heading : Heading) (text literal : List ℕ) (named : Style) → text ≡ literal → heading ≡ Written → style_of (marks_in form) literal true ≡ named
    → IsStyled form heading text named
known_style form heading text literal named is written style = record { literal = literal; is = is; written = written; style = style }

pub named_style : (form : Form) (heading : Heading) (text : List ℕ) (named style : Style) → IsStyled form heading text named → IsStyleOf form heading text style
    → IsButForEnd named style
named_style form heading text named style known of =
    let plainly = subst (λ h. IsStyleOf form h text style) known.written of in
    subst (λ t. IsStyleOf form Written t style) known.is plainly ∙ ap (λ (s : Style). record s { has_end = style.has_end }) known.style

pub table_in_style : {rows : List (List (List ℕ))} {named : Style} {text : List ℕ} {answer : Answer} → IsInStyle (IsButForEnd named) (IsSpelledIn rows) answer
    → file_in rows named ≡ text → IsTableInStyle rows named text answer
table_in_style file whole = record { file = file; whole = whole }
