use Rattle.std.proofs.Common.{◌∙◌, ap, sym}
use Rattle.keyed_text.specs.Quotes.{place_behind}
use Rattle.keyed_text.specs.declared.quotes.Place.TheVariants.{Closed}
use Rattle.keyed_text.proofs.QuoteLemmas.{closed-more, closed-none, free-rest}
use Rattle.keyed_text.proofs.quotes.Marks.behind_closed.Goals as goal

pub returns-in_err-place-in-Some : goal.returns-in_err-place-in-Some
returns-in_err-place-in-Some c =
    let more = closed-more c.args.self c.in-Some.first.now c.in-Some.rest.now in
    let all = ap (place_behind c.args.self Closed) c.in-Some.ensures.cases.0 in
    c.from_residual.ensures ∙ sym (all ∙ rw (sym c.closed.ensures ∙ c.in_err-place-in-Some.was) at more)

pub behind_other-requires : goal.behind_other-requires
behind_other-requires c = free-rest c.in-Some.first.now c.in-Some.rest.now (rw c.in-Some.ensures.cases.0 at c.requires)

pub returns-in_ok-place-in-Some : goal.returns-in_ok-place-in-Some
returns-in_ok-place-in-Some c =
    let more = closed-more c.args.self c.in-Some.first.now c.in-Some.rest.now in
    let all = ap (place_behind c.args.self Closed) c.in-Some.ensures.cases.0 in
    c.behind_other.ensures ∙ sym (all ∙ rw (sym c.closed.ensures ∙ c.in_ok-place-in-Some.was) at more)

pub returns-in-None : goal.returns-in-None
returns-in-None c = sym (closed-none c.args.self c.args.run.now c.in-None.ensures.cases)
