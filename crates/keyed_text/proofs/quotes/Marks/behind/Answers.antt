use Rattle.std.proofs.Common.{◌∙◌, ◌+◌, ◌-◌, ◌<◌, ◌≤◌, arith, drop, length, le_refl, length-take, refl, sym, take}
use Rattle.keyed_text.proofs.QuoteLemmas.{free-taken, quote-next, rest-taken}
use Rattle.keyed_text.proofs.quotes.Marks.behind.Goals as goal

pub quotes-init : goal.quotes-init
quotes-init c = (refl, le_refl _)

pub quotes-smaller : goal.quotes-smaller
quotes-smaller c =
    let rest = c.quotes.rest.now in
    let next = c.in-Some.at + 1 in
    let less : length (take (length rest - next) (drop next rest)) < length rest = omega (arith, c.in-Some.ensures.0.high, length-take (length rest - next) (drop next rest)) in
    less

pub behind_quote-requires : goal.behind_quote-requires
behind_quote-requires c = free-taken c.quotes.rest.now c.in-Some.at c.in-Some.ensures.0.high c.in-Some.ensures.0.before

pub quotes-preserved : goal.quotes-preserved
quotes-preserved c =
    let rest = c.quotes.rest.now in
    let i = c.in-Some.at in
    let next = i + 1 in
    let more = quote-next c.args.self c.quotes.place rest i c.in-Some.ensures.0.high c.in-Some.ensures.1 in
    let less : length (take (length rest - next) (drop next rest)) ≤ length rest = omega (arith, c.in-Some.ensures.0.high, length-take (length rest - next) (drop next rest)) in
    (rw (rest-taken rest next) (sym (rw (sym c.behind_quote.ensures ∙ c.in_ok-place.was) at more) ∙ c.quotes.invariant.0), omega (arith, less, c.quotes.invariant.1))

pub returns-in_err-place : goal.returns-in_err-place
returns-in_err-place c =
    let rest = c.quotes.rest.now in
    let more = quote-next c.args.self c.quotes.place rest c.in-Some.at c.in-Some.ensures.0.high c.in-Some.ensures.1 in
    c.from_residual.ensures ∙ sym (rw (sym c.behind_quote.ensures ∙ c.in_err-place.was) at more) ∙ c.quotes.invariant.0

pub returns : goal.returns
returns c = c.behind_run.ensures ∙ c.quotes.invariant.0
