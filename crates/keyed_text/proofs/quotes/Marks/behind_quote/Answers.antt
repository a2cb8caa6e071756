use Rattle.std.proofs.Common.{◌∙◌, sym}
use Rattle.keyed_text.proofs.quotes.Marks.behind_quote.Goals as goal

pub returns-in_err-place : goal.returns-in_err-place
returns-in_err-place c = rw (sym c.behind_run.ensures ∙ c.in_err-place.was) c.from_residual.ensures

pub returns : goal.returns
returns c = rw (sym c.behind_run.ensures ∙ c.in_ok-place.was) c.after.ensures
