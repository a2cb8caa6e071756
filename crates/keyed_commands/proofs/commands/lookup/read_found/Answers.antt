use Rattle.std.proofs.Common.{[], ap, inl, inr, subst}
use Rattle.keyed_files.specs.Reading.{ReadsRest}
use Rattle.keyed_files.proofs.TableLemmas.{table-read}
use Rattle.keyed_commands.specs.LookupAnswers.{held_rows}
use Rattle.keyed_files.proofs.ReadingLemmas.{same-err}
use Rattle.keyed_commands.specs.UnansweredLookup.{ExplainsHeld}
use Rattle.keyed_commands.proofs.commands.lookup.read_found.Goals as goal

pub returns-clause-rows : goal.returns-clause-rows
returns-clause-rows g c =
    let source = c.args.right.now.source.value in
    let rest = subst (λ s. ReadsRest g.R.Read.remaining c.in_ok-places.places s (held_rows c.new-found.result.entries) (held_rows c.read_rest.new.found.entries)) c.deref_mut.ensures.value c.in_ok-read_rest.ensures.read in
    table-read g.R.Read.remaining c.args.columns.now c.in_ok-places.places source [] (held_rows c.read_rest.new.found.entries)
    (rw c.deref.ensures at c.in_ok-places.ensures.places)
    (subst (λ l. ReadsRest g.R.Read.remaining c.in_ok-places.places source (held_rows l) (held_rows c.read_rest.new.found.entries)) c.new-found.ensures.empty rest)

pub returns-in_err-places-clause-why : goal.returns-in_err-places-clause-why
returns-in_err-places-clause-why g c =
    same-err c.from_residual.result c.in_err-places.field-0.0 _ c.from_residual.ensures.1
    (inl (rw c.deref.ensures at c.in_err-places.ensures.why))

pub returns-in_err-read_rest-clause-why : goal.returns-in_err-read_rest-clause-why
returns-in_err-read_rest-clause-why g c =
    same-err c.from_residual-in_err-read_rest.result c.in_err-read_rest.field-0.0 _ c.from_residual-in_err-read_rest.ensures.1
    (inr (
      c.in_ok-places.places,
      rw c.deref.ensures at c.in_ok-places.ensures.places,
      subst (λ source. ExplainsHeld g.R.Read.remaining c.in_ok-places.places source c.in_err-read_rest.field-0.0) c.deref_mut.ensures.value
          (c.in_err-read_rest.ensures.why (ap held_rows c.new-found.ensures.empty)),
    ))
