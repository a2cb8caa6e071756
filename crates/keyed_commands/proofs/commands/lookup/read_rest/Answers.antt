use Rattle.keyed_files.proofs.TableLemmas.{reads-all, reads-and, reads-none}
use Rattle.keyed_commands.specs.LookupAnswers.{held_rows}
use Rattle.std.proofs.Common.{◌++◌, ◌∷◌, ◌∙◌, [], inl, inr, refl, subst}
use Rattle.keyed_files.specs.Reading.{ReadsOn}
use Rattle.keyed_files.proofs.ReadingLemmas.{same-err}
use Rattle.keyed_jobs.proofs.UnreadLemmas.{rows-memory, rows-next}
use Rattle.keyed_commands.proofs.commands.lookup.read_rest.Goals as goal

pub loop-init : goal.loop-init
loop-init g c = (reads-none g.R.Read.remaining c.args.places.now c.args.source.now (held_rows c.args.found.now.entries), (λ u. u), (refl, refl))

pub returns-in-None-clause-read : goal.returns-in-None-clause-read
returns-in-None-clause-read g c =
    reads-all g.R.Read.remaining c.args.places.now c.args.source.now c.loop.source (held_rows c.args.found.now.entries) (held_rows c.loop.found.entries) c.read_row.new.self
    c.loop.invariant.0 (rw c.in-None.is at c.in_ok-row.ensures.gives)

pub loop-preserved : goal.loop-preserved
loop-preserved g c = (
  reads-and g.R.Read.remaining c.args.places.now c.args.source.now c.loop.source (held_rows c.args.found.now.entries) (held_rows c.loop.found.entries) c.read_row.new.self
      (held_rows c.put_unique.new.found.entries) c.in-Some.row c.loop.invariant.0 (rw c.in-Some.is at c.in_ok-row.ensures.gives)
      (rw c.in-Some.is at c.in_ok-row.ensures.picked) c.in_ok-put_unique-in-Some.ensures.put,
  (λ u. c.in_ok-put_unique-in-Some.ensures.unique),
  (c.in_ok-row.ensures.rule.0 ∙ c.loop.invariant.2.0, c.in_ok-row.ensures.rule.1 ∙ c.loop.invariant.2.1),
)

pub returns-in_err-row-clause-why : goal.returns-in_err-row-clause-why
returns-in_err-row-clause-why g c =
    same-err c.from_residual.result c.in_err-row.field-0.0 _ c.from_residual.ensures.1
    (λ none. inl (rows-next g.R.Read.remaining c.args.source.now c.loop.source c.read_row.new.self c.in_err-row.field-0.0
    (λ d m text given has. let so_far = c.loop.invariant.0 d m text given has in (so_far.0, so_far.1)) c.loop.invariant.2 c.in_err-row.ensures.rule
    (inl c.in_err-row.ensures.why) c.in_err-row.ensures.gave))

pub returns-in_err-put_unique-in-Some-clause-why : goal.returns-in_err-put_unique-in-Some-clause-why
returns-in_err-put_unique-in-Some-clause-why g c =
    let places = c.args.places.now in
    let before = held_rows c.args.found.now.entries in
    let rows = held_rows c.loop.found.entries in
    let row = c.in-Some.row in
    let now = c.read_row.new.self in
    let reads = reads-and g.R.Read.remaining places c.args.source.now c.loop.source before rows now (rows ++ row ∷ []) row c.loop.invariant.0
    (rw c.in-Some.is at c.in_ok-row.ensures.gives) (rw c.in-Some.is at c.in_ok-row.ensures.picked) refl in
    same-err c.from_residual-in_err-put_unique-in-Some.result c.in_err-put_unique-in-Some.field-0.0 _ c.from_residual-in_err-put_unique-in-Some.ensures.1
    (λ none. inr (now, rows, row, subst (λ old. ReadsOn g.R.Read.remaining places c.args.source.now now old (rows ++ row ∷ [])) none reads, c.in_err-put_unique-in-Some.ensures.why))

pub returns-clause-why : goal.returns-clause-why
returns-clause-why g c none = inl (rows-memory g.R.Read.remaining c.args.source.now)
