use Rattle.std.proofs.Common.{◌∙◌, refl, inl}
use Rattle.keyed_files.proofs.TableLemmas.{reads-all, reads-and, reads-none}
use Rattle.keyed_tables.specs.Arranged.{noted}
use Rattle.keyed_jobs.proofs.NotedLemmas.{notes-and, notes-none}
use Rattle.keyed_files.proofs.ReadingLemmas.{same-err}
use Rattle.keyed_faults.specs.declared.fault.Reason.TheVariants.{NoMemory}
use Rattle.keyed_jobs.proofs.UnreadLemmas.{rows-memory, rows-next}
use Rattle.keyed_jobs.proofs.job.read_rest.Goals as goal

pub loop-init : goal.loop-init
loop-init g c = (
  reads-none g.R.Read.remaining c.args.places.now c.args.source.now c.args.rows.now.items,
  (λ none. none),
  refl,
  notes-none c.args.rows.now.items (noted c.args.order.now),
  (refl, refl),
)

pub returns-in-None-clause-read : goal.returns-in-None-clause-read
returns-in-None-clause-read g c =
    reads-all g.R.Read.remaining c.args.places.now c.args.source.now c.loop.source c.args.rows.now.items c.loop.rows.items c.read_row.new.self
    c.loop.invariant.0 (rw c.in-None.is at c.in_ok-row.ensures.gives)

pub loop-preserved : goal.loop-preserved
loop-preserved g c = (
  reads-and g.R.Read.remaining c.args.places.now c.args.source.now c.loop.source c.args.rows.now.items c.loop.rows.items c.read_row.new.self
      c.note_and_push.new.rows.items c.in-Some.row c.loop.invariant.0 (rw c.in-Some.is at c.in_ok-row.ensures.gives)
      (rw c.in-Some.is at c.in_ok-row.ensures.picked) c.in_ok-note_and_push-in-Some.ensures.pushed,
  (λ none. rw (c.loop.invariant.1 none) at c.in_ok-note_and_push-in-Some.ensures.noted),
  c.in_ok-row.ensures.header ∙ c.loop.invariant.2,
  notes-and c.args.rows.now.items c.loop.rows.items c.note_and_push.new.rows.items c.in-Some.row (noted c.args.order.now) (noted c.loop.order) (noted c.note_and_push.new.order)
      c.loop.invariant.3 c.in_ok-note_and_push-in-Some.ensures.pushed c.in_ok-note_and_push-in-Some.ensures.noted,
  (c.in_ok-row.ensures.rule.0 ∙ c.loop.invariant.4.0, c.in_ok-row.ensures.rule.1 ∙ c.loop.invariant.4.1),
)

pub returns-in_err-row-clause-why : goal.returns-in_err-row-clause-why
returns-in_err-row-clause-why g c =
    same-err c.from_residual.result c.in_err-row.field-0.0 _ c.from_residual.ensures.1
    (rows-next g.R.Read.remaining c.args.source.now c.loop.source c.read_row.new.self c.in_err-row.field-0.0
    (λ d m text given has. let so_far = c.loop.invariant.0 d m text given has in (so_far.0, so_far.1)) c.loop.invariant.4 c.in_err-row.ensures.rule
    (inl c.in_err-row.ensures.why) c.in_err-row.ensures.gave)

pub returns-in_err-note_and_push-in-Some-clause-why : goal.returns-in_err-note_and_push-in-Some-clause-why
returns-in_err-note_and_push-in-Some-clause-why g c =
    same-err c.from_residual-in_err-note_and_push-in-Some.result NoMemory _ c.from_residual-in_err-note_and_push-in-Some.ensures.1
    (rows-memory g.R.Read.remaining c.args.source.now)

pub returns-clause-why : goal.returns-clause-why
returns-clause-why g c = rows-memory g.R.Read.remaining c.args.source.now
