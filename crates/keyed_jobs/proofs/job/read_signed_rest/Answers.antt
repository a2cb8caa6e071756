use Rattle.std.proofs.Common.{◌∙◌, refl, inr}
use Rattle.keyed_tables.specs.Arranged.{noted}
use Rattle.keyed_jobs.proofs.SignedLemmas.{parts-all, parts-and, parts-none}
use Rattle.keyed_files.proofs.ReadingLemmas.{same-err}
use Rattle.keyed_faults.specs.declared.fault.Reason.TheVariants.{NoMemory}
use Rattle.keyed_jobs.proofs.UnreadLemmas.{rows-memory, rows-next}
use Rattle.keyed_jobs.proofs.job.read_signed_rest.Goals as goal

pub loop-init : goal.loop-init
loop-init g c = (parts-none g.R.Read.remaining c.args.places.now c.args.source.now c.args.gone.now.items c.args.come.now.items (noted c.args.order.now), (λ none. none), refl, (refl, refl))

pub returns-in-None-clause-read : goal.returns-in-None-clause-read
returns-in-None-clause-read g c =
    parts-all g.R.Read.remaining c.args.places.now c.args.source.now c.loop.source c.args.gone.now.items c.loop.gone.items c.args.come.now.items c.loop.come.items
    (noted c.args.order.now) (noted c.loop.order) c.read_signed.new.self c.loop.invariant.0 (rw c.in-None.is at c.in_ok-signed.ensures.gives)

pub loop-preserved : goal.loop-preserved
loop-preserved g c = (
  parts-and g.R.Read.remaining c.args.places.now c.args.source.now c.loop.source c.args.gone.now.items c.loop.gone.items c.args.come.now.items c.loop.come.items
      (noted c.args.order.now) (noted c.loop.order) c.read_signed.new.self c.note_and_part.new.gone.items c.note_and_part.new.come.items (noted c.note_and_part.new.order)
      c.in-Some.signed c.loop.invariant.0 c.in_ok-note_and_part-in-Some.ensures.noted
      (rw c.in-Some.is at c.in_ok-signed.ensures.gives) (rw c.in-Some.is at c.in_ok-signed.ensures.picked)
      c.in_ok-note_and_part-in-Some.ensures.goes c.in_ok-note_and_part-in-Some.ensures.comes,
  (λ none. rw (c.loop.invariant.1 none) at c.in_ok-note_and_part-in-Some.ensures.noted),
  c.in_ok-signed.ensures.header ∙ c.loop.invariant.2,
  (c.in_ok-signed.ensures.rule.0 ∙ c.loop.invariant.3.0, c.in_ok-signed.ensures.rule.1 ∙ c.loop.invariant.3.1),
)

pub returns-in_err-signed-clause-why : goal.returns-in_err-signed-clause-why
returns-in_err-signed-clause-why g c =
    same-err c.from_residual.result c.in_err-signed.field-0.0 _ c.from_residual.ensures.1
    (rows-next g.R.Read.remaining c.args.source.now c.loop.source c.read_signed.new.self c.in_err-signed.field-0.0
    (λ d m text given has. let so_far = c.loop.invariant.0 d m text given has in (so_far.0, so_far.1)) c.loop.invariant.3 c.in_err-signed.ensures.rule
    (inr c.in_err-signed.ensures.why) c.in_err-signed.ensures.gave)

pub returns-in_err-note_and_part-in-Some-clause-why : goal.returns-in_err-note_and_part-in-Some-clause-why
returns-in_err-note_and_part-in-Some-clause-why g c =
    same-err c.from_residual-in_err-note_and_part-in-Some.result NoMemory _ c.from_residual-in_err-note_and_part-in-Some.ensures.1
    (rows-memory g.R.Read.remaining c.args.source.now)

pub returns-clause-why : goal.returns-clause-why
returns-clause-why g c = rows-memory g.R.Read.remaining c.args.source.now
