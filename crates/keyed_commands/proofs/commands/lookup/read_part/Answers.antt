use Rattle.std.proofs.Common.{[], ◌∙◌, inl, refl, subst, sym, true≢false}
use Rattle.keyed_files.specs.Reading.{ReadsOn}
use Rattle.keyed_files.proofs.TableLemmas.{reads-all, reads-none}
use Rattle.keyed_commands.specs.LookupAnswers.{as_rows}
use Rattle.keyed_commands.proofs.LookupLemmas.{part_row}
use Rattle.keyed_faults.specs.declared.fault.Reason.TheVariants.{NoMemory}
use Rattle.keyed_files.proofs.ReadingLemmas.{same-err}
use Rattle.keyed_jobs.proofs.UnreadLemmas.{rows-memory, rows-next}
use Rattle.keyed_commands.proofs.commands.lookup.read_part.Goals as goal

pub loop-init : goal.loop-init
loop-init g c = (
  subst (λ l. ReadsOn g.R.Read.remaining c.args.places.now c.args.source.now c.args.source.now [] (as_rows l)) (sym c.new-rows.ensures.items)
      (reads-none g.R.Read.remaining c.args.places.now c.args.source.now []),
  (refl, refl),
)

pub returns-in-None-clause-rows : goal.returns-in-None-clause-rows
returns-in-None-clause-rows g c =
    reads-all g.R.Read.remaining c.args.places.now c.args.source.now c.loop.source [] (as_rows c.loop.rows.items) c.read_row.new.self
    c.loop.invariant.0 (rw c.in-None.is at c.in_ok-row.ensures.gives)

pub loop-preserved : goal.loop-preserved
loop-preserved g c = (
  part_row g.R.Read.remaining c.args.places.now c.args.source.now c.loop.source c.read_row.new.self c.loop.rows.items c.push.new.self.items c.in-Some.row
      c.loop.invariant.0 (rw c.in-Some.is at c.in_ok-row.ensures.gives) (rw c.in-Some.is at c.in_ok-row.ensures.picked) c.in_ok-push-in-Some.ensures.items,
  (c.in_ok-row.ensures.rule.0 ∙ c.loop.invariant.1.0, c.in_ok-row.ensures.rule.1 ∙ c.loop.invariant.1.1),
)

pub returns-in-None-clause-goes_on : goal.returns-in-None-clause-goes_on
returns-in-None-clause-goes_on g c more = absurd (true≢false more)

pub returns-clause-rows : goal.returns-clause-rows
returns-clause-rows g c = c.loop.invariant.0

pub returns-clause-goes_on : goal.returns-clause-goes_on
returns-clause-goes_on g c more = record {
  rule = c.loop.invariant.1;
  gives = λ d m text given has. let so_far = c.loop.invariant.0 d m text given has in (so_far.0, so_far.1);
}

pub returns-in_err-row-clause-why : goal.returns-in_err-row-clause-why
returns-in_err-row-clause-why g c =
    same-err c.from_residual.result c.in_err-row.field-0.0 _ c.from_residual.ensures.1
    (rows-next g.R.Read.remaining c.args.source.now c.loop.source c.read_row.new.self c.in_err-row.field-0.0
    (λ d m text given has. let so_far = c.loop.invariant.0 d m text given has in (so_far.0, so_far.1)) c.loop.invariant.1 c.in_err-row.ensures.rule
    (inl c.in_err-row.ensures.why) c.in_err-row.ensures.gave)

pub returns-in_err-push-in-Some-clause-why : goal.returns-in_err-push-in-Some-clause-why
returns-in_err-push-in-Some-clause-why g c =
    same-err c.from_residual-in_err-push-in-Some.result NoMemory _ c.from_residual-in_err-push-in-Some.ensures.1
    (rows-memory g.R.Read.remaining c.args.source.now)
