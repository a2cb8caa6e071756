use Rattle.std.proofs.Common.{inl, inr, subst}
use Rattle.std.proofs.KnownBytes.{Keeps-refl}
use Rattle.std.proofs.lemmas.Result.{err_from_is_err_and}
use Rattle.keyed_files.proofs.ReadingLemmas.{same-err}
use Rattle.keyed_commands.specs.PartAnswers.{IsByKey}
use Rattle.keyed_commands.proofs.PartsBegunLemmas.{begun_next, begun_none}
use Rattle.keyed_commands.proofs.PartsWrittenLemmas.{by_key_later, written_next}
use Rattle.keyed_commands.proofs.UnansweredSortedLemmas.{parts-untold}
use Rattle.keyed_commands.proofs.sorted.write_later.Goals as goal

pub loop-init : goal.loop-init
loop-init g c how start before same by_key h = h

pub loop-preserved : goal.loop-preserved
loop-preserved g c how start before same by_key h =
    written_next g.R.Read.remaining how c.args.work.now start c.loop.tables c.write_part.new.tables before (g.W.Write.contents c.loop.output)
    (g.W.Write.contents c.write_part.new.output) c.loop.whole c.in_ok-next.next c.and-whole.result same (c.loop.invariant how start before same by_key h) c.if-is_last.false
    (c.in_ok-next.ensures.whole (subst IsByKey same (by_key_later how by_key))) c.and-whole.ensures.status c.and-whole.ensures.last

pub returns-then-is_last-clause-rest : goal.returns-then-is_last-clause-rest
returns-then-is_last-clause-rest g c = c.loop.invariant

pub returns-in_err-next-clause-begun : goal.returns-in_err-next-clause-begun
returns-in_err-next-clause-begun g c =
    let p = err_from_is_err_and c.from_residual.result c.from_residual.ensures.1 in
    rw (p.1, p.2) (λ how start before same by_key h.
    begun_next g.R.Read.remaining how start _ c.args.work.now c.loop.tables before (g.W.Write.contents c.loop.output) (g.W.Write.contents c.write_part.new.output)
    c.loop.whole same (c.loop.invariant how start before same by_key h) c.if-is_last.false (c.in_err-next.ensures.begun (subst IsByKey same (by_key_later how by_key))))

pub returns-clause-begun : goal.returns-clause-begun
returns-clause-begun g c how start before same by_key h =
    begun_none g.R.Read.remaining how start _ c.loop.tables before (g.W.Write.contents c.loop.output) (g.W.Write.contents c.loop.output) c.loop.whole
    (c.loop.invariant how start before same by_key h) (Keeps-refl (g.W.Write.contents c.loop.output))

pub returns-in_err-next-clause-why : goal.returns-in_err-next-clause-why
returns-in_err-next-clause-why g c =
    same-err c.from_residual.result c.in_err-next.field-0.0 _ c.from_residual.ensures.1
    (λ how start before same by_key h.
    let written = c.loop.invariant how start before same by_key h in
    parts-untold g.R.Read.remaining start c.loop.tables written.left written.right c.in_err-next.field-0.0 written.left_taken written.right_taken c.in_err-next.ensures.why)

pub returns-clause-why : goal.returns-clause-why
returns-clause-why g c how start before same by_key h =
    let written = c.loop.invariant how start before same by_key h in
    inl (tt, inr (inl written.right_taken.named))
