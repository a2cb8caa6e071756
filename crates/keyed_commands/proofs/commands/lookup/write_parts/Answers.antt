use Rattle.std.proofs.Common.{◌∙◌, ap, inl, refl, subst, sym}
use Rattle.keyed_commands.specs.LookupAnswers.{WritesPart, found_under}
use Rattle.keyed_commands.proofs.LookupLemmas.{part_and, part_last}
use Rattle.keyed_jobs.specs.Written.{IsIo}
use Rattle.keyed_files.proofs.ReadingLemmas.{same-err}
use Rattle.keyed_commands.proofs.UnansweredLookupLemmas.{goes-and, goes-none, left-after}
use Rattle.keyed_commands.proofs.commands.lookup.write_parts.Goals as goal

pub loop-init : goal.loop-init
loop-init g c = ((λ end h. h), goes-none g.R.Read.remaining c.args.left.now.source.value, refl)

pub loop-preserved : goal.loop-preserved
loop-preserved g c =
    let work = c.args.work.now in
    let columns = work.columns.now in
    let find = found_under work.found.entries in
    let source = c.loop.left.source.value in
    let next = c.write_part.new.left.source.value in
    let old = g.W.Write.contents c.loop.output in
    let out = g.W.Write.contents c.write_part.new.output in
    let part = subst (λ is_last. WritesPart g.R.Read.remaining work.form work.kind columns find c.args.places.now is_last source next c.loop.written old out) c.if-is_last.false c.in_ok-is_last.ensures.text in (
      (λ end h. c.loop.invariant.0 end (part_and g.R.Read.remaining work.form work.kind columns find c.args.places.now source next c.loop.written c.new-written.result old out end part c.new-written.ensures h)),
      goes-and g.R.Read.remaining c.args.left.now.source.value source next c.loop.invariant.1 (c.in_ok-is_last.ensures.goes_on c.if-is_last.false),
      c.in_ok-is_last.ensures.named ∙ c.loop.invariant.2,
    )

pub returns-then-is_last-clause-text : goal.returns-then-is_last-clause-text
returns-then-is_last-clause-text g c =
    let work = c.args.work.now in
    let columns = work.columns.now in
    let find = found_under work.found.entries in
    let source = c.loop.left.source.value in
    let next = c.write_part.new.left.source.value in
    let old = g.W.Write.contents c.loop.output in
    let out = g.W.Write.contents c.write_part.new.output in
    let part = subst (λ is_last. WritesPart g.R.Read.remaining work.form work.kind columns find c.args.places.now is_last source next c.loop.written old out) c.if-is_last.true c.in_ok-is_last.ensures.text in
    c.loop.invariant.0 (g.W.Write.contents c.flush.new.self) (part_last g.R.Read.remaining work.form work.kind columns find c.args.places.now source next c.loop.written old out (g.W.Write.contents c.flush.new.self) part c.flush.ensures.bytes)

pub returns-in_err-is_last-clause-why : goal.returns-in_err-is_last-clause-why
returns-in_err-is_last-clause-why g c =
    same-err c.from_residual.result c.in_err-is_last.field-0.0 _ c.from_residual.ensures.1
    (left-after g.R.Read.remaining c.args.left.now c.loop.left c.in_err-is_last.field-0.0 c.loop.invariant.2 c.loop.invariant.1 c.in_err-is_last.ensures.why)

pub returns-in_err-at-clause-why : goal.returns-in_err-at-clause-why
returns-in_err-at-clause-why g c =
    same-err c.from_residual-in_err-at.result c.in_err-at.field-0.0 _ c.from_residual-in_err-at.ensures.1
    (inl (ap (λ file. file.now) c.in_err-at.ensures.file, subst IsIo (sym c.in_err-at.ensures.why.2) tt))
