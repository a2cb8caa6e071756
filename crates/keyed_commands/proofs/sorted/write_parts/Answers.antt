use Rattle.std.proofs.Common.{List, ℕ, [], ap, inl, inr, subst, sym}
use Rattle.std.proofs.lemmas.Result.{err_from_is_err_and}
use Rattle.std.specs.Borrow.{Bor}
use Rattle.keyed_files.proofs.ReadingLemmas.{same-err}
use Rattle.keyed_jobs.specs.Written.{IsIo}
use Rattle.keyed_commands.proofs.PartReadLemmas.{taken_none}
use Rattle.keyed_commands.proofs.PartsBegunLemmas.{begun_first, begun_none}
use Rattle.keyed_commands.proofs.PartsWrittenLemmas.{written_all, written_first}
use Rattle.keyed_commands.proofs.UnansweredSortedLemmas.{parts-untold}
use Rattle.keyed_commands.proofs.sorted.write_parts.Goals as goal

pub returns-clause-whole : goal.returns-clause-whole
returns-clause-whole g c by_key left right =
    let rem = g.R.Read.remaining in
    let how = c.args.work.now in
    let start = c.args.tables.now in
    let before = g.W.Write.contents c.args.output.now in
    let between = g.W.Write.contents c.write_part.new.output in
    let after = g.W.Write.contents c.write_later.new.output in
    let first = c.in_ok-first.first in
    let begun = written_first rem how start c.write_part.new.tables before between first left right (c.in_ok-first.ensures.whole by_key) in
    written_all rem how start c.write_later.new.tables before after (g.W.Write.contents c.flush.new.self) c.in_ok-whole.whole c.in_ok-whole.ensures.last
    (c.in_ok-whole.ensures.rest how start before (sym c.leave_header.ensures) by_key begun) c.flush.ensures.bytes

pub returns-in_err-first-clause-begun : goal.returns-in_err-first-clause-begun
returns-in_err-first-clause-begun g c =
    let p = err_from_is_err_and c.from_residual.result c.from_residual.ensures.1 in
    rw (p.1, p.2) (λ by_key left right.
    begun_first g.R.Read.remaining c.args.work.now c.args.tables.now _ (g.W.Write.contents c.args.output.now) (g.W.Write.contents c.write_part.new.output)
    left right (c.in_err-first.ensures.begun by_key))

pub returns-in_err-whole-clause-begun : goal.returns-in_err-whole-clause-begun
returns-in_err-whole-clause-begun g c =
    let before = g.W.Write.contents c.args.output.now in
    let p = err_from_is_err_and c.from_residual-in_err-whole.result c.from_residual-in_err-whole.ensures.1 in
    rw (p.1, p.2) (λ by_key left right.
    c.in_err-whole.ensures.begun c.args.work.now c.args.tables.now before (sym c.leave_header.ensures) by_key
    (written_first g.R.Read.remaining c.args.work.now c.args.tables.now c.write_part.new.tables before (g.W.Write.contents c.write_part.new.output) c.in_ok-first.first
    left right (c.in_ok-first.ensures.whole by_key)))

pub returns-in_err-at-clause-begun : goal.returns-in_err-at-clause-begun
returns-in_err-at-clause-begun g c =
    let rem = g.R.Read.remaining in
    let how = c.args.work.now in
    let start = c.args.tables.now in
    let before = g.W.Write.contents c.args.output.now in
    let between = g.W.Write.contents c.write_part.new.output in
    let p = err_from_is_err_and c.from_residual-in_err-at.result c.from_residual-in_err-at.ensures.1 in
    rw p.1 (λ by_key left right.
    begun_none rem how start _ c.write_later.new.tables before (g.W.Write.contents c.write_later.new.output) (g.W.Write.contents c.flush.new.self) c.in_ok-whole.whole
    (c.in_ok-whole.ensures.rest how start before (sym c.leave_header.ensures) by_key
    (written_first rem how start c.write_part.new.tables before between c.in_ok-first.first left right (c.in_ok-first.ensures.whole by_key))) c.flush.ensures.bytes)

pub returns-in_err-first-clause-why : goal.returns-in_err-first-clause-why
returns-in_err-first-clause-why g c =
    let start = c.args.tables.now in
    same-err c.from_residual.result c.in_err-first.field-0.0 _ c.from_residual.ensures.1
    (λ by_key left right.
    parts-untold g.R.Read.remaining start start [] [] c.in_err-first.field-0.0 (taken_none g.R.Read.remaining start.left left) (taken_none g.R.Read.remaining start.right right)
    c.in_err-first.ensures.why)

pub returns-in_err-whole-clause-why : goal.returns-in_err-whole-clause-why
returns-in_err-whole-clause-why g c =
    let before = g.W.Write.contents c.args.output.now in
    same-err c.from_residual-in_err-whole.result c.in_err-whole.field-0.0 _ c.from_residual-in_err-whole.ensures.1
    (λ by_key left right.
    c.in_err-whole.ensures.why c.args.work.now c.args.tables.now before (sym c.leave_header.ensures) by_key
    (written_first g.R.Read.remaining c.args.work.now c.args.tables.now c.write_part.new.tables before (g.W.Write.contents c.write_part.new.output) c.in_ok-first.first
    left right (c.in_ok-first.ensures.whole by_key)))

pub returns-in_err-at-clause-why : goal.returns-in_err-at-clause-why
returns-in_err-at-clause-why g c =
    same-err c.from_residual-in_err-at.result c.in_err-at.field-0.0 _ c.from_residual-in_err-at.ensures.1
    (λ by_key left right.
    inr (inl (ap (λ (file : Bor (List ℕ)). file.now) c.in_err-at.ensures.file, subst IsIo (sym c.in_err-at.ensures.why.2) tt)))
