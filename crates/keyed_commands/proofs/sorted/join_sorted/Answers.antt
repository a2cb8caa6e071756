use Rattle.std.proofs.Common.{◌∙◌, inl, inr, subst}
use Rattle.std.proofs.lemmas.Result.{IfErr-weaker, err_from_is_err_and}
use Rattle.keyed_faults.specs.Outside.{IsApart}
use Rattle.keyed_files.proofs.ReadingLemmas.{same-err}
use Rattle.keyed_jobs.proofs.UnreadLemmas.{told-of}
use Rattle.keyed_commands.specs.UnansweredSorted.{ExplainsRisingTables}
use Rattle.keyed_commands.proofs.SortedBegunLemmas.{joins-begun, joins-not}
use Rattle.keyed_commands.proofs.SortedTextLemmas.{joins-in-parts, joins-written}
use Rattle.keyed_commands.proofs.UnansweredLemmas.{names-apart}
use Rattle.keyed_commands.proofs.UnansweredSortedLemmas.{sides-untold}
use Rattle.keyed_commands.proofs.sorted.join_sorted.Goals as goal

pub returns-clause-whole : goal.returns-clause-whole
returns-clause-whole g c csv =
    let form = c.in_ok-form.form in
    let written = joins-written g.R.Read.remaining c.args.layout c.sorted.result form c.args.how c.in_ok-columns.columns c.in_ok-sides.sides
    (g.W.Write.contents c.args.output.now) (g.W.Write.contents c.write_tables.new.output) c.in_ok-finished.finished.status c.sorted.ensures.form c.sorted.ensures.columns
    c.in_ok-columns.ensures.columns (rw c.in_ok-form.ensures.value at c.new-made.ensures.kind) ((rw c.in_ok-form.ensures.value at c.new-made.ensures.format) ∙ csv)
    (rw c.in_ok-form.ensures.value at c.new-made.ensures.header) (rw c.in_ok-form.ensures.value at c.new-made.ensures.once)
    (c.in_ok-finished.ensures.whole c.sorted.ensures.unordered) in
    joins-in-parts g.R.Read.remaining c.args.layout c.args.how c.args.left c.args.right c.in_ok-sides.sides form.header (g.W.Write.contents c.args.output.now)
    (g.W.Write.contents c.write_tables.new.output) c.in_ok-finished.finished.status c.in_ok-sides.ensures.first c.in_ok-sides.ensures.next csv written

pub returns-in_err-finished-clause-begun : goal.returns-in_err-finished-clause-begun
returns-in_err-finished-clause-begun g c =
    let form = c.in_ok-form.form in
    let p = err_from_is_err_and c.from_residual-in_err-finished.result c.from_residual-in_err-finished.ensures.1 in
    rw (p.1, p.2) (λ csv.
    joins-begun g.R.Read.remaining c.args.layout _ (g.W.Write.contents c.args.output.now) (g.W.Write.contents c.write_tables.new.output) c.sorted.result form
    c.args.how c.in_ok-columns.columns c.args.left c.args.right c.in_ok-sides.sides c.in_ok-sides.ensures.first c.in_ok-sides.ensures.next c.sorted.ensures.form
    c.sorted.ensures.columns c.in_ok-columns.ensures.columns (rw c.in_ok-form.ensures.value at c.new-made.ensures.kind)
    ((rw c.in_ok-form.ensures.value at c.new-made.ensures.format) ∙ csv) csv (rw c.in_ok-form.ensures.value at c.new-made.ensures.header)
    (rw c.in_ok-form.ensures.value at c.new-made.ensures.once) (c.in_err-finished.ensures.begun c.sorted.ensures.unordered))

pub returns-in_err-sides-clause-begun : goal.returns-in_err-sides-clause-begun
returns-in_err-sides-clause-begun g c =
    let p = err_from_is_err_and c.from_residual.result c.from_residual.ensures.1 in
    rw p.1 (λ csv. joins-not g.R.Read.remaining c.args.layout _ (g.W.Write.contents c.args.output.now) c.args.left c.args.right c.args.how)

pub returns-in_err-columns-clause-begun : goal.returns-in_err-columns-clause-begun
returns-in_err-columns-clause-begun g c =
    let p = err_from_is_err_and c.from_residual-in_err-columns.result c.from_residual-in_err-columns.ensures.1 in
    rw p.1 (λ csv. joins-not g.R.Read.remaining c.args.layout _ (g.W.Write.contents c.args.output.now) c.args.left c.args.right c.args.how)

pub returns-in_err-form-clause-begun : goal.returns-in_err-form-clause-begun
returns-in_err-form-clause-begun g c =
    let p = err_from_is_err_and c.from_residual-in_err-form.result c.from_residual-in_err-form.ensures.1 in
    rw p.1 (λ csv. joins-not g.R.Read.remaining c.args.layout _ (g.W.Write.contents c.args.output.now) c.args.left c.args.right c.args.how)

pub returns-in_err-sides-clause-why : goal.returns-in_err-sides-clause-why
returns-in_err-sides-clause-why g c =
    same-err c.from_residual.result c.in_err-sides.field-0.0 _ c.from_residual.ensures.1
    (inl c.in_err-sides.ensures.why)

pub returns-in_err-columns-clause-why : goal.returns-in_err-columns-clause-why
returns-in_err-columns-clause-why g c =
    same-err c.from_residual-in_err-columns.result c.in_err-columns.field-0.0 _ c.from_residual-in_err-columns.ensures.1
    (inr (
      c.in_ok-sides.sides,
      record { ready = c.in_ok-sides.ensures.first_ready; named = c.in_ok-sides.ensures.first_named; reads = c.in_ok-sides.ensures.first },
      record { ready = c.in_ok-sides.ensures.next_ready; named = c.in_ok-sides.ensures.next_named; reads = c.in_ok-sides.ensures.next },
      inl (c.in_err-columns.ensures.why, inl c.in_err-columns.ensures.file),
    ))

pub returns-in_err-form-clause-why : goal.returns-in_err-form-clause-why
returns-in_err-form-clause-why g c =
    let told = c.in_err-form.field-0.0 in
    same-err c.from_residual-in_err-form.result told _ c.from_residual-in_err-form.ensures.1
    (inr (
      c.in_ok-sides.sides,
      record { ready = c.in_ok-sides.ensures.first_ready; named = c.in_ok-sides.ensures.first_named; reads = c.in_ok-sides.ensures.first },
      record { ready = c.in_ok-sides.ensures.next_ready; named = c.in_ok-sides.ensures.next_named; reads = c.in_ok-sides.ensures.next },
      inl (
        told-of IsApart c.new-made.result told c.in_err-form.ensures.why (IfErr-weaker c.new-made.result _ _ (names-apart _ _) c.new-made.ensures.twice),
        inr (inl c.in_err-form.ensures.file),
      ),
    ))

pub returns-in_err-finished-clause-why : goal.returns-in_err-finished-clause-why
returns-in_err-finished-clause-why g c =
    let rem = g.R.Read.remaining in
    let sides = c.in_ok-sides.sides in
    let told = c.in_err-finished.field-0.0 in
    same-err c.from_residual-in_err-finished.result told _ c.from_residual-in_err-finished.ensures.1
    (inr (
      c.in_ok-sides.sides,
      record { ready = c.in_ok-sides.ensures.first_ready; named = c.in_ok-sides.ensures.first_named; reads = c.in_ok-sides.ensures.first },
      record { ready = c.in_ok-sides.ensures.next_ready; named = c.in_ok-sides.ensures.next_named; reads = c.in_ok-sides.ensures.next },
      sides-untold rem c.args.layout c.in_ok-columns.columns sides told c.in_ok-columns.ensures.columns
          (subst (λ columns. ExplainsRisingTables rem columns.left columns.right sides told) c.sorted.ensures.columns (c.in_err-finished.ensures.why c.sorted.ensures.unordered)),
    ))
