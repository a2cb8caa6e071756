use Rattle.std.proofs.Common.{inl, inr, subst}
use Rattle.std.proofs.lemmas.Result.{err_from_is_err_and}
use Rattle.keyed_files.specs.Explained.{ExplainsPlaces}
use Rattle.keyed_files.specs.Reading.{PlacesOf}
use Rattle.keyed_files.proofs.ReadingLemmas.{same-err}
use Rattle.keyed_commands.specs.PartAnswers.{left_columns, right_columns}
use Rattle.keyed_commands.proofs.FirstRowsLemmas.{tables_begun}
use Rattle.keyed_commands.proofs.PartsWrittenLemmas.{written_tables}
use Rattle.keyed_commands.proofs.UnansweredSortedLemmas.{tables-untold, unread-yet}
use Rattle.keyed_commands.proofs.sorted.write_tables.Goals as goal

pub returns-clause-whole : goal.returns-clause-whole
returns-clause-whole g c by_key =
    let left = c.in_ok-left.left in
    let right = c.in_ok-right.right in
    written_tables g.R.Read.remaining c.args.work.now c.args.tables (record { left = left; right = right }) (g.W.Write.contents c.args.output.now)
    (g.W.Write.contents c.write_parts.new.output) c.in_ok-finished.finished.status
    (subst (λ columns. PlacesOf c.args.tables.first.source.value columns left.places) c.columns.ensures.left c.in_ok-left.ensures.places)
    (subst (λ columns. PlacesOf c.args.tables.next.source.value columns right.places) c.columns.ensures.right c.in_ok-right.ensures.places)
    c.in_ok-left.ensures.begins c.in_ok-right.ensures.begins (c.in_ok-finished.ensures.whole by_key c.in_ok-left.ensures.rises c.in_ok-right.ensures.rises)

pub returns-in_err-finished-clause-begun : goal.returns-in_err-finished-clause-begun
returns-in_err-finished-clause-begun g c =
    let left = c.in_ok-left.left in
    let right = c.in_ok-right.right in
    let p = err_from_is_err_and c.from_residual-in_err-finished.result c.from_residual-in_err-finished.ensures.1 in
    rw (p.1, p.2) (λ by_key.
    tables_begun g.R.Read.remaining c.args.work.now c.args.tables (record { left = left; right = right })
    (subst (λ columns. PlacesOf c.args.tables.first.source.value columns left.places) c.columns.ensures.left c.in_ok-left.ensures.places)
    (subst (λ columns. PlacesOf c.args.tables.next.source.value columns right.places) c.columns.ensures.right c.in_ok-right.ensures.places)
    c.in_ok-left.ensures.begins c.in_ok-right.ensures.begins _ (g.W.Write.contents c.args.output.now) (g.W.Write.contents c.write_parts.new.output)
    (c.in_err-finished.ensures.begun by_key c.in_ok-left.ensures.rises c.in_ok-right.ensures.rises))

pub returns-in_err-left-clause-why : goal.returns-in_err-left-clause-why
returns-in_err-left-clause-why g c =
    let told = c.in_err-left.field-0.0 in
    same-err c.from_residual.result told _ c.from_residual.ensures.1
    (λ by_key.
    inr (inr (inl (
      c.in_err-left.ensures.file,
      inl (subst (λ columns. ExplainsPlaces c.args.tables.first.source.value columns told.reason) c.columns.ensures.left c.in_err-left.ensures.why),
    ))))

pub returns-in_err-right-clause-why : goal.returns-in_err-right-clause-why
returns-in_err-right-clause-why g c =
    let told = c.in_err-right.field-0.0 in
    same-err c.from_residual-in_err-right.result told _ c.from_residual-in_err-right.ensures.1
    (λ by_key.
    inr (inr (inr (
      c.in_err-right.ensures.file,
      inl (subst (λ columns. ExplainsPlaces c.args.tables.next.source.value columns told.reason) c.columns.ensures.right c.in_err-right.ensures.why),
    ))))

pub returns-in_err-finished-clause-why : goal.returns-in_err-finished-clause-why
returns-in_err-finished-clause-why g c =
    let rem = g.R.Read.remaining in
    let work = c.args.work.now in
    let tables = c.args.tables in
    let left = c.in_ok-left.left in
    let right = c.in_ok-right.right in
    same-err c.from_residual-in_err-finished.result c.in_err-finished.field-0.0 _ c.from_residual-in_err-finished.ensures.1
    (λ by_key.
    tables-untold rem (left_columns work) (right_columns work) tables (record { left = left; right = right }) c.in_err-finished.field-0.0
    c.in_ok-left.ensures.named c.in_ok-right.ensures.named
    (unread-yet rem (left_columns work) tables.first left c.in_ok-left.ensures.source
    (subst (λ columns. PlacesOf tables.first.source.value columns left.places) c.columns.ensures.left c.in_ok-left.ensures.places)
    c.in_ok-left.ensures.rises c.in_ok-left.ensures.begins)
    (unread-yet rem (right_columns work) tables.next right c.in_ok-right.ensures.source
    (subst (λ columns. PlacesOf tables.next.source.value columns right.places) c.columns.ensures.right c.in_ok-right.ensures.places)
    c.in_ok-right.ensures.rises c.in_ok-right.ensures.begins)
    (c.in_err-finished.ensures.why by_key c.in_ok-left.ensures.rises c.in_ok-right.ensures.rises))
