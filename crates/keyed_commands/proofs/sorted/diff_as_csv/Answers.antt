use Rattle.std.proofs.Common.{◌∙◌, ap, inl, inr, subst}
use Rattle.std.proofs.lemmas.Result.{err_from_is_err_and}
use Rattle.std.specs.Prelude.{◌||◌}
use Rattle.keyed_columns.specs.Keys.{AreChangeColumns}
use Rattle.keyed_columns.specs.Names.{has_lone}
use Rattle.keyed_files.specs.Opening.{first_header, next_header}
use Rattle.keyed_files.proofs.ReadingLemmas.{same-err}
use Rattle.keyed_commands.specs.UnansweredSorted.{ExplainsRisingTables}
use Rattle.keyed_commands.proofs.SortedBegunLemmas.{diffs-first}
use Rattle.keyed_commands.proofs.SortedTextLemmas.{diffs-written}
use Rattle.keyed_commands.proofs.UnansweredLemmas.{memory-apart}
use Rattle.keyed_commands.proofs.UnansweredSortedLemmas.{versions-untold}
use Rattle.keyed_commands.proofs.sorted.diff_as_csv.Goals as goal

pub returns-clause-whole : goal.returns-clause-whole
returns-clause-whole g c =
    diffs-written g.R.Read.remaining c.args.layout c.sorted.result c.in_ok-marked.marked c.in_ok-columns.columns c.args.versions (g.W.Write.contents c.args.output.now)
    (g.W.Write.contents c.write_tables.new.output) c.in_ok-differ.differ c.in_ok-finished.finished.status c.status_with.result
    c.sorted.ensures.form c.sorted.ensures.columns c.in_ok-columns.ensures.columns c.in_ok-marked.ensures.marked
    ((rw c.in_ok-differ.ensures.value at c.has_lone.ensures) ∙ ap (λ p. has_lone p.0 p.1 || has_lone p.1 p.0) c.column_changes.ensures) c.status_with.ensures
    (c.in_ok-finished.ensures.whole tt)

pub returns-in_err-finished-clause-begun : goal.returns-in_err-finished-clause-begun
returns-in_err-finished-clause-begun g c =
    let p = err_from_is_err_and c.from_residual-in_err-finished.result c.from_residual-in_err-finished.ensures.1 in
    rw (p.1, p.2)
    (diffs-first g.R.Read.remaining c.args.layout _ (g.W.Write.contents c.args.output.now) (g.W.Write.contents c.write_tables.new.output) c.sorted.result
    c.in_ok-marked.marked c.in_ok-columns.columns c.args.versions c.sorted.ensures.form c.sorted.ensures.columns c.in_ok-columns.ensures.columns c.in_ok-marked.ensures.marked
    (c.in_err-finished.ensures.begun tt))

pub returns-in_err-marked-clause-why : goal.returns-in_err-marked-clause-why
returns-in_err-marked-clause-why g c =
    same-err c.from_residual.result c.in_err-marked.field-0.0 _ c.from_residual.ensures.1
    (inl (c.in_err-marked.ensures.why, inr (inl c.in_err-marked.ensures.file)))

pub returns-in_err-columns-clause-why : goal.returns-in_err-columns-clause-why
returns-in_err-columns-clause-why g c =
    same-err c.from_residual-in_err-columns.result c.in_err-columns.field-0.0 _ c.from_residual-in_err-columns.ensures.1
    (inl (c.in_err-columns.ensures.why, inl c.in_err-columns.ensures.file))

pub returns-in_err-differ-clause-why : goal.returns-in_err-differ-clause-why
returns-in_err-differ-clause-why g c =
    same-err c.from_residual-in_err-differ.result c.in_err-differ.field-0.0 _ c.from_residual-in_err-differ.ensures.1
    (inl (memory-apart _ c.in_err-differ.ensures.why.2, inr (inl c.in_err-differ.ensures.file)))

pub returns-in_err-finished-clause-why : goal.returns-in_err-finished-clause-why
returns-in_err-finished-clause-why g c =
    let rem = g.R.Read.remaining in
    let versions = c.args.versions in
    let told = c.in_err-finished.field-0.0 in
    same-err c.from_residual-in_err-finished.result told _ c.from_residual-in_err-finished.ensures.1
    (versions-untold rem (AreChangeColumns c.args.layout.key (first_header versions) (next_header versions)) c.in_ok-columns.columns versions told
    c.in_ok-columns.ensures.columns
    (subst (λ columns. ExplainsRisingTables rem columns columns versions told) c.sorted.ensures.columns (c.in_err-finished.ensures.why tt)))
