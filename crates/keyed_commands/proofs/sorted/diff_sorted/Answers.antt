use Rattle.std.proofs.Common.{◌∙◌, inl, inr, refl, subst, sym}
use Rattle.std.proofs.lemmas.Result.{IfErr-weaker, IfOk-weaker, err_from_is_err_and}
use Rattle.keyed_files.proofs.ReadingLemmas.{same-err}
use Rattle.keyed_commands.specs.UnansweredSorted.{AreSortedColumns, ExplainsRisingVersions}
use Rattle.keyed_commands.proofs.SortedBegunLemmas.{diffs-begun, diffs-not}
use Rattle.keyed_commands.proofs.SortedTextLemmas.{diffs-in-parts}
use Rattle.keyed_commands.proofs.UnansweredSortedLemmas.{diff-untold, versions-untold}
use Rattle.keyed_commands.proofs.sorted.diff_sorted.Goals as goal

pub returns-in-Csv-clause-whole : goal.returns-in-Csv-clause-whole
returns-in-Csv-clause-whole g c =
    IfOk-weaker c.diff_as_csv.result _ _
    (λ finished h is. diffs-in-parts g.R.Read.remaining c.args.layout c.args.old c.args.new c.in_ok-versions.versions
    (record c.in_ok-versions.versions { first = c.rename_key.new.self }) (g.W.Write.contents c.args.output.now) (g.W.Write.contents c.diff_as_csv.new.output)
    finished.status c.in_ok-versions.ensures.first c.in_ok-versions.ensures.next c.in_ok-rename_key.ensures.renamed refl h) c.diff_as_csv.ensures.whole

pub returns-in-Csv-clause-begun : goal.returns-in-Csv-clause-begun
returns-in-Csv-clause-begun g c =
    IfErr-weaker c.diff_as_csv.result _ _
    (λ fault h is. diffs-begun g.R.Read.remaining c.args.layout fault.file.now (g.W.Write.contents c.args.output.now) (g.W.Write.contents c.diff_as_csv.new.output)
    c.args.old c.args.new c.in_ok-versions.versions (record c.in_ok-versions.versions { first = c.rename_key.new.self })
    c.in_ok-versions.ensures.first c.in_ok-versions.ensures.next c.in_ok-rename_key.ensures.renamed refl h) c.diff_as_csv.ensures.begun

pub returns-in_err-versions-clause-begun : goal.returns-in_err-versions-clause-begun
returns-in_err-versions-clause-begun g c =
    let p = err_from_is_err_and c.from_residual.result c.from_residual.ensures.1 in
    rw p.1 (λ is. diffs-not g.R.Read.remaining c.args.layout _ (g.W.Write.contents c.args.output.now) c.args.old c.args.new)

pub returns-in_err-rename_key-clause-begun : goal.returns-in_err-rename_key-clause-begun
returns-in_err-rename_key-clause-begun g c =
    let p = err_from_is_err_and c.from_residual-in_err-rename_key.result c.from_residual-in_err-rename_key.ensures.1 in
    rw p.1 (λ is. diffs-not g.R.Read.remaining c.args.layout _ (g.W.Write.contents c.args.output.now) c.args.old c.args.new)

pub returns-in_err-versions-clause-why : goal.returns-in_err-versions-clause-why
returns-in_err-versions-clause-why g c =
    same-err c.from_residual.result c.in_err-versions.field-0.0 _ c.from_residual.ensures.1
    (inl c.in_err-versions.ensures.why)

pub returns-in_err-rename_key-clause-why : goal.returns-in_err-rename_key-clause-why
returns-in_err-rename_key-clause-why g c =
    let opened = c.in_ok-versions.ensures in
    same-err c.from_residual-in_err-rename_key.result c.in_err-rename_key.field-0.0 _ c.from_residual-in_err-rename_key.ensures.1
    (inr (inl (
      opened.next_ready,
      (
        c.in_ok-versions.versions.first,
        record { ready = opened.first_ready; named = opened.first_named; reads = opened.first },
        c.in_err-rename_key.ensures.file ∙ opened.first_named,
        c.in_err-rename_key.ensures.why,
      ),
    )))

pub returns-in-Csv-clause-why : goal.returns-in-Csv-clause-why
returns-in-Csv-clause-why g c =
    let rem = g.R.Read.remaining in
    let versions = c.in_ok-versions.versions in
    let named = record versions { first = c.rename_key.new.self } in
    IfErr-weaker c.diff_as_csv.result _ _
    (λ fault why. diff-untold rem c.args.layout c.args.how c.args.old c.args.new fault versions named
    (record { ready = c.in_ok-versions.ensures.first_ready; named = c.in_ok-versions.ensures.first_named; reads = c.in_ok-versions.ensures.first })
    (record { ready = c.in_ok-versions.ensures.next_ready; named = c.in_ok-versions.ensures.next_named; reads = c.in_ok-versions.ensures.next })
    c.in_ok-rename_key.ensures.same refl c.in_ok-rename_key.ensures.renamed
    (subst (λ how. ExplainsRisingVersions rem (AreSortedColumns c.args.layout how named) named fault) (sym c.in-Csv.is) why)) c.diff_as_csv.ensures.why

pub returns-in_err-columns-in-Json-clause-why : goal.returns-in_err-columns-in-Json-clause-why
returns-in_err-columns-in-Json-clause-why g c =
    let versions = c.in_ok-versions.versions in
    let named = record versions { first = c.rename_key.new.self } in
    let told = c.in_err-columns-in-Json.field-0.0 in
    same-err c.from_residual-in_err-columns-in-Json.result told _ c.from_residual-in_err-columns-in-Json.ensures.1
    (diff-untold g.R.Read.remaining c.args.layout c.args.how c.args.old c.args.new told versions named
    (record { ready = c.in_ok-versions.ensures.first_ready; named = c.in_ok-versions.ensures.first_named; reads = c.in_ok-versions.ensures.first })
    (record { ready = c.in_ok-versions.ensures.next_ready; named = c.in_ok-versions.ensures.next_named; reads = c.in_ok-versions.ensures.next })
    c.in_ok-rename_key.ensures.same refl c.in_ok-rename_key.ensures.renamed
    (inl c.in_err-columns-in-Json.ensures.why))

pub returns-in_ok-columns-in-Json-clause-why : goal.returns-in_ok-columns-in-Json-clause-why
returns-in_ok-columns-in-Json-clause-why g c =
    let rem = g.R.Read.remaining in
    let versions = c.in_ok-versions.versions in
    let named = record versions { first = c.rename_key.new.self } in
    let columns = c.in_ok-columns-in-Json.columns in
    IfErr-weaker c.diff_as_json.result _ _
    (λ fault why. diff-untold rem c.args.layout c.args.how c.args.old c.args.new fault versions named
    (record { ready = c.in_ok-versions.ensures.first_ready; named = c.in_ok-versions.ensures.first_named; reads = c.in_ok-versions.ensures.first })
    (record { ready = c.in_ok-versions.ensures.next_ready; named = c.in_ok-versions.ensures.next_named; reads = c.in_ok-versions.ensures.next })
    c.in_ok-rename_key.ensures.same refl c.in_ok-rename_key.ensures.renamed
    (versions-untold rem (AreSortedColumns c.args.layout c.args.how named) columns named fault
    (subst (λ how. AreSortedColumns c.args.layout how named columns) (sym c.in-Json.is) c.in_ok-columns-in-Json.ensures.columns) why)) c.diff_as_json.ensures.why
