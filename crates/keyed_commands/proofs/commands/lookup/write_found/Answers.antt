use Rattle.std.proofs.lemmas.Result.{on_ok_weaker}
use Rattle.keyed_commands.specs.JoinAnswers.{heading_of_join}
use Rattle.keyed_commands.specs.LookupAnswers.{WritesBehind, WritesRest, found_under}
use Rattle.std.proofs.Common.{inl, inr}
use Rattle.keyed_files.proofs.ReadingLemmas.{same-err}
use Rattle.keyed_commands.proofs.UnansweredLemmas.{memory-apart}
use Rattle.keyed_commands.proofs.commands.lookup.write_found.Goals as goal

pub returns-clause-text : goal.returns-clause-text
returns-clause-text g c =
    let work = c.args.work.now in
    let columns = work.columns.now in
    let find = found_under work.found.entries in
    let heading = heading_of_join work.form c.args.header.now in
    let old = g.W.Write.contents c.args.output.now in
    let new = g.W.Write.contents c.write_parts.new.output in
    let source = c.args.left.now.source.value in
    let wrote = rw c.in_ok-written.ensures.value at c.begin_lookup.ensures in
    let Rest : Type 0 = WritesRest g.R.Read.remaining work.form work.kind columns find c.args.places.now source c.in_ok-written.written old new in
    let Behind : Type 0 = WritesBehind g.R.Read.remaining work.form work.kind columns find c.args.places.now heading source old new in
    on_ok_weaker {P = Rest} {Q = Behind} c.write_parts.result (λ rest. rest heading wrote) c.write_parts.ensures.text

pub returns-in_err-written-clause-why : goal.returns-in_err-written-clause-why
returns-in_err-written-clause-why g c =
    same-err c.from_residual.result c.in_err-written.field-0.0 _ c.from_residual.ensures.1
    (inr (inl (memory-apart _ c.in_err-written.ensures.why.2, inl c.in_err-written.ensures.file)))
