use Rattle.std.proofs.Common.{◌≡◌, [], None, false, inl, inr}
use Rattle.std.proofs.lemmas.Result.{IfErr-weaker, IfOk-weaker}
use Rattle.keyed_columns.specs.JoinedNames.{found_names}
use Rattle.keyed_columns.specs.Names.{repeats}
use Rattle.keyed_files.specs.Reading.{PlacesOf}
use Rattle.keyed_commands.proofs.LookupLemmas.{lookup-streams}
use Rattle.keyed_faults.specs.Outside.{IsApart}
use Rattle.keyed_files.specs.Explained.{ExplainsPlaces}
use Rattle.keyed_files.proofs.ReadingLemmas.{same-err}
use Rattle.keyed_jobs.proofs.UnreadLemmas.{told-of}
use Rattle.keyed_commands.specs.UnansweredLookup.{ExplainsFound}
use Rattle.keyed_commands.proofs.UnansweredLemmas.{names-apart}
use Rattle.keyed_commands.proofs.UnansweredLookupLemmas.{lookup-unanswered, lookup-unread}
use Rattle.keyed_commands.proofs.commands.lookup.lookup.Goals as goal

pub returns-in-Csv-clause-text : goal.returns-in-Csv-clause-text
returns-in-Csv-clause-text g c =
    let sides = c.in_ok-sides.sides in
    let found = c.in_ok-found.found in
    let reads = rw c.in_ok-found.ensures.value at c.read_found.ensures.rows in
    let unique = rw c.in_ok-found.ensures.value at c.read_found.ensures.unique in
    let placed : PlacesOf sides.first.source.value c.in_ok-columns.columns.left c.in_ok-places.places = rw c.deref.ensures at (rw c.in_ok-places.ensures.value at c.places.ensures.places) in
    let header = c.in_ok-header-in-Csv.header in
    let named : header ≡ found_names c.args.how.kind c.args.how.names c.in_ok-columns.columns = rw c.in_ok-header-in-Csv.ensures.value at c.lookup_header.ensures.names in
    let once : repeats [] header ≡ false = rw c.in_ok-header-in-Csv.ensures.value at c.lookup_header.ensures.once in
    IfOk-weaker c.write_found.result _ _ (λ status writes csv. lookup-streams g.R.Read.remaining c.args.layout c.args.how c.args.left c.args.right sides
    c.in_ok-columns.columns c.in_ok-places.places found.entries header (g.W.Write.contents c.args.output.now) (g.W.Write.contents c.write_found.new.output)
    c.in_ok-sides.ensures.first c.in_ok-sides.ensures.next c.in_ok-columns.ensures.columns placed reads unique named once writes) c.write_found.ensures.text

pub returns-in_err-sides-clause-why : goal.returns-in_err-sides-clause-why
returns-in_err-sides-clause-why g c =
    same-err c.from_residual.result c.in_err-sides.field-0.0 _ c.from_residual.ensures.1
    (inl c.in_err-sides.ensures.why)

pub returns-in_err-columns-clause-why : goal.returns-in_err-columns-clause-why
returns-in_err-columns-clause-why g c =
    same-err c.from_residual-in_err-columns.result c.in_err-columns.field-0.0 _ c.from_residual-in_err-columns.ensures.1
    (inr (
      c.in_ok-sides.sides,
      record { ready = c.in_ok-sides.ensures.first_ready; named = c.in_ok-sides.ensures.first_named; reads = c.in_ok-sides.ensures.first },
      record { ready = c.in_ok-sides.ensures.next_ready; named = c.in_ok-sides.ensures.next_named; reads = c.in_ok-sides.ensures.next },
      inl (c.in_err-columns.ensures.why, inl c.in_err-columns.ensures.file),
    ))

pub returns-in_err-places-clause-why : goal.returns-in_err-places-clause-why
returns-in_err-places-clause-why g c =
    let sides = c.in_ok-sides.sides in
    let told = c.in_err-places.field-0.0 in
    same-err c.from_residual-in_err-places.result told _ c.from_residual-in_err-places.ensures.1
    (lookup-unread g.R.Read.remaining c.args.layout c.args.left c.args.right told sides c.in_ok-columns.columns
    (record { ready = c.in_ok-sides.ensures.first_ready; named = c.in_ok-sides.ensures.first_named; reads = c.in_ok-sides.ensures.first })
    (record { ready = c.in_ok-sides.ensures.next_ready; named = c.in_ok-sides.ensures.next_named; reads = c.in_ok-sides.ensures.next }) c.in_ok-columns.ensures.columns
    (inl (
      c.in_err-places.ensures.file,
      inl (told-of (ExplainsPlaces sides.first.source.value c.in_ok-columns.columns.left) c.places.result told c.in_err-places.ensures.why (rw c.deref.ensures at c.places.ensures.why)),
    )))

pub returns-in_err-found-clause-why : goal.returns-in_err-found-clause-why
returns-in_err-found-clause-why g c =
    let sides = c.in_ok-sides.sides in
    let told = c.in_err-found.field-0.0 in
    same-err c.from_residual-in_err-found.result told _ c.from_residual-in_err-found.ensures.1
    (lookup-unread g.R.Read.remaining c.args.layout c.args.left c.args.right told sides c.in_ok-columns.columns
    (record { ready = c.in_ok-sides.ensures.first_ready; named = c.in_ok-sides.ensures.first_named; reads = c.in_ok-sides.ensures.first })
    (record { ready = c.in_ok-sides.ensures.next_ready; named = c.in_ok-sides.ensures.next_named; reads = c.in_ok-sides.ensures.next }) c.in_ok-columns.ensures.columns
    (inr (
      c.in_err-found.ensures.file,
      told-of (ExplainsFound g.R.Read.remaining c.in_ok-columns.columns.right sides.next.source.value) c.read_found.result told c.in_err-found.ensures.why c.read_found.ensures.why,
    )))

pub returns-in_err-header-in-Csv-clause-why : goal.returns-in_err-header-in-Csv-clause-why
returns-in_err-header-in-Csv-clause-why g c =
    same-err c.from_residual-in_err-header-in-Csv.result c.in_err-header-in-Csv.field-0.0 _ c.from_residual-in_err-header-in-Csv.ensures.1
    (inr (
      c.in_ok-sides.sides,
      record { ready = c.in_ok-sides.ensures.first_ready; named = c.in_ok-sides.ensures.first_named; reads = c.in_ok-sides.ensures.first },
      record { ready = c.in_ok-sides.ensures.next_ready; named = c.in_ok-sides.ensures.next_named; reads = c.in_ok-sides.ensures.next },
      inl (
        told-of IsApart c.lookup_header.result c.in_err-header-in-Csv.field-0.0 c.in_err-header-in-Csv.ensures.why
            (IfErr-weaker c.lookup_header.result _ _ (names-apart None (found_names c.args.how.kind c.args.how.names c.in_ok-columns.columns)) c.lookup_header.ensures.twice),
        inr (inl c.in_err-header-in-Csv.ensures.file),
      ),
    ))

pub returns-in-Csv-clause-why : goal.returns-in-Csv-clause-why
returns-in-Csv-clause-why g c =
    IfErr-weaker c.write_found.result _ _
    (λ fault why. lookup-unanswered g.R.Read.remaining c.args.layout c.args.left c.args.right fault c.in_ok-sides.sides c.in_ok-columns.columns
    (record { ready = c.in_ok-sides.ensures.first_ready; named = c.in_ok-sides.ensures.first_named; reads = c.in_ok-sides.ensures.first })
    (record { ready = c.in_ok-sides.ensures.next_ready; named = c.in_ok-sides.ensures.next_named; reads = c.in_ok-sides.ensures.next }) c.in_ok-columns.ensures.columns why) c.write_found.ensures.why

pub returns-clause-why : goal.returns-clause-why
returns-clause-why g c =
    IfErr-weaker c.write_json.result _ _
    (λ fault why. lookup-unanswered g.R.Read.remaining c.args.layout c.args.left c.args.right fault c.in_ok-sides.sides c.in_ok-columns.columns
    (record { ready = c.in_ok-sides.ensures.first_ready; named = c.in_ok-sides.ensures.first_named; reads = c.in_ok-sides.ensures.first })
    (record { ready = c.in_ok-sides.ensures.next_ready; named = c.in_ok-sides.ensures.next_named; reads = c.in_ok-sides.ensures.next }) c.in_ok-columns.ensures.columns why) c.write_json.ensures.why
