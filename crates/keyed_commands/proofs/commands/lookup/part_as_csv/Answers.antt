use Rattle.std.proofs.Common.{◌≡◌, ◌∙◌, ap, map, subst}
use Rattle.std.specs.Map.{lookup}
use Rattle.eob_joins.specs.Lookup.{shown_lookup}
use Rattle.keyed_requests.specs.FormBytes.{delimiter_of}
use Rattle.keyed_files.specs.Writing.{PutsRows, quoted_first}
use Rattle.keyed_files.proofs.WritingLemmas.{wrote-more}
use Rattle.keyed_commands.specs.LookupAnswers.{found_under, key_eq, lookup_rows, shown_rows}
use Rattle.keyed_commands.proofs.LookupLemmas.{rows_shown}
use Rattle.keyed_commands.proofs.commands.lookup.part_as_csv.Goals as goal

pub returns : goal.returns
returns c pending w =
    let work = c.args.work.now in
    let columns = work.columns.now in
    let rows = lookup_rows columns work.kind (found_under work.found.entries) c.args.rows.items in
    let is : shown_rows columns work.kind (map shown_lookup c.in_ok-rows.rows.items) ≡ rows =
    ap (shown_rows columns work.kind) c.in_ok-rows.ensures ∙ rows_shown columns work.kind (λ key. lookup (key_eq key) work.found.entries) c.args.rows.items in
    let puts = subst (PutsRows c.args.written c.put_rows.new.written) is c.in_ok-put_rows.ensures in
    c.in_ok-given.ensures ∙ ap (quoted_first (delimiter_of work.form)) (c.in_ok-bytes.ensures work.form _ (wrote-more work.form _ _ pending rows w puts))
