use Rattle.std.proofs.Common.{◌∙◌, [], sym}
use Rattle.keyed_files.specs.JoinedRows.{join_heading}
use Rattle.keyed_files.proofs.WritingLemmas.{wrote-more}
use Rattle.keyed_commands.proofs.JoinLemmas.{heading_then}
use Rattle.keyed_commands.proofs.commands.lookup.begin_lookup.Goals as goal

pub returns-in_ok-put_join_heading : goal.returns-in_ok-put_join_heading
returns-in_ok-put_join_heading c =
    let rows = join_heading c.args.header.now in
    heading_then c.args.work.now.form _ rows _ (sym c.writes_heading-has_heading.ensures ∙ c.if-has_heading.true) (wrote-more c.args.work.now.form _ _ [] rows c.new-written.ensures c.in_ok-put_join_heading.ensures)
