use Rattle.std.proofs.Common.{◌∙◌, ap}
use Rattle.keyed_requests.specs.FormBytes.{delimiter_of}
use Rattle.keyed_files.specs.Writing.{quoted_first}
use Rattle.keyed_files.proofs.WritingLemmas.{wrote-more}
use Rattle.keyed_commands.specs.JoinAnswers.{heading_of_join, join_rows}
use Rattle.keyed_commands.proofs.commands.join.write_joined.Goals as goal

pub returns : goal.returns
returns g c =
    let form = c.args.job.now.form in
    let heading = heading_of_join form c.args.header.now in
    let puts = c.in_ok-put_rows.ensures in
    let wrote = wrote-more form _ _ heading (join_rows c.args.job.now.columns.now g.T.JoinedRow.shows puts.0) c.in_ok-written.ensures puts.2 in (
      puts.0,
      (c.in_ok-rows.rows.items, c.in_ok-rows.ensures.same, c.in_ok-rows.ensures.order, puts.1),
      c.in_ok-given.ensures ∙ ap (quoted_first (delimiter_of form)) (c.in_ok-text.ensures form _ wrote),
    )
