use Rattle.keyed_tables.specs.Arranged.{noted}
use Rattle.eob_joins.specs.Marked.{merged_of}
use Rattle.std.proofs.Common.{is_none}
use Rattle.keyed_jobs.proofs.AnswerLemmas.{settled_unresolved, settled_whole}
use Rattle.keyed_commands.proofs.commands.merge.merge_by_cell.Goals as goal

pub returns-clause-whole : goal.returns-clause-whole
returns-clause-whole c n =
    let job = c.args.job.now in
    settled_whole job.form job.columns.now (noted job.order) (is_none job.row_order.files) c.args.base.pairs.items c.args.ours.pairs.items c.args.theirs.pairs.items
    (merged_of c.in_ok-parted.parted) _ c.in_ok-parted.ensures n c.in_ok-answer.ensures

pub returns-clause-conflict : goal.returns-clause-conflict
returns-clause-conflict c h =
    let job = c.args.job.now in
    settled_unresolved job.form job.columns.now (noted job.order) (is_none job.row_order.files) c.args.base.pairs.items c.args.ours.pairs.items c.args.theirs.pairs.items
    (merged_of c.in_ok-parted.parted) _ c.in_ok-parted.ensures h c.in_ok-answer.ensures
