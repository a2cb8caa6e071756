use Rattle.std.proofs.Common.{◌∙◌, ◌==◌, ap, length, subst, subst₂}
use Rattle.std.specs.Prelude.{is_none}
use Rattle.eob_joins.specs.Tables.{IsKeptOfJoin}
use Rattle.keyed_tables.specs.Arranged.{noted}
use Rattle.keyed_jobs.specs.Answers.{key_cmp}
use Rattle.keyed_jobs.specs.Rejected.{IsChangesText, applied_where_fits, rejected_at}
use Rattle.keyed_commands.specs.PartlyAnswers.{beside}
use Rattle.keyed_commands.proofs.commands.partly.partly_in.Goals as goal

pub returns : goal.returns
returns c =
    let job = c.args.job.now in
    let made = c.in_ok-made.ensures in
    let parted = c.in_ok-parted.parted in
    let table = c.in_ok-table.table in record {
      rows = parted.rows.items;
      made = table;
      rejected = parted.rejected.items;
      applied = subst₂ (λ old changes. IsKeptOfJoin key_cmp applied_where_fits old changes parted.rows.items) made.old made.changes c.in_ok-parted.ensures.rows;
      table = c.in_ok-table.ensures;
      others = subst₂ (λ old changes. IsKeptOfJoin key_cmp rejected_at old changes parted.rejected.items) made.old made.changes c.in_ok-parted.ensures.rejected;
      answer = c.beside-answer.ensures ∙ ap (λ whole. beside whole table) (c.are_none-whole.ensures ∙ ap (λ l. length l == 0) c.deref.ensures.value);
      text = subst (λ changes. IsChangesText c.args.how.now job.columns.now (noted job.order) (is_none job.row_order.files) changes c.in_ok-rejected.rejected.items)
          c.in_ok-given.ensures c.in_ok-rejected.ensures;
    }
