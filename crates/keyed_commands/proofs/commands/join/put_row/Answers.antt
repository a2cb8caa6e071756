use Rattle.keyed_commands.proofs.JoinLemmas.{alike_in, sides_put}
use Rattle.keyed_commands.proofs.commands.join.put_row.Goals as goal

pub returns : goal.returns
returns g c =
    let made = c.in_ok-sides.sides in (
      made,
      alike_in _ g.T.JoinedRow.alike _ made c.in_ok-sides.ensures.alike c.in_ok-sides.ensures.same,
      sides_put c.args.job.now.columns.now c.args.row.0 _ _ c.sides.result (g.T.JoinedRow.shows made) c.sides.ensures.first c.sides.ensures.left c.sides.ensures.right c.in_ok-put_joined.ensures,
    )
