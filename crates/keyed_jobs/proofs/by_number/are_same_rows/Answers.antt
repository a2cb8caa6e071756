use Rattle.std.proofs.Common.{◌≡◌, ◌∙◌, arith, length, rules}
use Rattle.std.proofs.lemmas.Grind.{common_steps}
use Rattle.keyed_jobs.specs.ByNumber.{same_row}
use Rattle.keyed_jobs.proofs.ByNumberLemmas.{each_pair}
use Rattle.keyed_jobs.proofs.by_number.are_same_rows.Goals as goal

pub returns-then-rows-others : goal.returns-then-rows-others
returns-then-rows-others c =
    let long : length c.args.rows.now ≡ length c.args.others.now = first_of (search rules, grind (arith, common_steps)) in
    c.has_same_rows.ensures ∙ each_pair (same_row c.args.alikes.now) c.args.rows.now c.args.others.now long
