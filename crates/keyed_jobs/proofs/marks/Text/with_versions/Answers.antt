use Rattle.std.proofs.lemmas.Result.{IfOk-weaker}
use Rattle.keyed_jobs.proofs.MarkLemmas.{puts-then}
use Rattle.keyed_jobs.proofs.marks.Text.with_versions.Goals as goal

pub returns : goal.returns
returns c =
    let form = c.args.job.now.form in
    IfOk-weaker c.with_line-4.result _ _
    (λ text last. puts-then form _ _ _ _ _ c.in_ok-text.ensures
    (puts-then form _ _ _ _ _ (rw c.ours_in.ensures at c.in_ok-text-2.ensures)
    (puts-then form _ _ _ _ _ c.in_ok-text-3.ensures
    (puts-then form _ _ _ _ _ (rw c.base_in.ensures at c.in_ok-text-4.ensures)
    (puts-then form _ _ _ _ _ c.in_ok-text-5.ensures
    (puts-then form _ _ _ _ _ (rw c.theirs_in.ensures at c.in_ok-text-6.ensures) last)))))) c.with_line-4.ensures
