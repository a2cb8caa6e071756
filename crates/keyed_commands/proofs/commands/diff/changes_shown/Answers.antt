use Rattle.std.proofs.Common.{◌∙◌, ap, length, sym}
use Rattle.keyed_jobs.specs.Answers.{key_cmp, rows_eq}
use Rattle.keyed_jobs.proofs.AnswerLemmas.{key_exact, key_total, none_same, rows_decides, same_none}
use Rattle.keyed_jobs.proofs.ComeLemmas.{comes_length, none_of}
use Rattle.keyed_commands.proofs.commands.diff.changes_shown.Goals as goal

pub returns-clause-none : goal.returns-clause-none
returns-clause-none c =
    let old = c.args.old in
    let new = c.args.new in
    let changes = c.in_ok-changes.changes.items in
    let kept = c.in_ok-changes.ensures in
    let long = comes_length _ _ _ changes c.in_ok-shown.shown.items c.in_ok-shown.ensures in (
      λ e. none_same rows_eq rows_decides key_cmp key_total key_exact old.pairs.items new.pairs.items changes old.rises new.rises kept (none_of changes (sym long ∙ e)),
      λ e. long ∙ ap length (same_none rows_eq rows_decides key_cmp key_total key_exact old.pairs.items new.pairs.items changes kept e),
    )
