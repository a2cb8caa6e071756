use Rattle.std.proofs.lemmas.Result.{IfErr-weaker, IfOk-weaker}
use Rattle.std.proofs.Common.{inl, inr}
use Rattle.keyed_files.proofs.ReadingLemmas.{same-err}
use Rattle.keyed_commands.specs.Unanswered.{files_of}
use Rattle.keyed_commands.proofs.UnansweredLemmas.{apart-of}
use Rattle.keyed_commands.proofs.commands.row_diff.diff_row_files.Goals as goal

pub returns-clause-answer : goal.returns-clause-answer
returns-clause-answer g c =
    IfOk-weaker c.at.result _ _
    (λ answer is. record {
      old = c.in_ok-before.before.items;
      new = c.in_ok-after.after.items;
      old_read = c.in_ok-before.ensures.cells;
      new_read = c.in_ok-after.ensures.cells;
      answers = rw is at c.answer_rows-answer.ensures.answer;
    }) c.at.ensures.value

pub returns-in_err-before-clause-why : goal.returns-in_err-before-clause-why
returns-in_err-before-clause-why g c =
    same-err c.from_residual.result c.in_err-before.field-0.0 _ c.from_residual.ensures.1
    (inr (inl (c.in_err-before.ensures.file, c.in_err-before.ensures.why)))

pub returns-in_err-after-clause-why : goal.returns-in_err-after-clause-why
returns-in_err-after-clause-why g c =
    same-err c.from_residual-in_err-after.result c.in_err-after.field-0.0 _ c.from_residual-in_err-after.ensures.1
    (inr (inr (c.in_err-after.ensures.file, c.in_err-after.ensures.why)))

pub returns-clause-why : goal.returns-clause-why
returns-clause-why g c =
    IfErr-weaker c.at.result _ _ (λ fault apart. inl apart)
    (apart-of c.at.result c.answer_rows-answer.result (files_of c.args.versions.now) c.read_cells-2.new.table.file (inr (inl c.in_ok-after.ensures.named)) c.at.ensures.file c.at.ensures.why c.answer_rows-answer.ensures.why)
