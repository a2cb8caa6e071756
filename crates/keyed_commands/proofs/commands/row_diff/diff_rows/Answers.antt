use Rattle.std.proofs.Common.{inl, inr, refl}
use Rattle.keyed_commands.proofs.RowDiffLemmas.{row-streams}
use Rattle.keyed_files.proofs.ReadingLemmas.{same-err}
use Rattle.keyed_commands.proofs.UnansweredLemmas.{rows-unanswered}
use Rattle.keyed_commands.proofs.commands.row_diff.diff_rows.Goals as goal

pub returns-clause-answer : goal.returns-clause-answer
returns-clause-answer g c =
    row-streams g.R.Read.remaining c.args.form c.args.how.format c.args.old c.args.new c.in_ok-versions.versions _ c.in_ok-answer.answer
    c.in_ok-versions.ensures.first c.in_ok-versions.ensures.next c.in_ok-check_columns.ensures.columns c.in_ok-columns.ensures.columns refl refl c.in_ok-marked.ensures.marked c.in_ok-answer.ensures.answer

pub returns-in_err-versions-clause-why : goal.returns-in_err-versions-clause-why
returns-in_err-versions-clause-why g c =
    same-err c.from_residual.result c.in_err-versions.field-0.0 _ c.from_residual.ensures.1
    (inl c.in_err-versions.ensures.why)

pub returns-in_err-check_columns-clause-why : goal.returns-in_err-check_columns-clause-why
returns-in_err-check_columns-clause-why g c =
    same-err c.from_residual-in_err-check_columns.result c.in_err-check_columns.field-0.0 _ c.from_residual-in_err-check_columns.ensures.1
    (inr (
      c.in_ok-versions.versions,
      record { ready = c.in_ok-versions.ensures.first_ready; named = c.in_ok-versions.ensures.first_named; reads = c.in_ok-versions.ensures.first },
      record { ready = c.in_ok-versions.ensures.next_ready; named = c.in_ok-versions.ensures.next_named; reads = c.in_ok-versions.ensures.next },
      inl c.in_err-check_columns.ensures.why,
    ))

pub returns-in_err-columns-clause-why : goal.returns-in_err-columns-clause-why
returns-in_err-columns-clause-why g c =
    same-err c.from_residual-in_err-columns.result c.in_err-columns.field-0.0 _ c.from_residual-in_err-columns.ensures.1
    (inr (
      c.in_ok-versions.versions,
      record { ready = c.in_ok-versions.ensures.first_ready; named = c.in_ok-versions.ensures.first_named; reads = c.in_ok-versions.ensures.first },
      record { ready = c.in_ok-versions.ensures.next_ready; named = c.in_ok-versions.ensures.next_named; reads = c.in_ok-versions.ensures.next },
      inl c.in_err-columns.ensures.why,
    ))

pub returns-in_err-marked-clause-why : goal.returns-in_err-marked-clause-why
returns-in_err-marked-clause-why g c =
    same-err c.from_residual-in_err-marked.result c.in_err-marked.field-0.0 _ c.from_residual-in_err-marked.ensures.1
    (inr (
      c.in_ok-versions.versions,
      record { ready = c.in_ok-versions.ensures.first_ready; named = c.in_ok-versions.ensures.first_named; reads = c.in_ok-versions.ensures.first },
      record { ready = c.in_ok-versions.ensures.next_ready; named = c.in_ok-versions.ensures.next_named; reads = c.in_ok-versions.ensures.next },
      inl (c.in_err-marked.ensures.why, inr (inl c.in_err-marked.ensures.file)),
    ))

pub returns-in_err-answer-clause-why : goal.returns-in_err-answer-clause-why
returns-in_err-answer-clause-why g c =
    same-err c.from_residual-in_err-answer.result c.in_err-answer.field-0.0 _ c.from_residual-in_err-answer.ensures.1
    (rows-unanswered g.R.Read.remaining c.args.form c.args.old c.args.new c.in_err-answer.field-0.0 c.in_ok-versions.versions c.in_ok-columns.columns
    (record { ready = c.in_ok-versions.ensures.first_ready; named = c.in_ok-versions.ensures.first_named; reads = c.in_ok-versions.ensures.first })
    (record { ready = c.in_ok-versions.ensures.next_ready; named = c.in_ok-versions.ensures.next_named; reads = c.in_ok-versions.ensures.next }) c.in_ok-columns.ensures.columns c.in_err-answer.ensures.why)
