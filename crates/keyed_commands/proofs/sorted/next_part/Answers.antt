use Rattle.std.proofs.Common.{◌∙◌, inl, inr}
use Rattle.keyed_files.proofs.ReadingLemmas.{same-err}
use Rattle.keyed_commands.proofs.UnansweredLemmas.{memory-apart}
use Rattle.keyed_commands.proofs.UnansweredSortedLemmas.{next-untaken}
use Rattle.keyed_commands.proofs.sorted.next_part.Goals as goal

pub returns-clause-reads : goal.returns-clause-reads
returns-clause-reads g c = record {
  read = record { left = c.fill.new.self; right = c.fill-2.new.self };
  fills_left = c.in_ok-fill.ensures.fills;
  fills_right = c.in_ok-fill-2.ensures.fills;
  full_left = c.in_ok-fill.ensures.full;
  full_right = c.in_ok-fill-2.ensures.full;
  bound = c.in_ok-bound.bound;
  lesser = rw c.in_ok-bound.ensures.value at c.next_bound.ensures;
  takes = c.in_ok-part.ensures.takes;
}

pub returns-in_err-fill-clause-why : goal.returns-in_err-fill-clause-why
returns-in_err-fill-clause-why g c =
    same-err c.from_residual.result c.in_err-fill.field-0.0 _ c.from_residual.ensures.1
    (inl (c.in_err-fill.ensures.file, inl c.in_err-fill.ensures.why))

pub returns-in_err-fill-2-clause-why : goal.returns-in_err-fill-2-clause-why
returns-in_err-fill-2-clause-why g c =
    same-err c.from_residual-in_err-fill-2.result c.in_err-fill-2.field-0.0 _ c.from_residual-in_err-fill-2.ensures.1
    (inr (c.in_err-fill-2.ensures.file, inl c.in_err-fill-2.ensures.why))

pub returns-in_err-bound-clause-why : goal.returns-in_err-bound-clause-why
returns-in_err-bound-clause-why g c =
    same-err c.from_residual-in_err-bound.result c.in_err-bound.field-0.0 _ c.from_residual-in_err-bound.ensures.1
    (inl (
      c.in_err-bound.ensures.file ∙ c.in_ok-fill.ensures.fills.named,
      inr (c.fill.new.self, c.in_ok-fill.ensures.fills, inl (memory-apart _ c.in_err-bound.ensures.why.2)),
    ))

pub returns-in_err-part-clause-why : goal.returns-in_err-part-clause-why
returns-in_err-part-clause-why g c =
    same-err c.from_residual-in_err-part.result c.in_err-part.field-0.0 _ c.from_residual-in_err-part.ensures.1
    (next-untaken g.R.Read.remaining c.args.tables.now (record { left = c.fill.new.self; right = c.fill-2.new.self }) c.in_err-part.field-0.0
    c.in_ok-fill.ensures.fills c.in_ok-fill-2.ensures.fills c.in_err-part.ensures.why)
