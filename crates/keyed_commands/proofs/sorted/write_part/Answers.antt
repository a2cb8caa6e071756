use Rattle.std.proofs.Common.{◌∙◌, inl, inr, refl, subst}
use Rattle.std.specs.Io.KnownBytes.{Appends}
use Rattle.std.proofs.lemmas.Result.{err_from_is_err_and}
use Rattle.keyed_faults.specs.Outside.{IsApart}
use Rattle.keyed_files.proofs.ReadingLemmas.{same-err}
use Rattle.keyed_jobs.specs.Written.{PutsSome}
use Rattle.keyed_jobs.proofs.UnreadLemmas.{told-of}
use Rattle.keyed_commands.proofs.UnansweredSortedLemmas.{kept-file}
use Rattle.keyed_commands.proofs.sorted.write_part.Goals as goal

pub returns-clause-whole : goal.returns-clause-whole
returns-clause-whole g c by_key = record {
  part = c.in_ok-part.part;
  reads = c.in_ok-part.ensures.reads;
  text = c.in_ok-answer.answer.bytes.items;
  says = (rw c.in_ok-answer.ensures.value at c.answer.ensures.says) by_key;
  puts = subst (Appends (g.W.Write.contents c.args.output.now) (g.W.Write.contents c.put_on_output.new.output)) c.deref.ensures.value c.in_ok-put_on_output.ensures.put;
  last = refl;
}

pub returns-in_err-put_on_output-clause-begun : goal.returns-in_err-put_on_output-clause-begun
returns-in_err-put_on_output-clause-begun g c =
    let failed = c.in_err-put_on_output.ensures.begun in
    let p = err_from_is_err_and c.from_residual-in_err-put_on_output.result c.from_residual-in_err-put_on_output.ensures.1 in
    rw (p.1, p.2) (λ by_key. inr (
      c.in_ok-answer.answer.bytes.items,
      record {
        new = c.next_part.new.tables;
        part = c.in_ok-part.part;
        reads = c.in_ok-part.ensures.reads;
        status = c.in_ok-answer.answer.status;
        says = (rw c.in_ok-answer.ensures.value at c.answer.ensures.says) by_key;
      },
      subst (PutsSome (g.W.Write.contents c.args.output.now) (g.W.Write.contents c.put_on_output.new.output)) c.deref.ensures.value failed.1,
      λ other. absurd (other failed.0),
    ))

pub returns-in_err-part-clause-why : goal.returns-in_err-part-clause-why
returns-in_err-part-clause-why g c =
    same-err c.from_residual.result c.in_err-part.field-0.0 _ c.from_residual.ensures.1
    (inr (inr c.in_err-part.ensures.why))

pub returns-in_err-answer-clause-why : goal.returns-in_err-answer-clause-why
returns-in_err-answer-clause-why g c =
    let reads = c.in_ok-part.ensures.reads in
    let kept = kept-file reads.bound reads.read.right c.next_part.new.tables.right reads.takes.right reads.takes.takes_right in
    same-err c.from_residual-in_err-answer.result c.in_err-answer.field-0.0 _ c.from_residual-in_err-answer.ensures.1
    (inl (
      told-of IsApart c.answer.result c.in_err-answer.field-0.0 c.in_err-answer.ensures.why c.answer.ensures.why,
      inr (inl (c.in_err-answer.ensures.file ∙ kept ∙ reads.fills_right.named)),
    ))

pub returns-in_err-put_on_output-clause-why : goal.returns-in_err-put_on_output-clause-why
returns-in_err-put_on_output-clause-why g c =
    same-err c.from_residual-in_err-put_on_output.result c.in_err-put_on_output.field-0.0 _ c.from_residual-in_err-put_on_output.ensures.1
    (inr (inl c.in_err-put_on_output.ensures.why))
