use Rattle.std.proofs.Common.{◌∙◌, ap, inl, inr, subst, sym}
use Rattle.std.specs.Io.KnownBytes.{Appends}
use Rattle.keyed_commands.specs.LookupAnswers.{ReadsPart, as_rows}
use Rattle.keyed_files.specs.Explained.{ExplainsRows}
use Rattle.keyed_files.proofs.ReadingLemmas.{same-err}
use Rattle.keyed_jobs.specs.Written.{IsIo}
use Rattle.keyed_jobs.proofs.UnreadLemmas.{told-of}
use Rattle.keyed_commands.specs.UnansweredLookup.{GoesOn}
use Rattle.keyed_commands.proofs.UnansweredLemmas.{memory-apart}
use Rattle.keyed_commands.proofs.commands.lookup.write_part.Goals as goal

pub returns-clause-text : goal.returns-clause-text
returns-clause-text g c pending w =
    let part = c.in_ok-part.part in
    let read = rw c.in_ok-part.ensures.value at c.read_part.ensures.rows in
    let text = (rw c.in_ok-bytes.ensures.value at c.part_as_csv.ensures) pending w in
    let appends = rw c.in_ok-at.ensures.value at c.write_all.ensures.bytes in (
      part.rows.items,
      subst (λ source. ReadsPart g.R.Read.remaining part.is_last c.args.places.now source c.read_part.new.source (as_rows part.rows.items)) c.deref_mut.ensures.value read,
      subst (Appends (g.W.Write.contents c.args.output.now) (g.W.Write.contents c.write_all.new.self)) (c.deref.ensures.value ∙ text) appends,
    )

pub returns-clause-goes_on : goal.returns-clause-goes_on
returns-clause-goes_on g c more =
    subst (λ source. GoesOn g.R.Read.remaining source c.read_part.new.source) c.deref_mut.ensures.value ((rw c.in_ok-part.ensures.value at c.read_part.ensures.goes_on) more)

pub returns-in_err-part-clause-why : goal.returns-in_err-part-clause-why
returns-in_err-part-clause-why g c =
    same-err c.from_residual.result c.in_err-part.field-0.0 _ c.from_residual.ensures.1
    (inr (inr (
      c.in_err-part.ensures.file,
      subst (λ source. ExplainsRows g.R.Read.remaining source c.in_err-part.field-0.0.reason) c.deref_mut.ensures.value
          (told-of (ExplainsRows g.R.Read.remaining c.deref_mut.result.now) c.read_part.result c.in_err-part.field-0.0 c.in_err-part.ensures.why c.read_part.ensures.why),
    )))

pub returns-in_err-bytes-clause-why : goal.returns-in_err-bytes-clause-why
returns-in_err-bytes-clause-why g c =
    same-err c.from_residual-in_err-bytes.result c.in_err-bytes.field-0.0 _ c.from_residual-in_err-bytes.ensures.1
    (inr (inl (memory-apart _ c.in_err-bytes.ensures.why.2, inl c.in_err-bytes.ensures.file)))

pub returns-in_err-at-clause-why : goal.returns-in_err-at-clause-why
returns-in_err-at-clause-why g c =
    same-err c.from_residual-in_err-at.result c.in_err-at.field-0.0 _ c.from_residual-in_err-at.ensures.1
    (inl (ap (λ file. file.now) c.in_err-at.ensures.file, subst IsIo (sym c.in_err-at.ensures.why.2) tt))
