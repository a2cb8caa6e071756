use Rattle.std.proofs.Common.{◌∙◌, ap, inl, inr, refl, subst, sym}
use Rattle.keyed_files.specs.Explained.{ExplainsRows}
use Rattle.keyed_files.proofs.ReadingLemmas.{same-err}
use Rattle.keyed_jobs.specs.Written.{IsIo}
use Rattle.keyed_jobs.proofs.UnreadLemmas.{told-of}
use Rattle.keyed_commands.specs.UnansweredLookup.{GoesOn}
use Rattle.keyed_commands.proofs.UnansweredLemmas.{memory-apart}
use Rattle.keyed_commands.proofs.UnansweredLookupLemmas.{goes-and, goes-none, left-after}
use Rattle.keyed_commands.proofs.commands.lookup.write_json.Goals as goal

pub loop-init : goal.loop-init
loop-init g c = (goes-none g.R.Read.remaining c.args.left.now.source.value, refl)

pub loop-preserved : goal.loop-preserved
loop-preserved g c = (
  goes-and g.R.Read.remaining c.args.left.now.source.value c.loop.left.source.value c.read_part.new.source c.loop.invariant.0
      (subst (λ source. GoesOn g.R.Read.remaining source c.read_part.new.source) c.deref_mut.ensures.value
      ((rw c.in_ok-part.ensures.value at c.read_part.ensures.goes_on) c.if-part.false)),
  c.loop.invariant.1,
)

pub returns-in_err-part-clause-why : goal.returns-in_err-part-clause-why
returns-in_err-part-clause-why g c =
    same-err c.from_residual.result c.in_err-part.field-0.0 _ c.from_residual.ensures.1
    (left-after g.R.Read.remaining c.args.left.now c.loop.left c.in_err-part.field-0.0 c.loop.invariant.1 c.loop.invariant.0
    (inr (inr (
      c.in_err-part.ensures.file,
      subst (λ source. ExplainsRows g.R.Read.remaining source c.in_err-part.field-0.0.reason) c.deref_mut.ensures.value
          (told-of (ExplainsRows g.R.Read.remaining c.deref_mut.result.now) c.read_part.result c.in_err-part.field-0.0 c.in_err-part.ensures.why c.read_part.ensures.why),
    ))))

pub returns-in_err-bytes-clause-why : goal.returns-in_err-bytes-clause-why
returns-in_err-bytes-clause-why g c =
    same-err c.from_residual-in_err-bytes.result c.in_err-bytes.field-0.0 _ c.from_residual-in_err-bytes.ensures.1
    (inr (inl (memory-apart _ c.in_err-bytes.ensures.why.2, inl (c.in_err-bytes.ensures.file ∙ c.loop.invariant.1))))

pub returns-in_err-at-clause-why : goal.returns-in_err-at-clause-why
returns-in_err-at-clause-why g c =
    same-err c.from_residual-in_err-at.result c.in_err-at.field-0.0 _ c.from_residual-in_err-at.ensures.1
    (inl (ap (λ file. file.now) c.in_err-at.ensures.file, subst IsIo (sym c.in_err-at.ensures.why.2) tt))

pub returns-in_err-at-2-clause-why : goal.returns-in_err-at-2-clause-why
returns-in_err-at-2-clause-why g c =
    same-err c.from_residual-in_err-at-2.result c.in_err-at-2.field-0.0 _ c.from_residual-in_err-at-2.ensures.1
    (inl (ap (λ file. file.now) c.in_err-at-2.ensures.file, subst IsIo (sym c.in_err-at-2.ensures.why.2) tt))
