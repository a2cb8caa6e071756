use Rattle.std.proofs.Common.{ℕ, List, ap, inl, inr, subst, sym}
use Rattle.std.specs.Borrow.{Bor}
use Rattle.keyed_files.proofs.ReadingLemmas.{same-err}
use Rattle.keyed_jobs.specs.Written.{IsIo}
use Rattle.keyed_commands.specs.UnansweredSorted.{ExplainsRisingTables}
use Rattle.keyed_commands.proofs.UnansweredLemmas.{memory-apart}
use Rattle.keyed_commands.proofs.sorted.diff_as_json.Goals as goal

pub returns-in_err-lone : goal.returns-in_err-lone
returns-in_err-lone g c =
    record {
      why = same-err c.from_residual.result c.in_err-lone.field-0.0 _ c.from_residual.ensures.1
          (inl (memory-apart _ c.in_err-lone.ensures.why.2, inr (inl c.in_err-lone.ensures.file)));
    }

pub returns-in_err-told : goal.returns-in_err-told
returns-in_err-told g c =
    record {
      why = same-err c.from_residual-in_err-told.result c.in_err-told.field-0.0 _ c.from_residual-in_err-told.ensures.1
          (inl (memory-apart _ c.in_err-told.ensures.why.2, inr (inl c.in_err-told.ensures.file)));
    }

pub returns-in_err-at : goal.returns-in_err-at
returns-in_err-at g c =
    record {
      why = same-err c.from_residual-in_err-at.result c.in_err-at.field-0.0 _ c.from_residual-in_err-at.ensures.1
          (inr (inl (ap (λ (file : Bor (List ℕ)). file.now) c.in_err-at.ensures.file, subst IsIo (sym c.in_err-at.ensures.why.2) tt)));
    }

pub returns-in_err-finished : goal.returns-in_err-finished
returns-in_err-finished g c =
    let told = c.in_err-finished.field-0.0 in
    record {
      why = same-err c.from_residual-in_err-finished.result told _ c.from_residual-in_err-finished.ensures.1
          (subst (λ columns. ExplainsRisingTables g.R.Read.remaining columns columns c.args.versions told) c.sorted.ensures.columns (c.in_err-finished.ensures.why tt));
    }
