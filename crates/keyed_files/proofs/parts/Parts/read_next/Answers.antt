use Rattle.std.proofs.Common.{false, inl, refl, subst, true}
use Rattle.std.specs.Box.{with_value}
use Rattle.keyed_files.specs.Reading.{GivesRecord}
use Rattle.keyed_files.proofs.PartLemmas.{fills_end, fills_put, next_fallen, step_put}
use Rattle.keyed_files.specs.Explained.{SameCount}
use Rattle.keyed_files.proofs.ReadingLemmas.{same-err}
use Rattle.keyed_files.proofs.parts.Parts.read_next.Goals as goal

pub returns-in_ok-put-in-Some-clause-fills : goal.returns-in_ok-put-in-Some-clause-fills
returns-in_ok-put-in-Some-clause-fills g c =
    let gives = subst (λ s. GivesRecord g.R.Read.remaining s c.read_row.new.self true) c.deref_mut.ensures.value (rw c.in-Some.is at c.in_ok-row.ensures.gives) in
    let read = record c.args.self.now { source = with_value c.args.self.now.source c.read_row.new.self } in
    fills_put g.R.Read.remaining c.args.self.now read c.put.new.self c.in-Some.row c.put.ensures.same refl refl c.requires c.requires refl refl
    (subst (λ source. SameCount source c.read_row.new.self) c.deref_mut.ensures.value c.in_ok-row.ensures.rule) gives
    (rw c.in-Some.is at c.in_ok-row.ensures.picked) c.in_ok-put-in-Some.ensures.rises c.in_ok-put-in-Some.ensures.last c.in_ok-put-in-Some.ensures.puts

pub returns-in_ok-put-in-Some-clause-step : goal.returns-in_ok-put-in-Some-clause-step
returns-in_ok-put-in-Some-clause-step g c = step_put c.args.self.now c.put.new.self c.in-Some.row c.in_ok-put-in-Some.ensures.puts

pub returns-in-None-clause-fills : goal.returns-in-None-clause-fills
returns-in-None-clause-fills g c =
    let gives = subst (λ s. GivesRecord g.R.Read.remaining s c.read_row.new.self false) c.deref_mut.ensures.value (rw c.in-None.is at c.in_ok-row.ensures.gives) in
    fills_end g.R.Read.remaining c.args.self.now _ refl refl c.requires c.read_row.new.self refl refl
    (subst (λ source. SameCount source c.read_row.new.self) c.deref_mut.ensures.value c.in_ok-row.ensures.rule) refl refl gives

pub returns-in-None-clause-step : goal.returns-in-None-clause-step
returns-in-None-clause-step g c = inl refl

pub returns-in_err-row-clause-why : goal.returns-in_err-row-clause-why
returns-in_err-row-clause-why g c =
    same-err c.from_residual.result c.in_err-row.field-0.0 _ c.from_residual.ensures.1
    (inl (
      c.read_row.new.self,
      subst (λ source. SameCount source c.read_row.new.self) c.deref_mut.ensures.value c.in_err-row.ensures.rule,
      c.in_err-row.ensures.why,
      (λ of. subst (λ source. GivesRecord g.R.Read.remaining source c.read_row.new.self true) c.deref_mut.ensures.value (c.in_err-row.ensures.gave of)),
    ))

pub returns-in_err-put-in-Some-clause-why : goal.returns-in_err-put-in-Some-clause-why
returns-in_err-put-in-Some-clause-why g c =
    let gives = subst (λ s. GivesRecord g.R.Read.remaining s c.read_row.new.self true) c.deref_mut.ensures.value (rw c.in-Some.is at c.in_ok-row.ensures.gives) in
    same-err c.from_residual-in_err-put-in-Some.result c.in_err-put-in-Some.field-0.0 _ c.from_residual-in_err-put-in-Some.ensures.1
    (next_fallen g.R.Read.remaining c.args.self.now c.read_row.new.self c.in-Some.row c.in_err-put-in-Some.field-0.0 gives (rw c.in-Some.is at c.in_ok-row.ensures.picked)
    (subst (λ source. SameCount source c.read_row.new.self) c.deref_mut.ensures.value c.in_ok-row.ensures.rule) c.in_err-put-in-Some.ensures.why)
