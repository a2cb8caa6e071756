use Rattle.std.proofs.Common.{◌≡◌, ◌∙◌, subst, sym, true}
use Rattle.csv.specs.Records.{fields_of}
use Rattle.keyed_text.specs.Streams.{GivesRow}
use Rattle.keyed_files.specs.Lines.{checked_left}
use Rattle.keyed_files.specs.declared.source.Next.TheVariants as next
use Rattle.keyed_files.proofs.ReadingLemmas.{gives-next, if-err}
use Rattle.keyed_files.proofs.source.Source.read_next.Goals.{then-found+in_ok-check_count, else-found}
use Rattle.keyed_files.proofs.source.Source.read_next.Goals as goal

pub returns-clause-gives : goal.returns-clause-gives
returns-clause-gives g c = λ was. elim c.if-found.branch [
  | then-found+in_ok-check_count w ↦
      gives-next g.R.Read.remaining c.args.self.now c.if-found.self c.in_ok-found.found was (λ _. rw w.self-is was) (rw w.self-is c.in_ok-found.ensures.gives)
  | else-found w ↦
      let none : c.in_ok-found.found ≡ true → c.if-found.self.next ≡ next.Read = λ found. absurd (cc (sym w.if-found.false ∙ found)) in
      gives-next g.R.Read.remaining c.args.self.now c.if-found.self c.in_ok-found.found was none (rw w.self-is c.in_ok-found.ensures.gives)
]

pub returns-in_err-check_count-clause-gave : goal.returns-in_err-check_count-clause-gave
returns-in_err-check_count-clause-gave g c =
    if-err c.from_residual-in_err-check_count.result _ (λ reason was to_blame.
    let reads = subst (λ found. GivesRow (checked_left g.R.Read.remaining) c.args.self.now.reader c.read_record.new.reader found (fields_of c.read_record.new.row))
    c.if-found.true c.in_ok-found.ensures.gives in
    gives-next g.R.Read.remaining c.args.self.now (record c.args.self.now { reader = c.read_record.new.reader; last = c.read_record.new.row }) true was (λ _. was) reads)
