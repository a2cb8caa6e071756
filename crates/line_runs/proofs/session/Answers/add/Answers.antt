use Rattle.std.proofs.Common.{rules, ◌≡◌, sym, subst}
use Rattle.line_words.specs.Growth.{Extends}
use Rattle.line_words.proofs.GrowthLemmas.{extends_same, take_extended}
use Rattle.line_runs.proofs.session.Answers.add.Goals as goal

pub returns-in-Err-clause-grown : goal.returns-in-Err-clause-grown
returns-in-Err-clause-grown g c =
    let old = c.args.self.now.unwritten.items in
    let cut : c.truncate.new.self.items ≡ old = search (rules, take_extended) in
    subst (λ l. Extends old l) (sym cut) (extends_same old)
