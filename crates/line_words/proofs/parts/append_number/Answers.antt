use Rattle.std.proofs.Common.{rules, ◌≡◌, ◌++◌, sym, subst}
use Rattle.std.specs.Result.{OnOk}
use Rattle.std.proofs.lemmas.Fmt.{decimal_digit}
use Rattle.line_words.proofs.GrowthLemmas.{extends_same}
use Rattle.line_words.proofs.parts.append_number.Goals as goal

pub returns-then-number-lt10-clause-text : goal.returns-then-number-lt10-clause-text
returns-then-number-lt10-clause-text g c =
    subst (λ l. OnOk c.append_part.result (c.append_part.new.output.items ≡ c.args.output.now.items ++ l)) (sym (decimal_digit c.args.number c.if-number-lt10.true)) (search rules)

pub returns-in_err-digits-clause-grown : goal.returns-in_err-digits-clause-grown
returns-in_err-digits-clause-grown g c = extends_same _
