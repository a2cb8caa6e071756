use Rattle.std.proofs.Common.{Some, [], ◌∷◌, ap, length, refl, sym, true}
use Rattle.std.specs.Prelude.{codes}
use Rattle.command_callers.proofs.reports.count_where_all_are_same.Goals as goal

pub returns : goal.returns
returns c = sym (ap length (c.law_one_row_each.ensures (λ row other. true) (Some (codes "x" ∷ [])) (Some (codes "z" ∷ [])) refl))
