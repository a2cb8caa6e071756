use Rattle.std.proofs.Common.{◌≡◌, ◌∙◌, None, ap, map, option_map, sym}
use Rattle.keyed_reports.specs.RowChanges.{only}
use Rattle.keyed_reports.proofs.RowLemmas.{each-not_one_come, each-not_one_gone}
use Rattle.keyed_reports.proofs.changed_rows.push_changed_or_each.Goals as goal

pub returns-in-None-only_row : goal.returns-in-None-only_row
returns-in-None-only_row c =
    let none : only (map (λ row. row.now) c.args.come.now) ≡ None = sym c.only_row-in-Some.ensures ∙ ap (option_map (λ row. row.now)) c.in-None-only_row.is in
    rw (each-not_one_come (map (λ row. row.now) c.args.gone.now) (map (λ row. row.now) c.args.come.now) none) c.push_each.ensures

pub returns-in-None : goal.returns-in-None
returns-in-None c =
    let none : only (map (λ row. row.now) c.args.gone.now) ≡ None = sym c.only_row.ensures ∙ ap (option_map (λ row. row.now)) c.in-None.is in
    rw (each-not_one_gone (map (λ row. row.now) c.args.gone.now) (map (λ row. row.now) c.args.come.now) none) c.push_each-in-None.ensures
