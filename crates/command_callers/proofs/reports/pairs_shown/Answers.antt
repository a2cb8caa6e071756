use Rattle.std.proofs.Common.{false, [], ◌∷◌, ◌∙◌, ap}
use Rattle.std.proofs.lemmas.Result.{IfOk-weaker}
use Rattle.std.specs.Prelude.{codes}
use Rattle.eob_both.specs.declared.either_or_both.EitherOrBoth.TheVariants.{Left, Both, Right}
use Rattle.keyed_reports.specs.RowChanges.{row_changes, rows_eq}
use Rattle.command_callers.proofs.reports.pairs_shown.Goals as goal

pub returns : goal.returns
returns c =
    IfOk-weaker c.row_changes.result _ _
    (λ rows shown. shown ∙ ap (row_changes rows_eq false) c.requires
    ∙ c.law_pairs.ensures ((codes "1" ∷ [], Both (codes "x" ∷ []) (codes "z" ∷ [])) ∷ (codes "2" ∷ [], Left (codes "y" ∷ [])) ∷ (codes "3" ∷ [], Right (codes "w" ∷ [])) ∷ [])) c.row_changes.ensures
