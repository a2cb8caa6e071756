use Rattle.std.proofs.Common.{◌≡◌, ◌∙◌, ◌++◌, [], ◌∷◌, ap, refl, subst₂}
use Rattle.std.proofs.lemmas.Result.{IfOk-weaker}
use Rattle.std.specs.Prelude.{codes}
use Rattle.keyed_columns.specs.ColumnNames.{AreColumns}
use Rattle.keyed_columns.specs.Names.{repeats}
use Rattle.command_callers.proofs.columns.columns_of_one.Goals as goal

pub returns-clause-header : goal.returns-clause-header
unfolding repeats
returns-clause-header c =
    let key : c.push.new.self ≡ codes "id" ∷ [] = c.in_ok-push.ensures.pushed ∙ ap (λ key. key ++ codes "id" ∷ []) c.new-key.ensures in
    IfOk-weaker c.new.result _ _ (λ columns are. (c.law_puts_back.ensures (codes "id" ∷ []) (codes "a" ∷ codes "id" ∷ []) columns
    (subst₂ (λ key names. AreColumns key (names ∷ []) columns) key c.in_ok-names.ensures are) refl).0) c.new.ensures.columns

pub returns-clause-row : goal.returns-clause-row
unfolding repeats
returns-clause-row c =
    let key : c.push.new.self ≡ codes "id" ∷ [] = c.in_ok-push.ensures.pushed ∙ ap (λ key. key ++ codes "id" ∷ []) c.new-key.ensures in
    IfOk-weaker c.new.result _ _ (λ columns are. (c.law_puts_back.ensures (codes "id" ∷ []) (codes "a" ∷ codes "id" ∷ []) columns
    (subst₂ (λ key names. AreColumns key (names ∷ []) columns) key c.in_ok-names.ensures are) refl).1 (codes "x" ∷ codes "1" ∷ []) refl) c.new.ensures.columns
