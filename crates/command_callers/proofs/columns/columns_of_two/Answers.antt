use Rattle.std.proofs.Common.{◌≡◌, ◌∙◌, ◌++◌, [], ◌∷◌, ap}
use Rattle.std.proofs.lemmas.Result.{IfOk-weaker}
use Rattle.std.specs.Prelude.{codes, not}
use Rattle.csv.specs.Records.{field_at}
use Rattle.keyed_columns.specs.ColumnNames.{distinct, has_name}
use Rattle.command_callers.proofs.KnownColumns.{columns_by, id_a_b}
use Rattle.keyed_columns.specs.declared.content.Content.TheVariants.{Rows}
use Rattle.command_callers.proofs.columns.columns_of_two.Goals as goal

pub returns-clause-header : goal.returns-clause-header
unfolding distinct
returns-clause-header c =
    let key : c.push.new.self ≡ codes "id" ∷ [] = c.in_ok-push.ensures.pushed ∙ ap (λ key. key ++ codes "id" ∷ []) c.new-key.ensures in
    IfOk-weaker c.new.result _ _ (λ columns are. (c.law_places_cells.ensures (codes "id" ∷ []) id_a_b columns
    (columns_by columns key c.in_ok-first.ensures c.in_ok-next.ensures are)).0) c.new.ensures.columns

pub returns-clause-once : goal.returns-clause-once
returns-clause-once c =
    let key : c.push.new.self ≡ codes "id" ∷ [] = c.in_ok-push.ensures.pushed ∙ ap (λ key. key ++ codes "id" ∷ []) c.new-key.ensures in
    IfOk-weaker c.new.result _ _ (λ columns are. (c.law_names_once.ensures (codes "id" ∷ []) id_a_b columns
    (columns_by columns key c.in_ok-first.ensures c.in_ok-next.ensures are)).1) c.new.ensures.columns

pub returns-clause-beside : goal.returns-clause-beside
returns-clause-beside c =
    let key : c.push.new.self ≡ codes "id" ∷ [] = c.in_ok-push.ensures.pushed ∙ ap (λ key. key ++ codes "id" ∷ []) c.new-key.ensures in
    IfOk-weaker c.new.result _ _ (λ columns are.
    let known = columns_by columns key c.in_ok-first.ensures c.in_ok-next.ensures are in
    c.law_keeps_names.ensures (codes "id" ∷ []) id_a_b columns known (codes "b") ∙ ap (λ key. not (has_name key (codes "b"))) known.key) c.new.ensures.columns

pub returns-clause-of_key : goal.returns-clause-of_key
returns-clause-of_key c =
    let key : c.push.new.self ≡ codes "id" ∷ [] = c.in_ok-push.ensures.pushed ∙ ap (λ key. key ++ codes "id" ∷ []) c.new-key.ensures in
    IfOk-weaker c.new.result _ _ (λ columns are.
    let known = columns_by columns key c.in_ok-first.ensures c.in_ok-next.ensures are in
    c.law_keeps_names.ensures (codes "id" ∷ []) id_a_b columns known (codes "id") ∙ ap (λ key. not (has_name key (codes "id"))) known.key) c.new.ensures.columns

pub returns-clause-row : goal.returns-clause-row
unfolding distinct field_at
returns-clause-row c =
    let key : c.push.new.self ≡ codes "id" ∷ [] = c.in_ok-push.ensures.pushed ∙ ap (λ key. key ++ codes "id" ∷ []) c.new-key.ensures in
    IfOk-weaker c.new.result _ _ (λ columns are. (c.law_places_cells.ensures (codes "id" ∷ []) id_a_b columns
    (columns_by columns key c.in_ok-first.ensures c.in_ok-next.ensures are)).1
    Rows (codes "id" ∷ codes "b" ∷ []) (codes "1" ∷ codes "y" ∷ [])) c.new.ensures.columns
