use Rattle.std.proofs.Common.{◌∙◌, ◌++◌, ap, false, filter, sym}
use Rattle.std.specs.Prelude.{not}
use Rattle.keyed_columns.specs.ColumnNames.{has_name}
use Rattle.keyed_columns.proofs.ColumnLemmas.{kept-same}
use Rattle.keyed_columns.proofs.new_columns.changed_names.Goals as goal

pub returns-then-each : goal.returns-then-each
returns-then-each c =
    let names = c.in_ok-names.ensures ∙ kept-same false _ c.args.gone.now c.in_ok-going.ensures c.args.changes.now in
    rw (sym c.in_ok-each.ensures ∙ c.if-each.true) names

pub returns : goal.returns
returns c =
    let beside = filter (λ name. not (has_name (c.args.old.now ++ c.args.gone.now) name)) c.args.changes.now in
    let names = c.in_ok-names-2.ensures ∙ ap (λ l. l ++ beside) (kept-same false _ c.args.gone.now c.in_ok-going.ensures c.args.old.now) in
    rw (sym c.in_ok-each.ensures ∙ c.if-each.false) names
