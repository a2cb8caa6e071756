use Rattle.std.proofs.Common.{◌∙◌}
use Rattle.keyed_columns.proofs.ColumnLemmas.{kept-same}
use Rattle.keyed_columns.proofs.columns.columns_picked.Goals as goal

pub returns-clause-kept : goal.returns-clause-kept
returns-clause-kept c = record {
  first = c.in_ok-given.given.first;
  others = c.in_ok-given.given.others;
  given = c.in_ok-given.ensures.names;
  known = c.in_ok-check_known.ensures.known;
  among = record {
    key = c.in_ok-kept.ensures.key;
    rest = c.in_ok-kept.ensures.rest ∙ kept-same c.args.keeps _ _ c.in_ok-names.ensures c.args.columns.rest;
    order = c.in_ok-kept.ensures.order;
    plain = c.in_ok-kept.ensures.plain;
  };
}
