use Rattle.std.proofs.Common.{◌∙◌, ◌<◌, ◌∷◌, ◌++◌, [], ap, arith, length}
use Rattle.csv.specs.Records.{fields_of}
use Rattle.keyed_columns.proofs.KeyLemmas.{give-more}
use Rattle.keyed_columns.proofs.key_record.names_of.Goals as goal

pub loop-place-preserved : goal.loop-place-preserved
loop-place-preserved c =
    let cells = fields_of c.args.row.now in
    let so_far = c.loop-place.invariant in
    let lt : c.loop-place.place < length cells = omega (arith, c.len-place-end.ensures, c.loop-place-test.true) in
    record {
      first = c.in_ok-put-2.ensures.once so_far.first;
      others = c.in_ok-put.ensures.once so_far.others;
      given = give-more cells c.loop-place.place _ _ _ _ c.cell_of.result.now _ _ lt c.cell_of.ensures so_far.given c.in_ok-column.ensures.names
          (c.in_ok-put-2.ensures.names ∙ ap (λ name. c.loop-place.first.names ++ (name ∷ [])) c.deref.ensures.value)
          (c.in_ok-put.ensures.names ∙ ap (λ name. c.loop-place.others.names ++ (name ∷ [])) c.other.ensures);
    }
