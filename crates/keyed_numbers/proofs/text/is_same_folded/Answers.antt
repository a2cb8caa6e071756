use Rattle.keyed_numbers.proofs.TextLemmas.{folded, none_first, none_next}
use Rattle.keyed_numbers.proofs.text.is_same_folded.Goals as goal

pub returns-in-Ok-from_utf8 : goal.returns-in-Ok-from_utf8
returns-in-Ok-from_utf8 c =
    folded c.default_caseless_match_str.result c.args.cell.now c.args.other.now c.in-Ok.text.now c.in-Ok-from_utf8.next.now
    c.in-Ok.ensures.cases.0 c.in-Ok-from_utf8.ensures.cases.0 c.in-Ok.ensures.cases.1 c.in-Ok-from_utf8.ensures.cases.1
    c.default_caseless_match_str.ensures

pub returns-in-Err-from_utf8 : goal.returns-in-Err-from_utf8
returns-in-Err-from_utf8 c = none_next c.args.cell.now c.args.other.now c.in-Err-from_utf8.ensures.cases.0

pub returns-in-Err : goal.returns-in-Err
returns-in-Err c = none_first c.args.cell.now c.args.other.now c.in-Err.ensures.cases.0
