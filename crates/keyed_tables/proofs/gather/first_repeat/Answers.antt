use Rattle.std.proofs.Common.{rules, tests}
use Rattle.std.proofs.lemmas.Iterator.{YieldsList-from_slice, YieldsList-from_zip}
use Rattle.std.proofs.lemmas.Iterator.Adapters.{YieldsList-from_skip}
use Rattle.std.proofs.lemmas.Iterator.Consumers.{YieldsList-at}
use Rattle.std.proofs.lemmas.Iterator.Search.{find_from_yields_List}
use Rattle.keyed_tables.proofs.gather.first_repeat.Goals as goal

pub returns : goal.returns
returns c =
    let rows = c.args.rows.now in
    let seconds = YieldsList-at c.zip.ensures.second (YieldsList-from_skip 1 (YieldsList-at c.skip.ensures.source (YieldsList-from_slice rows c.iter-2.ensures.rest)) c.skip.ensures.count) in
    find_from_yields_List _ c.find.new.self _ c.find.result c.find.ensures.ran (YieldsList-from_zip (YieldsList-at c.zip.ensures.first (YieldsList-from_slice rows c.iter.ensures.rest)) seconds)
    (λ x b q k. search (rules, tests))
