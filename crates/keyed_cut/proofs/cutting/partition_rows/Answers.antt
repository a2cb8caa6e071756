use Rattle.std.proofs.Common.{◌≡◌, ◌∙◌, arith, length, refl, subst, ap}
use Rattle.std.proofs.lemmas.List.{length-set}
use Rattle.csv.specs.Records.{fields_of}
use Rattle.keyed_files.specs.Reading.{key_in, last_record}
use Rattle.keyed_parts.specs.Parts.{part_in}
use Rattle.keyed_cut.specs.Partitioned.{PutsRowAt, fitted, key_cmp}
use Rattle.keyed_cut.proofs.CountLemmas.{counts-all, counts-and, counts-none}
use Rattle.keyed_cut.proofs.PartitionLemmas.{deals-all, deals-and, deals-none}
use Rattle.keyed_cut.proofs.cutting.partition_rows.Goals as goal

pub loop-init : goal.loop-init
loop-init g c = record {
  deals = deals-none g.F.Read.remaining g.W.Write.contents c.args.bounds.now.keys.items c.args.table.now.places c.args.sinks.now.columns
      c.args.table.now.opened.source.value c.args.sinks.now.writers.items;
  counts = counts-none g.F.Read.remaining c.args.bounds.now.keys.items c.args.table.now c.args.sinks.now.counts c.requires.counts;
  many = c.requires.many;
  parts = omega (arith, c.requires.counts.parts);
  columns = refl;
  places = refl;
}

pub returns-in-None-clause-partitioned : goal.returns-in-None-clause-partitioned
returns-in-None-clause-partitioned g c =
    deals-all g.F.Read.remaining g.W.Write.contents c.args.bounds.now.keys.items c.args.table.now.places c.args.sinks.now.columns
    c.args.table.now.opened.source.value c.loop.table.opened.source.value c.next_key.new.self.opened.source.value c.args.sinks.now.writers.items
    c.loop.sinks.writers.items c.loop.invariant.deals (rw c.in-None.is at c.in_ok-key.ensures.gives)

pub returns-in-None-clause-counted : goal.returns-in-None-clause-counted
returns-in-None-clause-counted g c =
    counts-all g.F.Read.remaining c.args.bounds.now.keys.items c.args.table.now c.loop.table.opened.source.value c.next_key.new.self.opened.source.value
    c.loop.sinks.counts c.loop.invariant.counts (rw c.in-None.is at c.in_ok-key.ensures.gives)

pub loop-preserved : goal.loop-preserved
loop-preserved g c =
    let next = c.next_key.new.self.opened.source.value in
    let key : c.in-Some.key ≡ key_in c.args.table.now.places (last_record next) =
    subst (λ places. c.in-Some.key ≡ key_in places (last_record next)) c.loop.invariant.places (rw c.in-Some.is at c.in_ok-key.ensures.key) in
    let cells : fitted c.loop.sinks.columns (fields_of c.row.result.now) ≡ fitted c.args.sinks.now.columns (last_record next) =
    rw (c.loop.invariant.columns, c.row.ensures) refl in
    let counted = c.in_ok-put_row-in-Some.ensures.counted in
    let as-many = length-set c.loop.sinks.counts.parts.items (part_in key_cmp c.args.bounds.now.keys.items c.in-Some.key) counted.count in
    record {
      deals = deals-and g.F.Read.remaining g.W.Write.contents c.args.bounds.now.keys.items c.args.table.now.places c.args.sinks.now.columns
          c.args.table.now.opened.source.value c.loop.table.opened.source.value next c.in-Some.key c.args.sinks.now.writers.items c.loop.sinks.writers.items
          c.put_row.new.self.writers.items c.loop.invariant.deals (rw c.in-Some.is at c.in_ok-key.ensures.gives) key
          (subst (λ row. PutsRowAt g.W.Write.contents (part_in key_cmp c.args.bounds.now.keys.items c.in-Some.key) row c.loop.sinks.writers.items
          c.put_row.new.self.writers.items) cells c.in_ok-put_row-in-Some.ensures.put);
      counts = counts-and g.F.Read.remaining c.args.bounds.now.keys.items c.args.table.now c.loop.table.opened.source.value next c.in-Some.key
          c.loop.sinks.counts c.put_row.new.self.counts c.loop.invariant.counts (rw c.in-Some.is at c.in_ok-key.ensures.gives) key counted;
      many = rw c.in_ok-put_row-in-Some.ensures.many c.loop.invariant.many;
      parts = omega (arith, c.loop.invariant.parts, ap length counted.others, as-many);
      columns = c.in_ok-put_row-in-Some.ensures.columns ∙ c.loop.invariant.columns;
      places = c.next_key.ensures.places ∙ c.loop.invariant.places;
    }
