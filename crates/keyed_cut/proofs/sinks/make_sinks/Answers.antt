use Rattle.std.proofs.Common.{◌∙◌, ◌+◌, ap, length, refl, rules}
use Rattle.std.proofs.lemmas.List.{length_push}
use Rattle.keyed_cut.specs.Partitioned.{key_cmp}
use Rattle.keyed_cut.proofs.CountLemmas.{counted-none, none-more}
use Rattle.keyed_cut.proofs.sinks.make_sinks.Goals as goal

pub loop-place-preserved : goal.loop-place-preserved
loop-place-preserved g c = record {
  writers = ap length c.in_ok-put-3.ensures ∙ length_push _ _ ∙ ap (λ n. n + 1) c.loop-place.invariant.writers;
  counts = ap length c.in_ok-put-4.ensures ∙ length_push _ _ ∙ ap (λ n. n + 1) c.loop-place.invariant.counts;
  none = none-more _ _ _ c.loop-place.invariant.none refl c.in_ok-put-4.ensures;
}

pub returns-clause-counts : goal.returns-clause-counts
returns-clause-counts g c = counted-none key_cmp c.args.bounds.now.keys.items _ (search rules) c.loop-place.invariant.none
