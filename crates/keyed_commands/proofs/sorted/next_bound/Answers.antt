use Rattle.keyed_files.specs.Parts.{key_cmp}
use Rattle.keyed_commands.proofs.SortedLemmas.{lesser_copied}
use Rattle.keyed_commands.proofs.sorted.next_bound.Goals as goal

pub returns : goal.returns
returns g c =
    lesser_copied (λ key. key.now) key_cmp c.bound.result c.bound-2.result c.lesser.result _ _ c.in_ok-bound.bound c.in_ok-bound.ensures
    c.bound.ensures c.bound-2.ensures c.lesser.ensures.is_one c.lesser.ensures.none c.lesser.ensures.least
