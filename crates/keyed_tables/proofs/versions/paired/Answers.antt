use Rattle.keyed_tables.proofs.versions.paired.Goals as goal

pub returns : goal.returns
returns g c = c.in_ok-pairs.ensures.join
