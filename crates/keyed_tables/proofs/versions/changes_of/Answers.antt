use Rattle.keyed_tables.proofs.versions.changes_of.Goals as goal

pub returns : goal.returns
returns g c = c.diff.ensures.kept
