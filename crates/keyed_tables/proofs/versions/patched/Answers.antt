use Rattle.keyed_tables.proofs.versions.patched.Goals as goal

pub returns : goal.returns
returns g c = c.apply.ensures.kept
