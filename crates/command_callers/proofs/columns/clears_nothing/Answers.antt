use Rattle.std.proofs.Common.{◌∷◌}
use Rattle.std.specs.Prelude.{codes}
use Rattle.command_callers.proofs.columns.clears_nothing.Goals as goal

pub returns : goal.returns
returns c = c.law_shows_no_control.ensures (27 ∷ codes "[2J") c.args.text.now c.requires
