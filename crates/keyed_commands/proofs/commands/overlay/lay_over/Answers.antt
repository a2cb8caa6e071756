use Rattle.std.proofs.Common.{◌∷◌, [], option_map, subst, sym}
use Rattle.std.specs.Prelude.{unwrap_or}
use Rattle.keyed_commands.specs.OverlayAnswers.{AreLaidOver}
use Rattle.keyed_commands.proofs.OverlayLemmas.{laid_alone}
use Rattle.keyed_commands.proofs.commands.overlay.lay_over.Goals as goal

pub returns-in-None : goal.returns-in-None
returns-in-None c =
    let above = c.args.above.pairs.items in
    subst (λ below. AreLaidOver c.args.layer (unwrap_or (option_map (λ table. table.pairs.items) below) []) (above ∷ []) above) (sym c.in-None.is)
    (laid_alone c.args.layer above c.args.above.rises)
