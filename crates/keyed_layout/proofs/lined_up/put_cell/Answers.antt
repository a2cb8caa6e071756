use Rattle.std.proofs.Common.{◌∙◌, [], ◌∷◌, ap, map, refl, string_bytes}
use Rattle.std.proofs.lemmas.List.{map-append}
use Rattle.keyed_layout.proofs.lined_up.put_cell.Goals as goal

pub returns : goal.returns
returns c = (
  string_bytes c.in_ok-text.text ∷ [],
  (c.in_ok-text.ensures, tt),
  (ap (map string_bytes) c.in_ok-push.ensures.items ∙ map-append string_bytes c.args.line.now.cells.items (c.in_ok-text.text ∷ []), refl),
)
