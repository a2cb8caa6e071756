use Rattle.std.proofs.Common.{◌∙◌}
use Rattle.keyed_numbers.proofs.TextLemmas.{trail}
use Rattle.keyed_numbers.proofs.text.without_trail.Goals as goal

pub returns : goal.returns
returns c =
    let h = c.trim_ascii_end.ensures.value in
    h.1 ∙ trail h.0 c.args.cell.now h.3 h.4 h.5
