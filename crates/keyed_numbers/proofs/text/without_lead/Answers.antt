use Rattle.std.proofs.Common.{◌∙◌, ◌≤◌, length, arith}
use Rattle.keyed_numbers.proofs.TextLemmas.{lead}
use Rattle.keyed_numbers.proofs.text.without_lead.Goals as goal

pub returns : goal.returns
returns c =
    let h = c.trim_ascii_start.ensures.value in
    let bound : h.0 ≤ length c.args.cell.now = omega (arith, h.2) in
    h.1 ∙ lead h.0 c.args.cell.now bound h.3 h.4
