use Rattle.walk_lines.proofs.TableLemmas.{rising_refs, rising_shown}
use Rattle.walk_lines.proofs.line.joins.rises.Goals as goal

pub returns : goal.returns
returns c = (
  (λ t. rising_shown c.args.table.now (c.is_rising.ensures.0 t)),
  (λ r. c.is_rising.ensures.1 (rising_refs c.args.table.now r)),
)
