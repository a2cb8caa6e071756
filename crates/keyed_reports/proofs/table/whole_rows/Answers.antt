use Rattle.std.proofs.Common.{subst}
use Rattle.std.specs.Prelude.{string_bytes}
use Rattle.keyed_layout.specs.Lines.{AreLinedUp}
use Rattle.keyed_reports.proofs.table.whole_rows.Goals as goal

pub returns : goal.returns
returns c = (c.in_ok-grid.grid.items, c.in_ok-grid.ensures, subst (λ lines. AreLinedUp lines (string_bytes c.in_ok-text.text)) c.deref.ensures.value c.in_ok-text.ensures)
