use Rattle.std.proofs.Common.{sym}
use Rattle.keyed_text.proofs.StyleLemmas.{line-end-none}
use Rattle.keyed_text.proofs.style_notes.StyleNotes.line_end.Goals as goal

pub returns-in-Open : goal.returns-in-Open
returns-in-Open c = rw c.in-Open.is (sym (line-end-none c.args.self.now.marks c.args.self.now.place))
