use Rattle.keyed_text.proofs.StyleLemmas.{style-none}
use Rattle.keyed_text.proofs.style_notes.StyleNotes.style.Goals as goal

pub returns : goal.returns
returns c = rw (c.quotes.ensures, c.line_end.ensures) (style-none c.args.self.now)
