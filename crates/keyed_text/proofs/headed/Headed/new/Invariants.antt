use Rattle.std.proofs.Common.{◌≡◌, ◌++◌, ℕ, List, false, true}
use Rattle.std.specs.Io.KnownBytes.{Keeps}
use Rattle.keyed_text.specs.TextStyles.{headed_left, style_of, style_with}
use Rattle.keyed_text.proofs.headed.Headed.new.Given as goal

abbrev pub invariant-loop : goal.invariant-loop
invariant-loop g l = record {
  goes_on : l.headed.is_ended ≡ false;
  unread : l.headed.passed ≡ 0;
  kept : Keeps (g.R.Read.remaining l.fn.reader) (headed_left g.R.Read.remaining l.headed);
  skipped : l.fn.skipped ≡ 0 → l.notes.skipped ≡ 0;
  noted : l.fn.skipped ≡ 0 → (rest : List ℕ) → style_with l.notes rest ≡ style_of l.fn.marks (l.headed.head.items ++ rest) true;
}
