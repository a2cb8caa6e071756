use Rattle.std.proofs.Common.{◌≡◌, ◌++◌, map}
use Rattle.std.specs.Prelude.{MatchOption}
use Rattle.keyed_text.specs.declared.style.Style.{Style}
use Rattle.keyed_faults.specs.declared.fault.Fault.{Fault}
use Rattle.keyed_commands.specs.OverlayAnswers.{AreLayers, IsNotedFirst}
use Rattle.keyed_commands.specs.UnansweredOverlay.{AreReady, ExplainsLayers}
use Rattle.keyed_commands.proofs.commands.overlay.open_all.Given as goal

abbrev pub invariant-loop-stream : goal.invariant-loop-stream
invariant-loop-stream g l = record {
  layers : (more : _) → AreLayers g.R.Read.remaining l.settings.form l.key l.stream-iterator.rest.items more
      → AreLayers g.R.Read.remaining l.settings.form l.settings.key l.fn.tables.items (l.opened.items ++ more);
  noted : MatchOption l.first_style
      ((style : Style) → IsNotedFirst g.R.Read.remaining l.settings.form l.stream-iterator.rest.items style → IsNotedFirst g.R.Read.remaining l.settings.form l.fn.tables.items style)
      (IsNotedFirst g.R.Read.remaining l.settings.form l.fn.tables.items);
  files : map (λ table. table.file) l.opened.items ++ map (λ stream. stream.file) l.stream-iterator.rest.items ≡ map (λ stream. stream.file) l.fn.tables.items;
  ready : AreReady l.stream-iterator.rest.items → AreReady l.fn.tables.items;
  why : (fault : Fault) → ExplainsLayers g.R.Read.remaining l.settings.form l.key l.stream-iterator.rest.items fault
      → ExplainsLayers g.R.Read.remaining l.settings.form l.settings.key l.fn.tables.items fault;
}
