use Rattle.std.proofs.Common.{chars, refl, subst, sym, ap, ◌∙◌}
use Rattle.std.specs.Str.{IsUtf8}
use Rattle.std.proofs.Output.{has_written_of_eq}
use Rattle.keyed_faults.proofs.ShownLemmas.{encodes_chars}
use mathlib.Core.Logic.{inl}
use Rattle.keyed_faults.specs.ShownCells.{begins_quoted}
use Rattle.keyed_faults.proofs.shown.show_cell.Goals as goal

pub returns-then-is_bare : goal.returns-then-is_bare
returns-then-is_bare g c plain ok =
    let read = c.in-Ok.ensures.cases in
    let whole = encodes_chars c.in-Ok.text.now (subst IsUtf8 (sym read.0) read.1) in (
      chars c.in-Ok.text.now,
      has_written_of_eq _ _ _ _ _ (sym whole) (c.write_str.ensures.writes plain ok),
      inl (whole ∙ read.0, c.if-is_bare.ensures.moves refl, ap begins_quoted (sym read.0) ∙ c.if-is_bare.ensures.quote refl),
    )
