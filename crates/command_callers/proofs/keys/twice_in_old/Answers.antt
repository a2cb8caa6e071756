use Rattle.std.proofs.Common.{ap, refl}
use Rattle.std.proofs.lemmas.Result.{IfErr-weaker}
use Rattle.keyed_columns.specs.Names.{repeats}
use Rattle.command_callers.proofs.KnownRepeats.{by-repeated, twice-told}
use Rattle.command_callers.proofs.KnownTables.{known_text}
use Rattle.command_callers.proofs.LiteralTexts.{with_x, with_x_twice}
use Rattle.command_callers.proofs.keys.twice_in_old.Goals as goal

pub returns : goal.returns
unfolding repeats
returns c =
    IfErr-weaker c.diff.result _ _ (λ fault why. by-repeated fault.reason _ (λ repeated is.
    let told = twice-told _ _ _ _ _ (record { key = refl; renames = refl; order = refl }) refl refl _ _ refl refl _ _ refl refl
    (known_text _ _ _ _ _ c.as_slice.ensures refl with_x_twice refl) (known_text _ _ _ _ _ c.as_slice-2.ensures refl with_x refl) fault repeated is why in
    (ap (λ file. file.now) told.0, told.1))) c.diff.ensures.why
