use Rattle.std.proofs.Common.{refl}
use Rattle.std.proofs.lemmas.Result.{IfOk-weaker}
use Rattle.keyed_columns.specs.Names.{repeats}
use Rattle.command_callers.proofs.KnownLaws.{same_status}
use Rattle.command_callers.proofs.KnownTables.{known_text}
use Rattle.command_callers.proofs.LiteralTexts.{id_a}
use Rattle.command_callers.proofs.laws.compared_with_itself.Goals as goal

pub returns : goal.returns
unfolding repeats
returns c =
    IfOk-weaker c.diff.result _ _ (λ answer told. λ rows reads. same_status (told refl) c.law_text_once.ensures.table (record { key = refl; renames = refl; order = refl }) id_a rows
    (known_text _ _ _ id_a rows refl refl reads refl) refl) c.diff.ensures.csv
