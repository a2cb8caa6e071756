use Rattle.std.proofs.Common.{◌≡◌, ◌∙◌, [], ◌∷◌, None, Some, ap, arith, option_map, refl, rules}
use Rattle.std.specs.Map.{lookup}
use Rattle.std.proofs.lemmas.Grind.{common_steps}
use Rattle.std.proofs.lemmas.List.{map-append}
use Rattle.indexmap.proofs.CallerLemmas.{insert_entry-new}
use Rattle.keyed_commands.specs.LookupAnswers.{held_row, held_rows, key_eq}
use Rattle.keyed_commands.specs.declared.commands.lookup.Found.{Found}
use Rattle.keyed_faults.specs.declared.fault.Reason.TheVariants.{NoMemory}
use Rattle.keyed_files.proofs.ReadingLemmas.{same-err}
use Rattle.keyed_commands.proofs.UnansweredLookupLemmas.{line-held}
use Rattle.keyed_commands.proofs.commands.lookup.put_unique.Goals as goal

pub returns-clause-put : goal.returns-clause-put
returns-clause-put c =
    let map = c.args.found.now in
    let row = c.args.row in
    let found : Found = record { line = row.line; cells = row.cells } in
    let none : lookup (key_eq row.key) map.entries ≡ None = first_of (search rules, grind (arith, common_steps)) in
    ap held_rows (c.in_ok-insert.ensures.entries ∙ insert_entry-new key_eq map row.key found none) ∙ map-append held_row map.entries ((row.key, found) ∷ [])

pub returns-in_err-insert-clause-why : goal.returns-in_err-insert-clause-why
returns-in_err-insert-clause-why c = same-err c.from_residual.result NoMemory _ c.from_residual.ensures.1 tt

pub returns-in-Some-clause-why : goal.returns-in-Some-clause-why
returns-in-Some-clause-why c =
    let map = c.args.found.now in
    let row = c.args.row in
    let found : lookup (key_eq row.key) map.entries ≡ Some c.in-Some.earlier.now = first_of (search rules, grind (arith, common_steps)) in
    (refl, refl, line-held map.entries row.key ∙ ap (option_map (λ held. held.line)) found)
