use Rattle.std.proofs.Common.{◌≡◌, map, take}
use Rattle.keyed_commands.proofs.commands.overlay.headers_of.Given as goal

abbrev pub invariant-loop-table : goal.invariant-loop-table
invariant-loop-table g l = map (λ header. header.now) l.headers.items ≡ map (λ table. table.source.value.header.names) (take l.table-index l.opened)
