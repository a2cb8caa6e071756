-- The block of a key's cells, wherever it is kept.
use Rattle.std.specs.Prelude.{ℕ, List, take}
use Rattle.keyed_rows.specs.Layout.{code}
use Rattle.keyed_rows.specs.declared.key.Kept.{Kept}
use Rattle.keyed_rows.specs.declared.key.Kept.TheVariants.{Long, Short}

-- the first bytes of those that the key has room for, or those of its cells
abbrev pub block_in : Kept → List ℕ
block_in (Short count bytes) = take count bytes
block_in (Long cells) = code cells
