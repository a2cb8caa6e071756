-- That a byte may stand between cells has one proof at most, so that a struct may keep it.
use Rattle.std.specs.Prelude.{ℕ}
use Rattle.std.proofs.Props.{props}
use Rattle.keyed_text.specs.Texts.{PartsCells}

pub PartsCells-prop : (byte : ℕ) → IsProp (PartsCells byte)
PartsCells-prop byte = Prim.hlevel props
