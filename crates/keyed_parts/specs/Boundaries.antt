-- That keys are in order has one proof at most, so that a struct may keep it.
use Rattle.std.specs.Prelude.{List}
use Rattle.std.specs.List.Sorted.{IsSorted}
use Rattle.std.specs.declared.cmp.Ordering.{Ordering}
use Rattle.std.proofs.Props.{props}

pub IsSorted-prop : {K : Type 0} (cmp : K → K → Ordering) (keys : List K) → IsProp (IsSorted cmp keys)
IsSorted-prop cmp keys = Prim.hlevel props
