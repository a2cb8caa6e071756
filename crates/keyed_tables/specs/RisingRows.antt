-- That the keys of rows strictly increase has one proof at most, so that a struct may keep it.
use Rattle.std.specs.Prelude.{List}
use Rattle.std.specs.declared.cmp.Ordering.{Ordering}
use Rattle.std.proofs.Props.{props}
use Rattle.eob_lists.specs.Join.{Rising}

pub Rising-prop : {K V : Type 0} (cmp : K → K → Ordering) (xs : List (K × V)) → IsProp (Rising cmp xs)
unfolding Rising
Rising-prop cmp xs = Prim.hlevel props
