-- What a container gives when it is walked to its end.
use Rattle.std.specs.Prelude.{◌≡◌, Bool, true, List, [], Option}
use Rattle.std.specs.Iterator.Runs.{EachRunFrom, YieldsInOrder}
use Rattle.std.specs.List.{IsDistinct}
use Rattle.std.specs.List.Sorted.{IsStrictlySortedBy}
use Rattle.std.specs.declared.cmp.Ordering.{Ordering}
use Rattle.std.proofs.Common.{ap, ◌∙◌}

module _ {S A : Type 0} (steps : S → Option A → S → Type 0) where
  -- a walk from s that went on to its end gave xs
  abbrev pub GivesList : S → List A → Type 0
  GivesList s xs = EachRunFrom steps s (λ p. p.whole ≡ true → p.items ≡ xs)

  -- so does a walk that gives in order what it has left, where this is xs
  pub gives_list : (left : S → List A) (s : S) (xs : List A) → left s ≡ xs → YieldsInOrder steps left
      → GivesList s xs
  gives_list left s xs e gives p t from whole = (gives p t).4 whole ∙ ap left from ∙ e

-- no keys are distinct, and they strictly increase
pub no_key_twice : {K : Type 0} (eq : K → K → Bool) → IsDistinct eq []
unfolding IsDistinct
no_key_twice eq = tt

pub none_rise : {K : Type 0} (cmp : K → K → Ordering) → IsStrictlySortedBy cmp []
unfolding IsStrictlySortedBy
none_rise cmp = tt
