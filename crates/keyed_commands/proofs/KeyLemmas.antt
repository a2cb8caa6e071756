-- A key that is not greater than others.
use Rattle.std.proofs.Common.{◌≡◌, Option, None, Some, IfSome, option_map, refl}
use Rattle.std.specs.Cmp.{IsTotalOrder, tied_itself}
use Rattle.std.specs.Ordering.{ordering_reverse}
use Rattle.std.specs.declared.cmp.Ordering.{Ordering}
use Rattle.std.specs.declared.cmp.Ordering.TheVariants.{Less, Equal, Greater}
use Rattle.keyed_commands.specs.Keys.{IsAtMost}

not_greater : (r : Ordering) → r ≡ Equal → r ≡ Greater → ⊥
not_greater r e f = absurd (cc)

module _ {K : Type 0} (cmp : K → K → Ordering) (o : IsTotalOrder cmp) where
  pub at_most_itself : (k : K) → cmp k k ≡ Greater → ⊥
  at_most_itself k g = not_greater (cmp k k) (tied_itself o k) g

  less_not_greater : (r : Ordering) → r ≡ Less → r ≡ Greater → ⊥
  less_not_greater r e f = absurd (cc)

  -- a key that is less than another is the lesser one
  pub lesser_first : (k j : K) → cmp k j ≡ Less → IsAtMost cmp k (Some j) × IsAtMost cmp k (Some k)
  lesser_first k j l = (less_not_greater (cmp k j) l, at_most_itself k)

  reversed : (r s : Ordering) → s ≡ ordering_reverse r → (r ≡ Less → ⊥) → s ≡ Greater → ⊥
  reversed Less s e n g = n refl
  reversed Equal s e n g = absurd (cc)
  reversed Greater s e n g = absurd (cc)

  -- and else the other is
  pub lesser_else : (k j : K) → (cmp j k ≡ Less → ⊥) → IsAtMost cmp k (Some k) × IsAtMost cmp k (Some j)
  lesser_else k j n = (at_most_itself k, reversed (cmp j k) (cmp k j) (o.antisymm k j) n)

  -- and a key that stands alone is
  pub only_right : {B : Type 0} (f : B → K) (l r : Option B) → l ≡ None → IfSome r (λ key. IsAtMost cmp (f key) (option_map f l) × IsAtMost cmp (f key) (option_map f r))
  only_right f l None e = tt
  only_right f l (Some b) e = rw e (tt, at_most_itself (f b))
