-- The lesser of two keys that are lent.
use Rattle.std.proofs.Common.{◌≡◌, ◌∙◌, ◌⊎◌, Option, None, Some, IfSome, inl, inr, option_map, refl, sym, ap, subst}
use Rattle.std.specs.Prelude.{◌↔◌, IsNone, is_some}
use Rattle.std.specs.declared.cmp.Ordering.{Ordering}
use Rattle.keyed_commands.specs.Keys.{IsAtMost}
use Rattle.keyed_commands.specs.SortedParts.{IsLesser}

module _ {A K : Type 0} (f : A → K) (cmp : K → K → Ordering) where
  some_map : (x : Option A) → is_some (option_map f x) ≡ is_some x
  some_map None = refl
  some_map (Some a) = refl

  least_map : (l r : Option K) (x : Option A) → IfSome x (λ a. IsAtMost cmp (f a) l × IsAtMost cmp (f a) r)
      → IfSome (option_map f x) (λ k. IsAtMost cmp k l × IsAtMost cmp k r)
  least_map l r None h = tt
  least_map l r (Some a) h = h

  lesser_map : (l r x : Option A) → (x ≡ l) ⊎ (x ≡ r) → IsNone x ↔ (IsNone l × IsNone r)
      → IfSome x (λ a. IsAtMost cmp (f a) (option_map f l) × IsAtMost cmp (f a) (option_map f r))
      → IsLesser cmp (option_map f l) (option_map f r) (option_map f x)
  lesser_map l r x one none least = record {
    is_one = elim one [ inl e ↦ inl (ap (option_map f) e) | inr e ↦ inr (ap (option_map f) e) ];
    none = (
      (λ h. let both = none.0 (sym (some_map x) ∙ h) in (some_map l ∙ both.0, some_map r ∙ both.1)),
      (λ h. some_map x ∙ none.1 (sym (some_map l) ∙ h.0, sym (some_map r) ∙ h.1)),
    );
    least = least_map (option_map f l) (option_map f r) x least;
  }

  -- the lesser of what two keys are, where the lesser of them is copied
  pub lesser_copied : (l r x : Option A) (left right copy : Option K) → copy ≡ option_map f x → option_map f l ≡ left → option_map f r ≡ right
      → (x ≡ l) ⊎ (x ≡ r) → IsNone x ↔ (IsNone l × IsNone r)
      → IfSome x (λ a. IsAtMost cmp (f a) (option_map f l) × IsAtMost cmp (f a) (option_map f r)) → IsLesser cmp left right copy
  lesser_copied l r x left right copy c a b one none least =
      subst (IsLesser cmp left right) (sym c)
      (subst (λ y. IsLesser cmp left y (option_map f x)) b (subst (λ y. IsLesser cmp y (option_map f r) (option_map f x)) a (lesser_map l r x one none least)))
