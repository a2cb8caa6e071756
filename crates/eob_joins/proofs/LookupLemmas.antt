-- A run of a look-up join, read back to a run of its source.
use Rattle.std.proofs.Common.{◌≡◌, ◌∙◌, Bool, true, false, List, [], ◌∷◌, map, length, Option, Some, None, refl, sym, ap, ap₂, subst}
use Rattle.std.proofs.iter.runs.Made.{run, took}
use Rattle.std.proofs.lemmas.List.{length-map}
use Rattle.std.specs.Prelude.{option_copied}
use Rattle.std.specs.Borrow.{Bor}
use Rattle.std.specs.Iterator.{DrainsIf}
use Rattle.std.specs.Iterator.Runs.{SomeRun, EachRunFrom}
use Rattle.eob_joins.specs.declared.lookup.LookupJoin.{LookupJoin}
use Rattle.eob_joins.specs.Lookup.{IsLookupRun, lookup_steps, shown_lookup, with_found}

module _ {I K A B M : Type 0} (finds : M → K → Option B) (firsts : I → Option (K × A) → I → Type 0) where
  -- the source gave xs, which stand in the rows zs
  abbrev Parts : List (K × A × Option (Bor B)) → Bool → LookupJoin I M → Type 0
  Parts zs b w = (xs : List (K × A)) × DrainsIf firsts (b ≡ true) w.lefts xs × (map shown_lookup zs ≡ map (with_found (finds w.right.now)) xs)

  parts : (zs : List (K × A × Option (Bor B))) (b : Bool) (w : LookupJoin I M) → DrainsIf (lookup_steps finds firsts) (b ≡ true) w zs → Parts zs b w
  parts [] b w k = ([], (k.0.lefts, ap (λ v. v.lefts) k.1, λ e. ((k.2 e).0.lefts, (k.2 e).1.0)), refl)
  parts (z ∷ zs) b w k =
      let j = k.1.0 in
      let step = k.1.1 in
      let rest = parts zs b j (k.0, k.1.2, k.2) in (
        (z.0, z.1) ∷ rest.0,
        (rest.1.0, (j.lefts, step.0, rest.1.1), rest.1.2),
        ap₂ (λ x xs. x ∷ xs) (ap (λ m. (z.0, z.1, m)) step.2)
            (rest.2 ∙ ap (λ r. map (with_found (finds r.now)) rest.0) step.1),
      )

  -- after each run stands one of the source
  pub lookup_runs : (w : LookupJoin I M) (s : I) → w.lefts ≡ s → EachRunFrom (lookup_steps finds firsts) w (λ p. SomeRun firsts s (IsLookupRun (finds w.right.now) p))
  lookup_runs w s e p _ from =
      let h = subst (Parts p.items p.whole) from (parts p.items p.whole p.from (took p)) in
      let long : length p.items ≡ length h.0 = sym (length-map p.items shown_lookup) ∙ ap length h.2 ∙ length-map h.0 (with_found (finds w.right.now)) in (
        run firsts s h.0 p.whole (subst (λ t. DrainsIf firsts (p.whole ≡ true) t h.0) e h.1),
        refl,
        (p.long ∙ long, (λ q. q), h.2),
      )
