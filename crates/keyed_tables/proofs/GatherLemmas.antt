-- Rows of which no two have the same key, each as a group of its own.
use Rattle.std.proofs.Common.{◌≡◌, List, [], ◌∷◌, map, refl, subst}
use Rattle.std.specs.Prelude.{⊤}
use Rattle.std.specs.Cmp.{IsTotalOrder}
use Rattle.std.specs.declared.cmp.Ordering.{Ordering}
use Rattle.std.specs.declared.cmp.Ordering.TheVariants.{Less}
use Rattle.eob_lists.specs.Join.{Rising}
use Rattle.eob_lists.proofs.MergeLemmas.{Up, rising, up}
use Rattle.eob_joins.specs.Groups.{AreGroups, add_pair, key_runs}
use Rattle.eob_joins.proofs.GroupLemmas.{AreGroups-groups, ordered_law}
use Rattle.keyed_tables.specs.Gathered.{AloneLaw, alone}

module _ {K : Type 0} (cmp : K → K → Ordering) where
  alone_up : {V : Type 0} (P : K → Type 0) (rows : List (K × V)) → Up cmp P (map alone rows) → Up cmp P rows
  alone_up P [] h = tt
  alone_up P (row ∷ rows) h = (h.0, alone_up (λ k. cmp row.0 k ≡ Less) rows h.1)

  add_alone : {V : Type 0} (row : K × V) (rows : List (K × V)) → Up cmp (λ k. cmp row.0 k ≡ Less) rows → add_pair cmp row (map alone rows) ≡ alone row ∷ map alone rows
  add_alone row [] h = refl
  add_alone row (next ∷ rows) h = rw h.0 refl

  runs_alone : {V : Type 0} (P : K → Type 0) (rows : List (K × V)) → Up cmp P rows → key_runs cmp rows ≡ map alone rows
  runs_alone P [] h = refl
  runs_alone P (row ∷ rows) h = rw (runs_alone (λ k. cmp row.0 k ≡ Less) rows h.1) (add_alone row rows h.1)

  pub alone_law : IsTotalOrder cmp → (V : Type 0) → AloneLaw cmp V
  alone_law o V rows h =
      let raised : Up cmp (λ k. ⊤) rows = alone_up (λ k. ⊤) rows (up cmp (map alone rows) h) in
      let groups = AreGroups-groups cmp o rows (ordered_law cmp o V rows (rising cmp (λ k. ⊤) rows raised)) in
      subst (AreGroups cmp rows) (runs_alone (λ k. ⊤) rows raised) groups
