-- How many boundaries are not above a key.
use Rattle.std.proofs.Common.{◌≡◌, ◌∙◌, ◌==◌, ℕ, zero, suc, ◌≤◌, Bool, true, false, List, [], ◌∷◌, length, All, cond, slice_index_or, arith, refl, sym, ap}
use Rattle.std.specs.Prelude.{count_by}
use Rattle.std.specs.Cmp.{IsTotalOrder}
use Rattle.std.specs.List.{AllWithin}
use Rattle.std.specs.List.Sorted.{IsPartitionPoint, IsPartitionedBy, IsSorted}
use Rattle.std.specs.Map.{keys_of}
use Rattle.std.specs.Ordering.{is_le, ordering_index, ordering_reverse}
use Rattle.std.specs.declared.cmp.Ordering.{Ordering}
use Rattle.std.specs.declared.cmp.Ordering.TheVariants.{Less, Equal, Greater}
use Rattle.std.proofs.lemmas.List.Elements.{All-nil, All-cons, All-head, All-tail, filter_passes}
use Rattle.std.proofs.lemmas.List.Sorted.{searchable_from_sorted}
use Rattle.std.proofs.lemmas.List.Sums.{sum_by-cons}
use Rattle.std.proofs.lemmas.Bool.Decides.{nat_tests}
use Rattle.keyed_parts.specs.Parts.{part_in, rows_in, PartOrderLaw, PartsBelowLaw}

by_test : {G : Type 0} (t : Bool) → (t ≡ true → G) → (t ≡ false → G) → G
by_test true f g = f refl
by_test false f g = g refl

by_order : {G : Type 0} (r : Ordering) → (r ≡ Less → G) → (r ≡ Equal → G) → (r ≡ Greater → G) → G
by_order Less f g h = f refl
by_order Equal f g h = g refl
by_order Greater f g h = h refl

-- what is at most `Equal` is, where what is not less than it is
le_by_index : (r s : Ordering) → ordering_index r ≤ ordering_index s → is_le s ≡ true → is_le r ≡ true
le_by_index Less s h e = refl
le_by_index Equal s h e = refl
le_by_index Greater Less h e = absurd (omega (arith, h))
le_by_index Greater Equal h e = absurd (omega (arith, h))
le_by_index Greater Greater h e = absurd (cc)

module _ {X : Type 0} (p : X → Bool) where
  count_yes : (x : X) (xs : List X) → p x ≡ true → count_by p (x ∷ xs) ≡ suc (count_by p xs)
  count_yes x xs e = sum_by-cons (λ y. cond (p y) 1 0) x xs ∙ rw e (omega arith)

  count_no : (x : X) (xs : List X) → p x ≡ false → count_by p (x ∷ xs) ≡ count_by p xs
  count_no x xs e = sum_by-cons (λ y. cond (p y) 1 0) x xs ∙ rw e (omega arith)

  -- where all before a place pass and none from it on, so many pass
  count_point : (xs : List X) (i : ℕ) → i ≤ length xs → AllWithin (λ y. p y ≡ true) xs 0 i → AllWithin (λ y. p y ≡ false) xs i (length xs) → i ≡ count_by p xs
  count_point [] zero b t f = refl
  count_point [] (suc i) b t f = absurd (omega (arith, b))
  count_point (x ∷ xs) zero b t f =
      let rest = count_point xs zero (omega arith) (λ k d l u. absurd (omega (arith, u))) (λ k d l u. f (suc k) d (omega arith) (omega (arith, u))) in
      rest ∙ sym (count_no x xs (f 0 x (omega arith) (omega arith)))
  count_point (x ∷ xs) (suc i) b t f =
      let rest = count_point xs i (omega (arith, b)) (λ k d l u. t (suc k) d (omega arith) (omega (arith, u))) (λ k d l u. f (suc k) d (omega (arith, l)) (omega (arith, u))) in
      ap suc rest ∙ sym (count_yes x xs (t 0 x (omega arith) (omega arith)))

-- where all that pass one test pass another, no more pass it
count_more : {X : Type 0} (p q : X → Bool) → ((x : X) → p x ≡ true → q x ≡ true) → (xs : List X) → count_by p xs ≤ count_by q xs
count_more p q h [] = omega arith
count_more p q h (x ∷ xs) =
    let rest = count_more p q h xs in
    by_test (p x)
    (λ e. omega (arith, rest, count_yes p x xs e, count_yes q x xs (h x e)))
    (λ e. by_test (q x)
    (λ f. omega (arith, rest, count_no p x xs e, count_yes q x xs f))
    (λ f. omega (arith, rest, count_no p x xs e, count_no q x xs f)))

keys_all : {K V : Type 0} (P : K → Type 0) (xs : List (K × V)) → All (λ x. P x.0) xs → All P (keys_of xs)
keys_all P [] h = All-nil P
keys_all P (x ∷ xs) h = All-cons P x.0 (keys_of xs) (All-head (λ y. P y.0) x xs h) (keys_all P xs (All-tail (λ y. P y.0) x xs h))

all_more : {X : Type 0} (P Q : X → Type 0) → ((x : X) → P x → Q x) → (xs : List X) → All P xs → All Q xs
all_more P Q f xs h k d b = f (slice_index_or xs k d) (h k d b)

is_number : (m n : ℕ) → (m == n) ≡ true → m ≡ n
is_number m n e = grind (arith, nat_tests)

module _ {K : Type 0} (cmp : K → K → Ordering) (o : IsTotalOrder cmp) where
  -- a boundary that is not above one key is not above one that is not less
  le_up : (b j k : K) → is_le (cmp b k) ≡ true → (cmp j k ≡ Less → ⊥) → is_le (cmp b j) ≡ true
  le_up b j k e n = by_order (cmp k j)
      (λ l. by_order (cmp b k)
      (λ f. rw (o.trans b k j f l) refl)
      (λ f. rw (o.congr b k j f ∙ l) refl)
      (λ f. absurd (greater f)))
      (λ l. rw (back b k j l) e)
      (λ g. absurd (n (o.antisymm j k ∙ ap ordering_reverse g)))
    where
      greater : cmp b k ≡ Greater → ⊥
      greater f = let t : is_le Greater ≡ true = sym (ap is_le f) ∙ e in absurd (cc)

      back : (b k j : K) → cmp k j ≡ Equal → cmp b j ≡ cmp b k
      back b k j l = o.antisymm b j ∙ ap ordering_reverse (sym (o.congr k j b l)) ∙ sym (o.antisymm b k)

  pub part_order : PartOrderLaw cmp
  part_order bounds j k h = by_order (cmp j k)
      (λ l. l)
      (λ e. absurd (not_more (λ l. differ (sym e ∙ l))))
      (λ g. absurd (not_more (λ l. differ_more (sym g ∙ l))))
    where
      differ : Equal ≡ Less → ⊥
      differ e = absurd (cc)

      differ_more : Greater ≡ Less → ⊥
      differ_more e = absurd (cc)

      not_more : (cmp j k ≡ Less → ⊥) → ⊥
      not_more n =
          let more = count_more (λ b. is_le (cmp b k)) (λ b. is_le (cmp b j)) (λ b e. le_up b j k e n) bounds in
          absurd (omega (arith, more, h))

  pub parts_below : (V W : Type 0) → PartsBelowLaw cmp V W
  parts_below V W bounds rows others i j h = keys_all (λ k. All (λ l. cmp k l ≡ Less) (keys_of (rows_in cmp bounds j others))) (rows_in cmp bounds i rows)
      (all_more (λ x. (part_in cmp bounds x.0 == i) ≡ true) (λ x. All (λ l. cmp x.0 l ≡ Less) (keys_of (rows_in cmp bounds j others)))
      (λ x e. keys_all (λ l. cmp x.0 l ≡ Less) (rows_in cmp bounds j others)
      (all_more (λ y. (part_in cmp bounds y.0 == j) ≡ true) (λ y. cmp x.0 y.0 ≡ Less) (λ y f. below x.0 y.0 e f)
      (rows_in cmp bounds j others) (filter_passes (λ y. part_in cmp bounds y.0 == j) others)))
      (rows_in cmp bounds i rows) (filter_passes (λ x. part_in cmp bounds x.0 == i) rows))
    where
      below : (k l : K) → (part_in cmp bounds k == i) ≡ true → (part_in cmp bounds l == j) ≡ true → cmp k l ≡ Less
      below k l e f = part_order bounds k l (omega (arith, h, is_number (part_in cmp bounds k) i e, is_number (part_in cmp bounds l) j f))

  -- boundaries in order are parted by each key
  pub parted : (bounds : List K) (key : K) → IsSorted cmp bounds → IsPartitionedBy (λ b. is_le (cmp b key)) bounds
  parted bounds key s i j d h b e =
      let up = searchable_from_sorted o (λ x. x) bounds key s i j d h b in
      le_by_index (cmp (slice_index_or bounds i d) key) (cmp (slice_index_or bounds j d) key) up e

  pub point_is_part : (bounds : List K) (key : K) (i : ℕ) → i ≤ length bounds
      → IsPartitionPoint (λ b. is_le (cmp b key) ≡ true) (λ b. is_le (cmp b key) ≡ false) bounds i → i ≡ part_in cmp bounds key
  point_is_part bounds key i b p = count_point (λ x. is_le (cmp x key)) bounds i b p.0 p.1
