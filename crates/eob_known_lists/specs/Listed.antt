-- The lists of std's iterators and of the walks, as the impls of the traits cite them.
use Rattle.std.specs.Prelude.{refl, ◌≡◌, ℕ, ◌+◌, ◌-◌, ◌≤◌, true, List, [], ◌++◌, length, slice_get, IfSome, map, reverse, Option}
use Rattle.std.specs.Prelude.{Some, None}
use Rattle.std.specs.Option.{option_to_list}
use Rattle.std.specs.List.{range_with_len}
use Rattle.std.specs.Borrow.{Bor}
use Rattle.std.specs.Iterator.{Count}
use Rattle.std.specs.Iterator.Runs.{Run}
use Rattle.std.specs.declared.vec.IntoIter.{IntoIter}
use Rattle.std.specs.declared.slice.Iter.{Iter}
use Rattle.std.specs.declared.ops.Range.{Range}
use Rattle.std.specs.declared.iter.Once.{Once}
use Rattle.std.specs.declared.iter.Rev.{Rev}
use Rattle.std.specs.declared.collections.vec_deque.Iter.{Iter as DequeIter}
use Rattle.std.specs.Iterator.Adapters.{once_item, rev_source}
use Rattle.std.specs.Vec.Iter.{into_iter_items}
use Rattle.std.specs.VecDeque.Iter.{deque_iter_rest}
use Rattle.std.specs.Slice.Iter.{iter_rest}
use Rattle.eob_both.specs.Ends.{Ends, HasBound, IsExactly, ToCome, CountedToCome, StillToCome, SideToCome, PlaceToCome}
use Rattle.eob_both.specs.declared.iter.swap.SwapIterEitherOrBoth.{SwapIterEitherOrBoth}
use Rattle.eob_both.specs.declared.iter.chain.ChainedIterEitherOrBoth.{ChainedIterEitherOrBoth}
use Rattle.eob_both.specs.declared.iter.values.IntoIterEitherOrBoth.{IntoIterEitherOrBoth}
use Rattle.eob_both.specs.declared.either_or_both.EitherOrBoth.{EitherOrBoth}
use Rattle.eob_both.specs.declared.either_or_both.EitherOrBoth.TheVariants.{Left, Both, Right}
use Rattle.eob_both.specs.Places.{map_places}
use Rattle.eob_both.specs.Aligned.{aligned}
use Rattle.eob_both.specs.Values.{values_left, values_of}
use Rattle.eob_both.specs.Swap.{swap_left, swap_right, swap_ends}
use Rattle.eob_both.specs.Chain.{chain_left, chain_right, chain_ends}
use Rattle.eob_both.proofs.SwapLemmas.{swap_to_come}
use Rattle.eob_both.proofs.ChainLemmas.{chain_to_come}
use Rattle.eob_both.proofs.StdEnds.{vec_ends, vec_to_come, slice_ends, slice_to_come, range_ends, range_to_come, once_ends}
use Rattle.eob_both.proofs.StdEnds.{once_to_come, deque_ends, deque_to_come, rev_ends, rev_to_come, ref_to}
use Rattle.eob_both.proofs.EndsLemmas.{to_come_over, to_come_uncounted}
use Rattle.eob_lists.proofs.ShownLemmas.{shown_ends, shown_to_come}

-- the item at each place of p is the one at that place of xs, and where p ended xs has no more
abbrev pub ReadsPlaces : {S A : Type 0} {steps : S → Option A → S → Type 0} → Run steps → List A → Type 0
ReadsPlaces p xs = ((k : ℕ) → IfSome (p.at k) (λ x. slice_get xs k ≡ Some x))
    × (p.whole ≡ true → (k : ℕ) → p.len ≤ k → slice_get xs k ≡ None)

-- half of some items came from the front and half from the back, the odd one from the front
abbrev pub AreTakenInTurn : {A : Type 0} → List A → List A → Type 0
AreTakenInTurn fronts backs = (length backs ≤ length fronts) × (length fronts ≤ length backs + 1)

-- the list of a place, which is empty where the place is absent
abbrev pub listed_at : {X A : Type 0} → (X → List A) → Option X → List A
listed_at listed None = []
listed_at listed (Some x) = listed x

pub vec_comes : {X Z : Type 0} (xs : List X) (s : IntoIter X Z) → into_iter_items s ≡ xs
    → CountedToCome vec_ends (λ x. x) xs s
vec_comes xs s e = rw (← e) (vec_to_come s)

-- references are read by what they point to
abbrev pub same_ref : {X : Type 0} → Bor X → Bor X
same_ref x = ref_to x.now

pub slice_to_come_by_ref : {X : Type 0} (s : Iter X)
    → CountedToCome slice_ends same_ref (map ref_to (iter_rest s)) s
slice_to_come_by_ref s = to_come_over _ slice_ends (λ x. x.now) ref_to (iter_rest s) s (slice_to_come s)

pub deque_to_come_by_ref : {X : Type 0} (s : DequeIter X)
    → CountedToCome deque_ends same_ref (map ref_to (deque_iter_rest s)) s
deque_to_come_by_ref s = to_come_over _ deque_ends (λ x. x.now) ref_to (deque_iter_rest s) s (deque_to_come s)

pub slice_comes : {X : Type 0} (xs : List X) (s : Iter X) → iter_rest s ≡ xs
    → CountedToCome slice_ends same_ref (map ref_to xs) s
slice_comes xs s e = rw (← e)
    (to_come_over _ slice_ends (λ x. x.now) ref_to (iter_rest s) s (slice_to_come s))

pub deque_comes : {X : Type 0} (xs : List X) (s : DequeIter X) → deque_iter_rest s ≡ xs
    → CountedToCome deque_ends same_ref (map ref_to xs) s
deque_comes xs s e = rw (← e)
    (to_come_over _ deque_ends (λ x. x.now) ref_to (deque_iter_rest s) s (deque_to_come s))

pub range_comes : (x : Range ℕ) (s : Range ℕ) → s ≡ x
    → CountedToCome range_ends (λ n. n) (range_with_len x.start (x.end - x.start)) s
range_comes x s e = rw (← e) (range_to_come s)

pub once_comes : {X : Type 0} (o : Option X) (s : Once X) → once_item s ≡ o
    → CountedToCome once_ends (λ x. x) (option_to_list o) s
once_comes o s e = rw (← e) (once_to_come s)

-- a place whose value gives what its list says
pub place_comes : {X S A : Type 0} (gives : X → S → Type 0) (it : Ends S A) (view : A → A)
    (listed : X → List A) → ((x : X) (s : S) → gives x s → CountedToCome it view (listed x) s)
    → (o : Option X) → PlaceToCome gives IsExactly it view (listed_at listed o) o
place_comes gives it view listed h None = refl
place_comes gives it view listed h (Some x) = h x

-- a side that is an iterator with a list of its own
pub side_comes : {S A : Type 0} (it : Ends S A) (view : A → A) (rest : S → List A)
    → ((s : S) → CountedToCome it view (rest s) s) → (o : Option S)
    → SideToCome IsExactly it view (listed_at rest o) o
side_comes it view rest h None = refl
side_comes it view rest h (Some s) = h s

-- the list of a paired walk: those of the sides that it still asks, aligned
abbrev pub walk_lists : {S T A B : Type 0} → (S → List A) → (T → List B) → SwapIterEitherOrBoth S T
    → List (EitherOrBoth A B)
walk_lists rest rests s = aligned (listed_at rest (swap_left s)) (listed_at rests (swap_right s))

-- the paired walk of two such sides has the two lists aligned
pub walk_comes : {S T A B : Type 0} (it : Ends S A) (jt : Ends T B) (v : A → A) (w : B → B)
    (rest : S → List A) (rests : T → List B) → ((s : S) → CountedToCome it v (rest s) s)
    → ((t : T) → CountedToCome jt w (rests t) t)
    → (s : SwapIterEitherOrBoth S T) → CountedToCome (swap_ends it jt) (map_places v w)
    (walk_lists rest rests s) s
walk_comes it jt v w rest rests f g s = swap_to_come it jt v w _ _ s (side_comes it v rest f (swap_left s))
    (side_comes jt w rests g (swap_right s))

pub rev_comes : {S A : Type 0} (it : Ends S A) (view : A → A) (rest : S → List A)
    → ((s : S) → StillToCome it view (rest s) s) → (s : Rev S)
    → StillToCome (rev_ends HasBound it view) view (reverse (rest (rev_source s))) s
rev_comes it view rest h s = rev_to_come HasBound it view (rest (rev_source s)) s (h (rev_source s))

pub rev_counts : {S A : Type 0} (it : Ends S A) (view : A → A) (rest : S → List A)
    → ((s : S) → CountedToCome it view (rest s) s) → (s : Rev S)
    → CountedToCome (rev_ends IsExactly it view) view (reverse (rest (rev_source s))) s
rev_counts it view rest h s = rev_to_come IsExactly it view (rest (rev_source s)) s (h (rev_source s))

-- a side that is an iterator with a list of its own, which need not be counted
pub side_comes_bounded : {S A : Type 0} (it : Ends S A) (view : A → A) (rest : S → List A)
    → ((s : S) → StillToCome it view (rest s) s) → (o : Option S)
    → SideToCome HasBound it view (listed_at rest o) o
side_comes_bounded it view rest h None = refl
side_comes_bounded it view rest h (Some s) = h s

-- the chain of two such sides has the one list and then the other
pub chain_comes : {S A : Type 0} (it : Ends S A) (v : A → A) (rest : S → List A)
    → ((s : S) → StillToCome it v (rest s) s) → (s : ChainedIterEitherOrBoth S)
    → StillToCome (chain_ends it) v (listed_at rest (chain_left s) ++ listed_at rest (chain_right s)) s
chain_comes it v rest f s = chain_to_come it v _ _ s (side_comes_bounded it v rest f (chain_left s))
    (side_comes_bounded it v rest f (chain_right s))

-- the walk over the one or two values of a value
pub values_come : {T : Type 0} (v : EitherOrBoth T T) (s : IntoIterEitherOrBoth T)
    → values_left s ≡ values_of v → CountedToCome (shown_ends values_left) (λ x. x) (values_of v) s
values_come v s e = rw (← e) (shown_to_come values_left s)

-- a list that is counted is bounded
pub uncounted : {S A : Type 0} (it : Ends S A) (view : A → A) (rest : S → List A)
    → ((s : S) → CountedToCome it view (rest s) s) → (s : S) → StillToCome it view (rest s) s
uncounted it view rest h s = to_come_uncounted it view (rest s) s (h s)

pub uncounted_walk : {X S A : Type 0} (gives : X → S → Type 0) (it : Ends S A) (view : A → A)
    (listed : X → List A) → ((x : X) (s : S) → gives x s → CountedToCome it view (listed x) s)
    → (x : X) (s : S) → gives x s → StillToCome it view (listed x) s
uncounted_walk gives it view listed h x s e = to_come_uncounted it view (listed x) s (h x s e)

-- the list of the iterator that it became
pub at_same : {S A : Type 0} (C : Count → ℕ → Type 0) (it : Ends S A) (view : A → A) (rest : S → List A)
    → ((s : S) → ToCome C it view (rest s) s) → (x s : S) → s ≡ x → ToCome C it view (rest x) s
at_same C it view rest h x s e = rw e (h x)

pub place_as_is : {A B : Type 0} (v : A → A) (w : B → B) → ((x : A) → v x ≡ x) → ((y : B) → w y ≡ y)
    → (x : EitherOrBoth A B) → map_places v w x ≡ x
place_as_is v w f g (Left x) = rw f refl
place_as_is v w f g (Both x y) = rw (f, g) refl
place_as_is v w f g (Right y) = rw g refl

-- a place whose value gives its list, where no count is asked
pub place_comes_bounded : {X S A : Type 0} (gives : X → S → Type 0) (it : Ends S A) (view : A → A)
    (listed : X → List A) → ((x : X) (s : S) → gives x s → StillToCome it view (listed x) s) → (o : Option X)
    → PlaceToCome gives HasBound it view (listed_at listed o) o
place_comes_bounded gives it view listed h None = refl
place_comes_bounded gives it view listed h (Some x) = h x
