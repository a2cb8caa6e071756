-- A table whose keys strictly increase, read part by part: what was taken of it, and that each part is beyond the parts before it.
use Rattle.std.proofs.Common.{◌≡◌, ◌∙◌, ◌⊎◌, ◌≤◌, ℕ, Bool, true, false, cond, List, [], ◌∷◌, ◌++◌, All, Option, None, Some, append_assoc, arith, inl, inr, length, map, refl, sym, ap, subst, if◌then◌else◌}
use Rattle.std.specs.Prelude.{⊤}
use Rattle.std.specs.Cmp.{tied_itself}
use Rattle.std.specs.List.{AllByRecursion}
use Rattle.std.specs.List.Sorted.{IsStrictlySortedBy}
use Rattle.std.specs.Map.{keys_of}
use Rattle.std.specs.Ordering.{is_le, ordering_reverse}
use Rattle.std.specs.declared.cmp.Ordering.{Ordering}
use Rattle.std.specs.declared.cmp.Ordering.TheVariants.{Less, Equal, Greater}
use Rattle.std.proofs.lemmas.List.{map-append}
use Rattle.std.proofs.lemmas.List.Elements.{All-cons, All-nil}
use Rattle.std.proofs.lemmas.List.Sorted.{IsPermutation-refl}
use Rattle.eob_lists.specs.Join.{Rising}
use Rattle.eob_lists.proofs.MergeLemmas.{Up, by_order, rising}
use Rattle.eob_joins.specs.Laws.{AreBelow}
use Rattle.keyed_rows.specs.declared.row.ReadRow.{ReadRow}
use Rattle.keyed_tables.specs.Gathered.{alone}
use Rattle.keyed_tables.proofs.GatherLemmas.{alone_law}
use Rattle.keyed_files.specs.Explained.{SameCount}
use Rattle.keyed_files.specs.Parts.{AreRead, Fills, HasParts, IsFull, RisesTo, Takes, TakesUpTo, first_within, is_within, keys_in}
use Rattle.keyed_files.specs.Reading.{parts_of, picked}
use Rattle.keyed_files.specs.declared.parts.Parts.{Parts}
use Rattle.keyed_jobs.specs.Answers.{TableRows, key_cmp}
use Rattle.keyed_jobs.specs.TablesRead.{Gathers}
use Rattle.keyed_jobs.proofs.AnswerLemmas.{key_exact, key_total}
use Rattle.keyed_commands.specs.Keys.{IsAtMost}
use Rattle.keyed_commands.specs.FirstRows.{table_of}
use Rattle.keyed_commands.specs.SortedParts.{HasTaken, IsCutAt, IsFresh, bound_of}
use Rattle.keyed_commands.proofs.TableOnceLemmas.{table_once}

abbrev Key : Type 0
Key = List (List ℕ)

-- what holds of the items of two lists
module _ {X : Type 0} (P : X → Type 0) where
  pub all_first : (xs ys : List X) → AllByRecursion P (xs ++ ys) → AllByRecursion P xs
  all_first [] ys h = tt
  all_first (x ∷ xs) ys h = (h.0, all_first xs ys h.1)

  all_after : (xs ys : List X) → AllByRecursion P (xs ++ ys) → AllByRecursion P ys
  all_after [] ys h = h
  all_after (x ∷ xs) ys h = all_after xs ys h.1

  all_both : (xs ys : List X) → AllByRecursion P xs → AllByRecursion P ys → AllByRecursion P (xs ++ ys)
  all_both [] ys g h = h
  all_both (x ∷ xs) ys g h = (g.0, all_both xs ys g.1 h)

  last_holds : (xs : List X) (x : X) → AllByRecursion P (xs ++ (x ∷ [])) → P x
  last_holds [] x h = h.0
  last_holds (y ∷ ys) x h = last_holds ys x h.1

  pub all_weaker : (Q : X → Type 0) (f : (x : X) → P x → Q x) (xs : List X) → AllByRecursion P xs → AllByRecursion Q xs
  all_weaker Q f [] h = tt
  all_weaker Q f (x ∷ xs) h = (f x h.0, all_weaker Q f xs h.1)

-- what holds of the keys of rows
keys_hold : (P : Key → Type 0) (rows : List ReadRow) → AllByRecursion P (keys_in rows) → AllByRecursion (λ row. P row.key) rows
keys_hold P [] h = tt
keys_hold P (row ∷ rows) h = (h.0, keys_hold P rows h.1)

-- the order of keys
pub at_most_less : (j b k : Key) → (key_cmp j b ≡ Greater → ⊥) → key_cmp b k ≡ Less → key_cmp j k ≡ Less
at_most_less j b k n l =
    by_order (key_cmp j b) (λ e. key_total.trans j b k e l) (λ e. subst (λ i. key_cmp i k ≡ Less) (sym (key_exact j b e)) l) (λ e. absurd (n e))

less_at_most : (j b k : Key) → key_cmp j b ≡ Less → (key_cmp b k ≡ Greater → ⊥) → key_cmp j k ≡ Less
less_at_most j b k l n =
    by_order (key_cmp b k) (λ e. key_total.trans j b k l e) (λ e. subst (λ i. key_cmp j i ≡ Less) (key_exact b k e) l) (λ e. absurd (n e))

less_not : (r : Ordering) → r ≡ Less → r ≡ Greater → ⊥
less_not r l g = absurd (cc)

pub at_most_both : (j b k : Key) → (key_cmp j b ≡ Greater → ⊥) → (key_cmp b k ≡ Greater → ⊥) → key_cmp j k ≡ Greater → ⊥
at_most_both j b k m n =
    by_order (key_cmp b k) (λ e. less_not (key_cmp j k) (at_most_less j b k m e)) (λ e. subst (λ i. key_cmp j i ≡ Greater → ⊥) (key_exact b k e) m) (λ e. absurd (n e))

within_at_most : (r : Ordering) → is_le r ≡ true → r ≡ Greater → ⊥
within_at_most Less h g = absurd (cc)
within_at_most Equal h g = absurd (cc)
within_at_most Greater h g = absurd (cc)

pub at_most_within : (r : Ordering) → (r ≡ Greater → ⊥) → is_le r ≡ true
at_most_within Less n = refl
at_most_within Equal n = refl
at_most_within Greater n = absurd (n refl)

-- a key that is not within a bound is beyond it
not_le : (r s : Ordering) → s ≡ ordering_reverse r → is_le r ≡ false → s ≡ Less
not_le Less s i e = absurd (cc)
not_le Equal s i e = absurd (cc)
not_le Greater s i e = i

beyond_bound : (key bound : Key) → is_le (key_cmp key bound) ≡ false → key_cmp bound key ≡ Less
beyond_bound key bound e = not_le (key_cmp key bound) (key_cmp bound key) (key_total.antisymm bound key) e

-- keys that strictly increase
pub sorted_first : (xs ys : List Key) → IsStrictlySortedBy key_cmp (xs ++ ys) → IsStrictlySortedBy key_cmp xs
unfolding IsStrictlySortedBy
sorted_first [] ys s = tt
sorted_first (x ∷ xs) ys s = (all_first (λ y. key_cmp x y ≡ Less) xs ys s.0, sorted_first xs ys s.1)

pub sorted_after : (xs ys : List Key) → IsStrictlySortedBy key_cmp (xs ++ ys) → IsStrictlySortedBy key_cmp ys
unfolding IsStrictlySortedBy
sorted_after [] ys s = s
sorted_after (x ∷ xs) ys s = sorted_after xs ys s.1

-- the last of some keys is less than those after it
pub last_below : (xs ys : List Key) (x : Key) → IsStrictlySortedBy key_cmp ((xs ++ (x ∷ [])) ++ ys) → AllByRecursion (λ y. key_cmp x y ≡ Less) ys
unfolding IsStrictlySortedBy
last_below [] ys x s = s.0
last_below (w ∷ xs) ys x s = last_below xs ys x s.1

itself : (r : Ordering) → r ≡ Equal → r ≡ Greater → ⊥
itself r e g = absurd (cc)

-- and none is greater than the last
up_to_last : (xs : List Key) (x : Key) → IsStrictlySortedBy key_cmp (xs ++ (x ∷ [])) → AllByRecursion (λ y. key_cmp y x ≡ Greater → ⊥) (xs ++ (x ∷ []))
unfolding IsStrictlySortedBy
up_to_last [] x s = (itself (key_cmp x x) (tied_itself key_total x), tt)
up_to_last (w ∷ xs) x s = (less_not (key_cmp w x) (last_holds (λ y. key_cmp w y ≡ Less) xs x s.0), up_to_last xs x s.1)

pub rises_sorted : (keys : List Key) (last : Option Key) → RisesTo keys last → IsStrictlySortedBy key_cmp keys
unfolding IsStrictlySortedBy
rises_sorted keys None h = subst (IsStrictlySortedBy key_cmp) (sym h) tt
rises_sorted keys (Some last) h = h.2

up_table : (P : Key → Type 0) (rows : List ReadRow) → AllByRecursion P (keys_in rows) → IsStrictlySortedBy key_cmp (keys_in rows) → Up key_cmp P (table_of rows)
unfolding IsStrictlySortedBy
up_table P [] a s = tt
up_table P (row ∷ rows) a s = (a.0, up_table (λ k. key_cmp row.key k ≡ Less) rows s.0 s.1)

all_any : (keys : List Key) → AllByRecursion (λ k. ⊤) keys
all_any [] = tt
all_any (k ∷ keys) = (tt, all_any keys)

each_one : (rows : List ReadRow) → All (λ g. length g.1 ≡ 1) (table_of rows)
each_one [] = All-nil (λ g. length g.1 ≡ 1)
each_one (row ∷ rows) = All-cons (λ g. length g.1 ≡ 1) (alone (parts_of row)) (table_of rows) refl (each_one rows)

-- rows whose keys strictly increase are gathered so
pub gathers_alone : (rows : List ReadRow) → IsStrictlySortedBy key_cmp (keys_in rows) → Gathers false rows (table_of rows)
gathers_alone rows s =
    let rises : Rising key_cmp (table_of rows) = rising key_cmp (λ k. ⊤) (table_of rows) (up_table (λ k. ⊤) rows (all_any (keys_in rows)) s) in
    ((map parts_of rows, IsPermutation-refl (map parts_of rows), alone_law key_cmp key_total (List (List ℕ)) (map parts_of rows) rises), each_one rows)

pub only_alone : (rows : List ReadRow) (table : TableRows) → IsStrictlySortedBy key_cmp (keys_in rows) → Gathers false rows table → table ≡ table_of rows
only_alone rows table s g = table_once false rows rows table (table_of rows) refl g (gathers_alone rows s)

-- rows up to a key are below those beyond it
all_below : (b : Key) (j : Key) (others : List ReadRow) → (key_cmp j b ≡ Greater → ⊥) → AllByRecursion (λ row. key_cmp b row.key ≡ Less) others
    → All (λ k. key_cmp j k ≡ Less) (keys_of (table_of others))
all_below b j [] n h = All-nil (λ k. key_cmp j k ≡ Less)
all_below b j (row ∷ others) n h =
    All-cons (λ k. key_cmp j k ≡ Less) row.key (keys_of (table_of others)) (at_most_less j b row.key n h.0) (all_below b j others n h.1)

pub tables_below : (b : Key) (rows others : List ReadRow) → AllByRecursion (λ row. key_cmp row.key b ≡ Greater → ⊥) rows
    → AllByRecursion (λ row. key_cmp b row.key ≡ Less) others → AreBelow key_cmp (keys_of (table_of rows)) (keys_of (table_of others))
tables_below b [] others g h = All-nil (λ j. All (λ k. key_cmp j k ≡ Less) (keys_of (table_of others)))
tables_below b (row ∷ rows) others g h =
    All-cons (λ j. All (λ k. key_cmp j k ≡ Less) (keys_of (table_of others))) row.key (keys_of (table_of rows))
    (all_below b row.key others g.0 h) (tables_below b rows others g.1 h)

same_some : {X : Type 0} {x y : X} → Some x ≡ Some y → x ≡ y
same_some e = cc

-- a test and its opposite
by_bool : {G : Type 0} (t : Bool) → (t ≡ true → G) → (t ≡ false → G) → G
by_bool true f g = f refl
by_bool false f g = g refl

module _ {R : Type 0} (rem : R → Option (List ℕ)) where
  -- no row was taken
  pub taken_none : (start : Parts R) → IsFresh start → HasTaken rem start start []
  taken_none start rises = record { named = refl; places = refl; rule = (refl, refl); rises = rises; has = λ d c text given h. h }

  -- others are read
  pub taken_filled : (start old read : Parts R) (taken : List ReadRow) → HasTaken rem start old taken → Fills rem old read → HasTaken rem start read taken
  taken_filled start old read taken h f = record {
    named = f.named ∙ h.named;
    places = f.places ∙ h.places;
    rule = (f.rule.0 ∙ h.rule.0, f.rule.1 ∙ h.rule.1);
    rises = f.rises taken h.rises;
    has = λ d c text given before. f.has d c text given taken (h.has d c text given before);
  }

  -- more are taken
  module _ (bound : Option Key) (start read new : Parts R) (taken rows : List ReadRow) (h : HasTaken rem start read taken) (t : Takes bound read new rows) where
    regrouped : (taken ++ rows) ++ new.waiting.items ≡ taken ++ read.waiting.items
    regrouped = append_assoc taken rows new.waiting.items ∙ ap (λ l. taken ++ l) (sym t.waiting)

    pub taken_more : HasTaken rem start new (taken ++ rows)
    taken_more = record {
      named = ap (λ (p : Parts R). p.file) t.same ∙ h.named;
      places = ap (λ (p : Parts R). p.places) t.same ∙ h.places;
      rule = subst (λ (p : Parts R). SameCount start.source.value p.source.value) (sym t.same) h.rule;
      rises = subst (λ l. RisesTo (keys_in l) new.last) (sym regrouped)
          (subst (RisesTo (keys_in (taken ++ read.waiting.items))) (sym (ap (λ (p : Parts R). p.last) t.same)) h.rises);
      has = λ d c text given before.
          let parts : HasParts rem d c text given taken read = h.has d c text given before in
          record {
            records = parts.records;
            read = subst (λ (p : Parts R). AreRead rem p.is_ended d c text (given ++ parts.records) p.source.value) (sym t.same) parts.read;
            rows = ap (map parts_of) regrouped ∙ parts.rows ∙ ap (λ q. map (picked q) parts.records) (sym (ap (λ (p : Parts R). p.places) t.same));
          };
    }

  -- the key of the last row that is read
  pub last_key : (keys : List Key) (last : Option Key) (l : Key) → last ≡ Some l → RisesTo keys last → (before : List Key) × (keys ≡ before ++ (l ∷ []))
  last_key keys None l e h = absurd (cc)
  last_key keys (Some last) l e h = (h.0, h.1 ∙ ap (λ x. h.0 ++ (x ∷ [])) (same_some e))

  module _ (start old read : Parts R) (taken : List ReadRow) (h : HasTaken rem start old taken) (f : Fills rem old read) where
    more_keys : keys_in (taken ++ read.waiting.items) ≡ keys_in (taken ++ old.waiting.items) ++ keys_in f.more
    more_keys =
        ap (λ l. keys_in (taken ++ l)) f.waiting ∙ ap keys_in (sym (append_assoc taken old.waiting.items f.more))
        ∙ map-append (λ row. row.key) (taken ++ old.waiting.items) f.more

    read_sorted : IsStrictlySortedBy key_cmp (keys_in (taken ++ old.waiting.items) ++ keys_in f.more)
    read_sorted = subst (IsStrictlySortedBy key_cmp) more_keys (rises_sorted (keys_in (taken ++ read.waiting.items)) read.last (f.rises taken h.rises))

    -- the rows that are read are beyond the last key before them
    beyond_last : (l : Key) → old.last ≡ Some l → AllByRecursion (λ row. key_cmp l row.key ≡ Less) f.more
    beyond_last l e =
        let last = last_key (keys_in (taken ++ old.waiting.items)) old.last l e h.rises in
        keys_hold (λ k. key_cmp l k ≡ Less) f.more (last_below last.0 (keys_in f.more) l (subst (λ ks. IsStrictlySortedBy key_cmp (ks ++ keys_in f.more)) last.1 read_sorted))

    more_beyond : (b : Key) → (old.is_ended ≡ true) ⊎ ((last : Key) × (old.last ≡ Some last) × (key_cmp b last ≡ Greater → ⊥))
        → AllByRecursion (λ row. key_cmp b row.key ≡ Less) f.more
    more_beyond b (inl e) = subst (AllByRecursion (λ row. key_cmp b row.key ≡ Less)) (sym (f.ended e).1) tt
    more_beyond b (inr l) = all_weaker (λ row. key_cmp l.0 row.key ≡ Less) (λ row. key_cmp b row.key ≡ Less) (λ row e. at_most_less b l.0 row.key l.2 e) f.more (beyond_last l.0 l.1)

    -- each row that waits is beyond the key at which the parts before are cut
    pub still_beyond : (b : Key) → IsCutAt b taken old → AllByRecursion (λ row. key_cmp b row.key ≡ Less) read.waiting.items
    still_beyond b cut =
        subst (AllByRecursion (λ row. key_cmp b row.key ≡ Less)) (sym f.waiting)
        (all_both (λ row. key_cmp b row.key ≡ Less) old.waiting.items f.more cut.beyond (more_beyond b cut.reached))

    -- and the key up to which all rows are read is not less than that
    last_up : (l m : Key) → old.last ≡ Some l → read.last ≡ Some m → key_cmp l m ≡ Greater → ⊥
    last_up l m e i =
        let last = last_key (keys_in (taken ++ old.waiting.items)) old.last l e h.rises in
        let next = last_key (keys_in (taken ++ read.waiting.items)) read.last m i (f.rises taken h.rises) in
        let keys : next.0 ++ (m ∷ []) ≡ (last.0 ++ (l ∷ [])) ++ keys_in f.more = sym next.1 ∙ more_keys ∙ ap (λ ks. ks ++ keys_in f.more) last.1 in
        let sorted : IsStrictlySortedBy key_cmp (next.0 ++ (m ∷ [])) =
        subst (IsStrictlySortedBy key_cmp) next.1 (rises_sorted (keys_in (taken ++ read.waiting.items)) read.last (f.rises taken h.rises)) in
        last_holds (λ k. key_cmp k m ≡ Greater → ⊥) last.0 l
        (all_first (λ k. key_cmp k m ≡ Greater → ⊥) (last.0 ++ (l ∷ [])) (keys_in f.more)
        (subst (AllByRecursion (λ k. key_cmp k m ≡ Greater → ⊥)) keys (up_to_last next.0 m sorted)))

    bound_up : (b m : Key) → (old.is_ended ≡ true) ⊎ ((last : Key) × (old.last ≡ Some last) × (key_cmp b last ≡ Greater → ⊥))
        → read.is_ended ≡ false → read.last ≡ Some m → key_cmp b m ≡ Greater → ⊥
    bound_up b m (inl e) unended i = absurd (cc (sym (f.ended e).0 ∙ unended))
    bound_up b m (inr l) unended i = at_most_both b l.0 m l.2 (last_up l.0 m l.1 i)

    at_bound : (b m : Key) → IsCutAt b taken old → (t : Bool) → read.is_ended ≡ t → Some m ≡ cond t None read.last → key_cmp b m ≡ Greater → ⊥
    at_bound b m cut true i e = absurd (cc)
    at_bound b m cut false i e = bound_up b m cut.reached i (sym e)

    pub not_less : (b m : Key) → IsCutAt b taken old → Some m ≡ bound_of read → key_cmp b m ≡ Greater → ⊥
    not_less b m cut e = at_bound b m cut read.is_ended refl e

  -- a first row that is not taken is beyond the bound, and so are those after it
  not_within : {X : Type 0} (x : X) (t : Bool) → (if t then Some x else None) ≡ None → t ≡ false
  not_within x true e = absurd (cc)
  not_within x false e = refl

  beyond_waiting : (b : Key) (rows : List ReadRow) → first_within (Some b) rows ≡ None → IsStrictlySortedBy key_cmp (keys_in rows)
      → AllByRecursion (λ row. key_cmp b row.key ≡ Less) rows
  unfolding IsStrictlySortedBy
  beyond_waiting b [] e s = tt
  beyond_waiting b (row ∷ rows) e s =
      let less : key_cmp b row.key ≡ Less = beyond_bound row.key b (not_within row (is_within row.key (Some b)) e) in (
        less,
        all_weaker (λ other. key_cmp row.key other.key ≡ Less) (λ other. key_cmp b other.key ≡ Less) (λ other l. key_total.trans b row.key other.key less l) rows
            (keys_hold (λ k. key_cmp row.key k ≡ Less) rows s.0),
      )

  none_within : (rows : List ReadRow) → first_within None rows ≡ None → rows ≡ []
  none_within [] e = refl
  none_within (row ∷ rows) e = absurd (cc)

  -- where many rows wait there is a last one
  some_last : (taken waiting : List ReadRow) (last : Option Key) → RisesTo (keys_in (taken ++ waiting)) last → 512 ≤ length waiting → (l : Key) × (last ≡ Some l)
  some_last [] [] None h le = absurd (omega (arith, le))
  some_last [] (row ∷ waiting) None h le = absurd (cc)
  some_last (row ∷ taken) waiting None h le = absurd (cc)
  some_last taken waiting (Some last) h le = (last, refl)

  module _ (start read new : Parts R) (taken rows : List ReadRow) (bound : Option Key) (h : HasTaken rem start read taken) (full : IsFull read)
      (t : TakesUpTo bound read new rows) where
    last_of : (read.is_ended ≡ true) ⊎ (512 ≤ length read.waiting.items) → read.is_ended ≡ false → (l : Key) × (read.last ≡ Some l)
    last_of (inl e) i = absurd (cc (sym e ∙ i))
    last_of (inr le) i = some_last taken read.waiting.items read.last h.rises le

    new_ended : read.is_ended ≡ true → new.is_ended ≡ true
    new_ended e = ap (λ (p : Parts R). p.is_ended) t.0.same ∙ e

    -- all rows are taken where no key is the last one up to which rows are read
    unended : read.is_ended ≡ false → (last : Option Key) → read.last ≡ last → bound_of read ≡ None → ⊥
    unended i None e none = absurd (cc (sym (last_of full i).1 ∙ e))
    unended i (Some last) e none = absurd (cc (sym none ∙ ap (λ t. cond t None read.last) i ∙ e))

    pub taken_all : bound ≡ None → bound_of read ≡ None → (new.is_ended ≡ true) × (new.waiting.items ≡ [])
    taken_all e none = (
      by_bool read.is_ended new_ended (λ i. absurd (unended i read.last refl none)),
      none_within new.waiting.items (subst (λ b. first_within b new.waiting.items ≡ None) e t.1),
    )

    module _ (b : Key) (is : bound ≡ Some b) (least : IsAtMost key_cmp b (bound_of read)) where
      reached_last : (m : Option Key) → bound_of read ≡ m → IsAtMost key_cmp b m → read.is_ended ≡ false → (l : Key) → read.last ≡ Some l → key_cmp b l ≡ Greater → ⊥
      reached_last None e n i l k = absurd (cc (sym e ∙ ap (λ t. cond t None read.last) i ∙ k))
      reached_last (Some m) e n i l k = subst (λ x. key_cmp b x ≡ Greater → ⊥) (same_some (sym e ∙ ap (λ t. cond t None read.last) i ∙ k)) n

      reaches : (new.is_ended ≡ true) ⊎ ((last : Key) × (new.last ≡ Some last) × (key_cmp b last ≡ Greater → ⊥))
      reaches =
          by_bool read.is_ended (λ e. inl (new_ended e))
          (λ i. let l = last_of full i in
          inr (l.0, ap (λ (p : Parts R). p.last) t.0.same ∙ l.1, reached_last (bound_of read) refl least i l.0 l.1))

      -- and else the parts are cut at that key
      pub cut_there : AllByRecursion (λ row. key_cmp row.key b ≡ Greater → ⊥) taken → IsCutAt b (taken ++ rows) new
      cut_there within =
          let more = taken_more bound start read new taken rows h t.0 in
          let sorted : IsStrictlySortedBy key_cmp (keys_in ((taken ++ rows) ++ new.waiting.items)) = rises_sorted (keys_in ((taken ++ rows) ++ new.waiting.items)) new.last more.rises in
          record {
            within = all_both (λ row. key_cmp row.key b ≡ Greater → ⊥) taken rows within
                (all_weaker (λ row. is_within row.key (Some b) ≡ true) (λ row. key_cmp row.key b ≡ Greater → ⊥) (λ row e. within_at_most (key_cmp row.key b) e) rows
                (subst (λ o. AllByRecursion (λ row. is_within row.key o ≡ true) rows) is t.0.within));
            beyond = beyond_waiting b new.waiting.items (subst (λ o. first_within o new.waiting.items ≡ None) is t.1)
                (sorted_after (keys_in (taken ++ rows)) (keys_in new.waiting.items)
                (subst (IsStrictlySortedBy key_cmp) (map-append (λ row. row.key) (taken ++ rows) new.waiting.items) sorted));
            reached = reaches;
          }
