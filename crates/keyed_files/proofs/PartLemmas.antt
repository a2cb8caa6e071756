-- Rows that are read in parts: none yet, one more, and the end; and keys that strictly increase.
use Rattle.std.proofs.Common.{◌≡◌, ◌∙◌, ◌⊎◌, ◌≤◌, ◌+◌, ℕ, List, [], ◌∷◌, ◌++◌, Option, Some, None, Bool, true, false, inl, inr, length, map, refl, sym, ap, ap₂, subst, append_assoc, if◌then◌else◌}
use Rattle.std.specs.Cmp.Lexicographic.{lists_total, nat_list_cmp_total}
use Rattle.std.specs.Cmp.{IsTotalOrder}
use Rattle.std.specs.List.{AllByRecursion}
use Rattle.std.specs.List.Sorted.{IsStrictlySortedBy}
use Rattle.std.specs.Ordering.{is_lt}
use Rattle.std.specs.declared.cmp.Ordering.{Ordering}
use Rattle.std.specs.declared.cmp.Ordering.TheVariants.{Less, Equal, Greater}
use Rattle.std.proofs.lemmas.List.{append-nil, length_push, map-append}
use Rattle.keyed_rows.specs.declared.row.ReadRow.{ReadRow}
use Rattle.keyed_faults.specs.declared.fault.Reason.{Reason}
use Rattle.keyed_faults.specs.declared.fault.Reason.TheVariants.{NoMemory}
use Rattle.keyed_files.specs.Explained.{SameCount}
use Rattle.keyed_files.specs.Parts.{AreRead, ExplainsNext, Fills, HasParts, IsFull, IsNotRising, IsStep, RisesTo, Takes, TakesUpTo, first_within, is_within, key_cmp, keys_in, rises_behind}
use Rattle.keyed_files.specs.Reading.{GivesRecord, HasGiven, IsPicked, last_record, parts_of, picked}
use Rattle.keyed_files.specs.declared.parts.Parts.{Parts}
use Rattle.keyed_files.specs.declared.source.Source.{Source}

is_less : (r : Ordering) → is_lt r ≡ true → r ≡ Less
is_less Less e = refl
is_less Equal e = absurd (cc)
is_less Greater e = absurd (cc)

module _ {K : Type 0} (P : K → Type 0) where
  all_more : (xs : List K) (k : K) → AllByRecursion P xs → P k → AllByRecursion P (xs ++ (k ∷ []))
  all_more [] k a p = (p, tt)
  all_more (x ∷ xs) k a p = (a.0, all_more xs k a.1 p)

  last_of_all : (xs : List K) (k : K) → AllByRecursion P (xs ++ (k ∷ [])) → P k
  last_of_all [] k a = a.0
  last_of_all (x ∷ xs) k a = last_of_all xs k a.1

-- a key after those that it is greater than
sorted_one : (key : List (List ℕ)) → IsStrictlySortedBy key_cmp (key ∷ [])
unfolding IsStrictlySortedBy
sorted_one key = (tt, tt)

sorted_more : (before : List (List (List ℕ))) (last key : List (List ℕ)) → IsStrictlySortedBy key_cmp (before ++ (last ∷ [])) → key_cmp last key ≡ Less
    → IsStrictlySortedBy key_cmp ((before ++ (last ∷ [])) ++ (key ∷ []))
unfolding IsStrictlySortedBy
sorted_more [] last key s l = ((l, tt), (tt, tt))
sorted_more (b ∷ before) last key s l =
    let o : IsTotalOrder key_cmp = lists_total nat_list_cmp_total in
    let less : key_cmp b key ≡ Less = o.trans b last key (last_of_all (λ y. key_cmp b y ≡ Less) before last s.0) l in
    (all_more (λ y. key_cmp b y ≡ Less) (before ++ (last ∷ [])) key s.0 less, sorted_more before last key s.1 l)

rises_more : (keys : List (List (List ℕ))) (last : Option (List (List ℕ))) (key : List (List ℕ)) → RisesTo keys last → rises_behind last key ≡ true
    → RisesTo (keys ++ (key ∷ [])) (Some key)
rises_more keys None key h e =
    let one : keys ++ (key ∷ []) ≡ key ∷ [] = ap (λ l. l ++ (key ∷ [])) h in
    ([], one, subst (IsStrictlySortedBy key_cmp) (sym one) (sorted_one key))
rises_more keys (Some last) key h e =
    let sorted : IsStrictlySortedBy key_cmp (h.0 ++ (last ∷ [])) = subst (IsStrictlySortedBy key_cmp) h.1 h.2 in
    (keys, refl, subst (λ l. IsStrictlySortedBy key_cmp (l ++ (key ∷ []))) (sym h.1) (sorted_more h.0 last key sorted (is_less (key_cmp last key) e)))

module _ {R : Type 0} (rem : R → Option (List ℕ)) where
  -- no row is read yet
  pub begun : (d : ℕ) (c : Option ℕ) (text : List ℕ) (given : List (List (List ℕ))) (parts : Parts R) → parts.is_ended ≡ false → parts.waiting.items ≡ []
      → HasGiven d c rem text given parts.source.value → HasParts rem d c text given [] parts
  begun d c text given parts ended none h =
      let read : HasGiven d c rem text (given ++ []) parts.source.value = subst (λ l. HasGiven d c rem text l parts.source.value) (sym (append-nil given)) h in
      record {
        records = [];
        read = subst (λ b. AreRead rem b d c text (given ++ []) parts.source.value) (sym ended) read;
        rows = ap (map parts_of) none;
      }

  pub fills_none : (parts : Parts R) → Fills rem parts parts
  fills_none parts = record { more = []; waiting = sym (append-nil parts.waiting.items); named = refl; places = refl; rule = (refl, refl); ended = λ e. (e, refl); rises = λ taken h. h; has = λ d c text given taken h. h }

  pub fills_then : (a b c : Parts R) → Fills rem a b → Fills rem b c → Fills rem a c
  fills_then a b c g h = record {
    more = g.more ++ h.more;
    waiting = h.waiting ∙ ap (λ l. l ++ h.more) g.waiting ∙ append_assoc a.waiting.items g.more h.more;
    named = h.named ∙ g.named;
    places = h.places ∙ g.places;
    rule = (h.rule.0 ∙ g.rule.0, h.rule.1 ∙ g.rule.1);
    ended = λ e. let first = g.ended e in let next = h.ended first.0 in (next.0, ap₂ (λ l m. l ++ m) first.1 next.1);
    rises = λ taken x. h.rises taken (g.rises taken x);
    has = λ d e text given taken x. h.has d e text given taken (g.has d e text given taken x);
  }

  module _ (old new : Parts R) (named : new.file ≡ old.file) (places : new.places ≡ old.places) (was : old.is_ended ≡ false) where
    unread : (d : ℕ) (c : Option ℕ) (text : List ℕ) (records : List (List (List ℕ))) → AreRead rem old.is_ended d c text records old.source.value
        → HasGiven d c rem text records old.source.value
    unread d c text records h = subst (λ b. AreRead rem b d c text records old.source.value) was h

    behind : (taken : List ReadRow) (row : ReadRow) → new.waiting.items ≡ old.waiting.items ++ (row ∷ [])
        → taken ++ new.waiting.items ≡ (taken ++ old.waiting.items) ++ (row ∷ [])
    behind taken row waits = ap (λ l. taken ++ l) waits ∙ sym (append_assoc taken old.waiting.items (row ∷ []))

    -- a row is read and put after those that wait
    pub fills_and : (source : Source R) (row : ReadRow) → new.is_ended ≡ false → new.source.value ≡ source → SameCount old.source.value source
        → GivesRecord rem old.source.value source true → IsPicked old.places (last_record source) row → rises_behind old.last row.key ≡ true → new.last ≡ Some row.key
        → new.waiting.items ≡ old.waiting.items ++ (row ∷ []) → Fills rem old new
    fills_and source row is same rule gives picks rises last waits = record {
      more = row ∷ [];
      waiting = waits;
      named = named;
      places = places;
      rule = subst (SameCount old.source.value) (sym same) rule;
      ended = λ e. absurd (cc (sym was ∙ e));
      rises = λ taken h.
          let before = keys_in (taken ++ old.waiting.items) in
          let keys : keys_in (taken ++ new.waiting.items) ≡ before ++ (row.key ∷ []) =
          ap keys_in (behind taken row waits) ∙ map-append (λ row. row.key) (taken ++ old.waiting.items) (row ∷ []) in
          subst (λ l. RisesTo l new.last) (sym keys) (subst (RisesTo (before ++ (row.key ∷ []))) (sym last) (rises_more before old.last row.key h rises));
      has = λ d c text given taken h.
          let fields = last_record source in
          let all : taken ++ new.waiting.items ≡ (taken ++ old.waiting.items) ++ (row ∷ []) = behind taken row waits in
          let read : HasGiven d c rem text (given ++ (h.records ++ (fields ∷ []))) source =
          subst (λ l. HasGiven d c rem text l source) (append_assoc given h.records (fields ∷ []))
          (gives d c text (given ++ h.records) (unread d c text (given ++ h.records) h.read)) in
          record {
            records = h.records ++ (fields ∷ []);
            read = subst (λ b. AreRead rem b d c text (given ++ (h.records ++ (fields ∷ []))) new.source.value) (sym is)
                (subst (HasGiven d c rem text (given ++ (h.records ++ (fields ∷ [])))) (sym same) read);
            rows = ap (map parts_of) all ∙ map-append parts_of (taken ++ old.waiting.items) (row ∷ []) ∙ ap₂ (λ l p. l ++ (p ∷ [])) h.rows picks
                ∙ sym (map-append (picked old.places) h.records (fields ∷ [])) ∙ ap (λ p. map (picked p) (h.records ++ (fields ∷ []))) (sym places);
          };
    }

    -- the source has no more rows
    pub fills_end : (source : Source R) → new.is_ended ≡ true → new.source.value ≡ source → SameCount old.source.value source
        → new.waiting.items ≡ old.waiting.items → new.last ≡ old.last → GivesRecord rem old.source.value source false → Fills rem old new
    fills_end source is same rule waits last gives = record {
      more = [];
      waiting = waits ∙ sym (append-nil old.waiting.items);
      named = named;
      places = places;
      rule = subst (SameCount old.source.value) (sym same) rule;
      ended = λ e. absurd (cc (sym was ∙ e));
      rises = λ taken h. subst (λ l. RisesTo (keys_in (taken ++ l)) new.last) (sym waits) (subst (RisesTo (keys_in (taken ++ old.waiting.items))) (sym last) h);
      has = λ d c text given taken h. record {
        records = h.records;
        read = subst (λ b. AreRead rem b d c text (given ++ h.records) new.source.value) (sym is)
            (gives d c text (given ++ h.records) (unread d c text (given ++ h.records) h.read));
        rows = ap (λ l. map parts_of (taken ++ l)) waits ∙ h.rows ∙ ap (λ p. map (picked p) h.records) (sym places);
      };
    }

  -- a row is read, and put by itself
  pub fills_put : (old mid new : Parts R) (row : ReadRow) → new ≡ record mid { last = new.last; waiting = new.waiting } → mid.file ≡ old.file → mid.places ≡ old.places
      → mid.is_ended ≡ false → old.is_ended ≡ false → mid.last ≡ old.last → mid.waiting.items ≡ old.waiting.items
      → SameCount old.source.value mid.source.value → GivesRecord rem old.source.value mid.source.value true
      → IsPicked old.places (last_record mid.source.value) row → rises_behind mid.last row.key ≡ true → new.last ≡ Some row.key → new.waiting.items ≡ mid.waiting.items ++ (row ∷ []) → Fills rem old new
  fills_put old mid new row same named places unended was last waits rule gives picks rises is put =
      fills_and old new (ap (λ (p : Parts R). p.file) same ∙ named) (ap (λ (p : Parts R). p.places) same ∙ places) was mid.source.value row (ap (λ (p : Parts R). p.is_ended) same ∙ unended)
      (ap (λ (p : Parts R). p.source.value) same) rule gives picks (subst (λ l. rises_behind l row.key ≡ true) last rises) is
      (put ∙ ap (λ l. l ++ (row ∷ [])) waits)

  -- a row that is read does not wait: its key is not greater than the last one, or memory was refused
  pub next_fallen : (parts : Parts R) (now : Source R) (row : ReadRow) (told : Reason) → GivesRecord rem parts.source.value now true
      → IsPicked parts.places (last_record now) row → SameCount parts.source.value now → ((told ≡ NoMemory) ⊎ IsNotRising parts.last row told) → ExplainsNext rem parts told
  next_fallen parts now row told gives are same (inl memory) = subst (ExplainsNext rem parts) (sym memory) (inl (now, same, tt, λ of. absurd of))
  next_fallen parts now row told gives are same (inr fallen) = inr (now, row, gives, are, fallen)

-- as many rows wait as are counted, or all are read
abbrev pub IsCounted : {R : Type 0} → Parts R → ℕ → Type 0
IsCounted parts n = (parts.is_ended ≡ true) ⊎ (length parts.waiting.items ≡ n)

module _ {R : Type 0} (old : Parts R) (n : ℕ) where
  pub counted_next : (new : Parts R) → old.is_ended ≡ false → IsCounted old n → IsStep old new → IsCounted new (n + 1)
  counted_next new was (inl e) s = absurd (cc (sym was ∙ e))
  counted_next new was (inr e) (inl t) = inl t
  counted_next new was (inr e) (inr t) = inr (t ∙ ap (λ m. m + 1) e)

  pub counted_full : IsCounted old n → 512 ≤ n → IsFull old
  counted_full (inl e) le = inl e
  counted_full (inr e) le = inr (subst (λ m. 512 ≤ m) (sym e) le)

pub step_put : {R : Type 0} (old new : Parts R) (row : ReadRow) → new.waiting.items ≡ old.waiting.items ++ (row ∷ []) → IsStep old new
step_put old new row put = inr (ap length put ∙ length_push old.waiting.items row)

-- a row that is not beyond a key
taken_within : (row : ReadRow) (b : Bool) → Some row ≡ (if b then Some row else None) → b ≡ true
taken_within row true e = refl
taken_within row false e = absurd (cc)

module _ {R : Type 0} (bound : Option (List (List ℕ))) where
  -- no row is taken yet, another one, and the last
  pub takes_none : (parts : Parts R) → Takes bound parts parts []
  takes_none parts = record { waiting = refl; within = tt; same = refl }

  module _ (old mid new : Parts R) (rows : List ReadRow) (h : Takes bound old mid rows) (same : new ≡ record mid { waiting = new.waiting }) where
    same_still : new ≡ record old { waiting = new.waiting }
    same_still = same ∙ ap (λ (p : Parts R). record p { waiting = new.waiting }) h.same

    pub takes_and : (after : List ReadRow) (row : ReadRow) → Some row ≡ first_within bound mid.waiting.items → mid.waiting.items ≡ row ∷ new.waiting.items
        → after ≡ rows ++ (row ∷ []) → Takes bound old new after
    takes_and after row first rest e =
        let within : is_within row.key bound ≡ true = taken_within row (is_within row.key bound) (first ∙ ap (first_within bound) rest) in
        subst (Takes bound old new) (sym e) (record {
          waiting = h.waiting ∙ ap (λ l. rows ++ l) rest ∙ sym (append_assoc rows (row ∷ []) new.waiting.items);
          within = all_more (λ row. is_within row.key bound ≡ true) rows row h.within within;
          same = same_still;
        })

    pub takes_all : None ≡ first_within bound mid.waiting.items → new.waiting.items ≡ mid.waiting.items → TakesUpTo bound old new rows
    takes_all first rest = (
      record { waiting = h.waiting ∙ ap (λ l. rows ++ l) (sym rest); within = h.within; same = same_still },
      ap (first_within bound) rest ∙ sym first,
    )
