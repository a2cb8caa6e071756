-- What a merge with marks makes of three versions of a table, by whether a key is in conflict.
use Rattle.std.proofs.Common.{◌≡◌, ◌∙◌, ◌<◌, ℕ, Bool, true, false, List, [], ◌∷◌, length, Option, Some, None, arith, ap, refl, subst, sym, true≢false}
use Rattle.std.specs.Prelude.{MatchBool}
use Rattle.std.specs.Cmp.{IsTotalOrder}
use Rattle.std.specs.declared.cmp.Ordering.{Ordering}
use Rattle.eob_both.specs.declared.either_or_both.EitherOrBoth.{EitherOrBoth}
use Rattle.eob_lists.specs.Join.{Rising, value_under}
use Rattle.eob_joins.specs.Marked.{GivesNothing, IsMarkedMerge, MarkedAs, can_nothing, settled_value}
use Rattle.eob_joins.specs.Settled.{Became, BecameUnless, KeptAs, is_unresolved, unresolved, unresolved_place, with_row}
use Rattle.eob_joins.specs.Tables.{Tabulates, kept}
use Rattle.eob_joins.specs.Versions.{is_conflict, merged_place, verdict}
use Rattle.eob_joins.specs.declared.marked.Marked.{Marked}
use Rattle.eob_joins.specs.declared.marked.Marked.TheVariants.{Settled, Unresolved}
use Rattle.eob_joins.proofs.SettledLemmas.{unresolved_law, whole_law}
use Rattle.eob_joins.proofs.TableLemmas.{by_test}
use Rattle.keyed_requests.specs.declared.merging.Unit.{Unit}
use Rattle.keyed_requests.specs.declared.merging.Unit.TheVariants as unit
use Rattle.keyed_requests.specs.declared.request.Form.{Form}
use Rattle.keyed_columns.specs.declared.columns.Columns.{Columns}
use Rattle.keyed_tables.specs.RowsByCell.{GivesRow, can_by_row}
use Rattle.keyed_jobs.specs.Answers.{AnswersTable, Stops, TableRows, key_cmp, rows_eq}
use Rattle.keyed_jobs.specs.MarkedText.{AnswersMarkedFile, AnswersMarks, IsMarkedBy, MarkedRows, all_as_they_stand, has_all_columns, has_conflict}
use Rattle.keyed_jobs.specs.declared.answer.Answer.{Answer}
use Rattle.keyed_jobs.specs.declared.answer.Outcome.TheVariants.{Made}
use Rattle.keyed_jobs.proofs.AnswerLemmas.{key_total, some_unresolved}
use Rattle.keyed_laws.specs.MarkLaws.{AnswersWhole, HasNoneIn, HasSomeIn, MarksByKey, MarksLaw}

module _ {K V : Type 0} (eq : V → V → Bool) (can : Option V → Option V → Option V → Bool) (gives : Option V → Option V → Option V → V → Type 0) where
  -- no row is in conflict: each became its merged value, and none is unresolved
  abbrev AreSettled : List (K × EitherOrBoth V (EitherOrBoth V V)) → List (K × Marked V) → Type 0
  AreSettled zs rows = KeptAs (BecameUnless eq can gives) zs (kept settled_value rows) × (kept (unresolved eq can) zs ≡ [])

  settled_more : (z : K × EitherOrBoth V (EitherOrBoth V V)) (zs : List (K × EitherOrBoth V (EitherOrBoth V V))) (m : Option (Marked V)) (ts : List (K × Marked V))
      → MarkedAs eq can gives z.1 m → (has_conflict ts ≡ false → AreSettled zs ts) → has_conflict (with_row z.0 m ts) ≡ false → AreSettled (z ∷ zs) (with_row z.0 m ts)
  settled_more z zs None ts r h e = ((None, (λ _. r.1), (kept settled_value ts, (h e).0, refl)), rw r.0 (h e).1)
  settled_more z zs (Some (Settled w)) ts r h e = ((Some w, (λ _. r.1), (kept settled_value ts, (h e).0, refl)), rw r.0 (h e).1)
  settled_more z zs (Some (Unresolved same)) ts r h e = absurd (true≢false e)

  settled_apart : (zs : List (K × EitherOrBoth V (EitherOrBoth V V))) (rows : List (K × Marked V)) → KeptAs (MarkedAs eq can gives) zs rows → has_conflict rows ≡ false → AreSettled zs rows
  settled_apart [] rows h e = (ap (kept settled_value) h, refl)
  settled_apart (z ∷ zs) rows h e =
      subst (AreSettled (z ∷ zs)) (sym h.2.2)
      (settled_more z zs h.0 h.2.0 h.1 (settled_apart zs h.2.0 h.2.1) (subst (λ l. has_conflict l ≡ false) h.2.2 e))

  unresolved_more : (z : K × EitherOrBoth V (EitherOrBoth V V)) (zs : List (K × EitherOrBoth V (EitherOrBoth V V))) (m : Option (Marked V)) (ts : List (K × Marked V))
      → MarkedAs eq can gives z.1 m → (has_conflict ts ≡ true → 0 < length (kept (unresolved eq can) zs)) → has_conflict (with_row z.0 m ts) ≡ true → 0 < length (kept (unresolved eq can) (z ∷ zs))
  unresolved_more z zs None ts r h e = rw r.0 (h e)
  unresolved_more z zs (Some (Settled w)) ts r h e = rw r.0 (h e)
  unresolved_more z zs (Some (Unresolved same)) ts r h e = rw r.0 (omega arith)

  unresolved_apart : (zs : List (K × EitherOrBoth V (EitherOrBoth V V))) (rows : List (K × Marked V)) → KeptAs (MarkedAs eq can gives) zs rows → has_conflict rows ≡ true
      → 0 < length (kept (unresolved eq can) zs)
  unresolved_apart [] rows h e = let n : has_conflict {K = K} {V = V} [] ≡ true = subst (λ l. has_conflict l ≡ true) h e in absurd (true≢false (sym n))
  unresolved_apart (z ∷ zs) rows h e =
      unresolved_more z zs h.0 h.2.0 h.1 (unresolved_apart zs h.2.0 h.2.1) (subst (λ l. has_conflict l ≡ true) h.2.2 e)

  module _ (cmp : K → K → Ordering) (o : IsTotalOrder cmp) (b p q : List (K × V)) (rows : List (K × Marked V)) (m : IsMarkedMerge cmp eq can gives b p q rows) where
    -- where no row is in conflict, the merged rows have what became of each key, and none is unresolved
    settled_by_key : has_conflict rows ≡ false → Rising cmp (kept settled_value rows)
        × ((k : K) → Became eq gives (value_under cmp b k) (value_under cmp p k) (value_under cmp q k) (value_under cmp (kept settled_value rows) k))
        × ((k : K) → is_unresolved eq can (value_under cmp b k) (value_under cmp p k) (value_under cmp q k) ≡ false)
    settled_by_key e =
        let are = settled_apart m.0 rows m.2 e in
        whole_law cmp o eq can gives b p q m.0 m.1 (kept settled_value rows) [] are.0 (sym are.1) refl

    -- and where one is, some key is unresolved
    unresolved_by_key : has_conflict rows ≡ true
        → (cs : List (K × EitherOrBoth V (EitherOrBoth V V))) × Tabulates cmp cs (λ k. unresolved_place eq can (value_under cmp b k) (value_under cmp p k) (value_under cmp q k)) × (0 < length cs)
    unresolved_by_key e = (kept (unresolved eq can) m.0, unresolved_law cmp o eq can gives b p q m.0 m.1 (kept (unresolved eq can) m.0) refl, unresolved_apart m.0 rows m.2 e)

-- where no rule settles a row
module _ {V : Type 0} (eq : V → V → Bool) (b p q : Option V) where
  not_unresolved : is_conflict (verdict eq b p q) ≡ false → is_unresolved eq can_nothing b p q ≡ false
  not_unresolved n = rw n refl

  is_merged : (m : Option V) → is_conflict (verdict eq b p q) ≡ false → Became eq GivesNothing b p q m → m ≡ merged_place eq b p q
  is_merged m n h = rw n at h

  conflict_unresolved : is_conflict (verdict eq b p q) ≡ true → is_unresolved eq can_nothing b p q ≡ false → ⊥
  conflict_unresolved c n = true≢false (rw c at n)

module _ (base ours theirs : TableRows) (rows : MarkedRows) where
  -- no row is in conflict where no key is
  none_marked : (by : Unit) → IsMarkedBy by base ours theirs rows → HasNoneIn by base ours theirs → has_conflict rows ≡ false
  none_marked unit.Row are none = by_test (has_conflict rows) (λ t.
      let some = unresolved_by_key rows_eq can_nothing GivesNothing key_cmp key_total base ours theirs rows are t in
      absurd (some_unresolved key_cmp key_total rows_eq can_nothing (value_under key_cmp base) (value_under key_cmp ours) (value_under key_cmp theirs) some.0 some.1 some.2
      (λ k. not_unresolved rows_eq (value_under key_cmp base k) (value_under key_cmp ours k) (value_under key_cmp theirs k) (none k))))
      (λ f. f)
  none_marked unit.Cell are none = by_test (has_conflict rows) (λ t.
      let some = unresolved_by_key rows_eq can_by_row GivesRow key_cmp key_total base ours theirs rows are t in
      absurd (some_unresolved key_cmp key_total rows_eq can_by_row (value_under key_cmp base) (value_under key_cmp ours) (value_under key_cmp theirs) some.0 some.1 some.2 none))
      (λ f. f)

  -- and one is where a key is
  some_marked : (by : Unit) → IsMarkedBy by base ours theirs rows → HasSomeIn by base ours theirs → has_conflict rows ≡ true
  some_marked unit.Row are some = by_test (has_conflict rows) (λ t. t) (λ f.
      let settled = settled_by_key rows_eq can_nothing GivesNothing key_cmp key_total base ours theirs rows are f in
      absurd (conflict_unresolved rows_eq (value_under key_cmp base some.0) (value_under key_cmp ours some.0) (value_under key_cmp theirs some.0) some.1 (settled.2 some.0)))
  some_marked unit.Cell are some = by_test (has_conflict rows) (λ t. t) (λ f.
      let settled = settled_by_key rows_eq can_by_row GivesRow key_cmp key_total base ours theirs rows are f in
      absurd (true≢false (sym some.1 ∙ settled.2 some.0)))

  module _ (form : Form) (columns : Columns) (keys : Option (List (List (List ℕ)))) (by_cells : Bool) (answer : Answer) where
    -- the merged rows are the merged table then
    whole_of : (by : Unit) → IsMarkedBy by base ours theirs rows → HasNoneIn by base ours theirs → has_conflict rows ≡ false
        → AnswersTable form columns keys by_cells (kept settled_value rows) answer → AnswersWhole form columns keys by_cells base ours theirs answer by
    whole_of unit.Row are none free table =
        let settled = settled_by_key rows_eq can_nothing GivesNothing key_cmp key_total base ours theirs rows are free in (
          kept settled_value rows,
          record {
            rises = settled.0;
            values = λ k. is_merged rows_eq (value_under key_cmp base k) (value_under key_cmp ours k) (value_under key_cmp theirs k) (value_under key_cmp (kept settled_value rows) k) (none k) (settled.1 k);
          },
          table,
        )
    whole_of unit.Cell are none free table =
        let settled = settled_by_key rows_eq can_by_row GivesRow key_cmp key_total base ours theirs rows are free in
        (kept settled_value rows, settled.0, settled.1, table)

    marked_or_stopped : (by : Unit) (all : Bool) → MatchBool all (AnswersMarkedFile form columns keys by_cells by (all_as_they_stand columns) rows answer) (Stops answer)
        → MatchBool all ((answer.status ≡ 1) × (answer.outcome ≡ Made)) (Stops answer)
    marked_or_stopped by true marked = (marked.0, marked.1)
    marked_or_stopped by false stops = stops

    marks-by-key : (by : Unit) → IsMarkedBy by base ours theirs rows → AnswersMarks form columns keys by_cells by (all_as_they_stand columns) rows answer
        → MarksByKey by form columns keys by_cells base ours theirs answer
    marks-by-key by are answers =
        let Answered : Bool → Type 0 = λ t. MatchBool t (MatchBool (has_all_columns columns) (AnswersMarkedFile form columns keys by_cells by (all_as_they_stand columns) rows answer) (Stops answer))
        (AnswersTable form columns keys by_cells (kept settled_value rows) answer) in
        record {
          whole = λ none. let free = none_marked by are none in whole_of by are none free (subst Answered free answers);
          conflict = λ some. marked_or_stopped by (has_all_columns columns) (subst Answered (some_marked by are some) answers);
        }

pub marks-law : MarksLaw
marks-law by settings base_form ours_form theirs_form base_text ours_text theirs_text answer merges =
    let told = merges.merged.merged in
    marks-by-key merges.base merges.ours merges.theirs told.0 _ merges.columns merges.merged.keys merges.merged.by_cells answer by told.1 told.2
