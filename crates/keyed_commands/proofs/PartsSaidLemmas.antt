-- What is said of two parts of tables, one after the other, is what is said of both parts as one.
use Rattle.std.proofs.Common.{◌≡◌, ◌∙◌, ◌==◌, ℕ, Bool, true, false, List, [], ◌∷◌, ◌++◌, All, Option, None, Some, append_assoc, append-nil, arith, eqb-true, length, refl, sym, ap, ap₂, subst, subst₂, if◌then◌else◌}
use Rattle.std.specs.Prelude.{◌&&◌, ⊤}
use Rattle.std.specs.List.{flat_map}
use Rattle.std.specs.Map.{keys_of}
use Rattle.std.specs.Option.{option_and, option_map, option_zip}
use Rattle.std.proofs.lemmas.List.Concat.{flat_map-append}
use Rattle.std.proofs.lemmas.List.Elements.{All-cons, All-nil, filter_map-append}
use Rattle.std.specs.declared.cmp.Ordering.TheVariants.{Less}
use Rattle.csv.specs.Writing.{row_text}
use Rattle.csv.specs.declared.writer.WriterBuilder.{WriterBuilder}
use Rattle.eob_lists.specs.Join.{value_under}
use Rattle.eob_joins.specs.Changes.{changed}
use Rattle.eob_joins.specs.Laws.{AreBelow}
use Rattle.eob_joins.specs.Parts.{AreMade, AreThreeCut, ThreeAndMade}
use Rattle.eob_joins.specs.Tables.{Tabulates, unless}
use Rattle.eob_joins.proofs.JoinLawLemmas.{cut_join}
use Rattle.eob_joins.proofs.MadePartLemmas.{cut_made}
use Rattle.keyed_text.specs.Texts.{text_by}
use Rattle.keyed_requests.specs.declared.request.Form.{Form}
use Rattle.keyed_requests.specs.declared.request.Kind.{Kind}
use Rattle.keyed_requests.specs.declared.request.Kind.TheVariants as kind
use Rattle.keyed_columns.specs.declared.columns.Columns.{Columns}
use Rattle.keyed_columns.specs.declared.columns.JoinColumns.{JoinColumns}
use Rattle.keyed_files.specs.Rows.{heading, rows_under, table_rows}
use Rattle.keyed_files.specs.Writing.{file_text, quoted_text, text_of, writer_of}
use Rattle.keyed_jobs.specs.Answers.{IsTableText, TableChanges, TableRows, key_cmp, rows_eq, status_of}
use Rattle.keyed_jobs.specs.ChangeRows.{change_rows, changes_heading, changes_rows}
use Rattle.keyed_jobs.specs.ComeOut.{AlikePlaces, AlikeRows, ComesOut}
use Rattle.keyed_jobs.proofs.AnswerLemmas.{key_total}
use Rattle.keyed_commands.specs.JoinAnswers.{AlikeBoth, AlikeLeft, AlikeRight, IsJoinText, IsTextOfJoin, RowSides, heading_of_join, inner_sides, join_rows, left_sides, outer_sides, right_sides, rows_shown}
use Rattle.keyed_commands.specs.PartAnswers.{AreJoinRows, SaysChanges, SaysChangesIn, SaysJoin, SaysOf, heading_of_kind, on_later, status_both, text_of_kind, unheaded}
use Rattle.keyed_commands.specs.declared.sorted.ChangesForm.{ChangesForm}
use Rattle.keyed_commands.specs.declared.sorted.ChangesForm.TheVariants as way
use Rattle.keyed_commands.specs.declared.sorted.Work.{Work}
use Rattle.keyed_commands.specs.declared.sorted.Work.TheVariants as work

-- the texts of rows, one after the other
text_both : (w : WriterBuilder) (rows more : List (List (List ℕ))) → text_by w (rows ++ more) ≡ text_by w rows ++ text_by w more
text_both w [] more = refl
text_both w (row ∷ rows) more =
    ap (λ text. row_text w row ++ text) (text_both w rows more) ∙ sym (append_assoc (row_text w row) (text_by w rows) (text_by w more))

-- a form with no heading has none
no_heading : {X : Type 0} (has : Bool) (rows : List X) → (if has && false then rows else []) ≡ []
no_heading true rows = refl
no_heading false rows = refl

no_table_heading : {X : Type 0} (has some : Bool) (rows : List X) → (if (has && false) && some then rows else []) ≡ []
no_table_heading true some rows = refl
no_table_heading false some rows = refl

-- no key is less than none
none_below : (keys : List (List (List ℕ))) → AreBelow key_cmp keys []
none_below [] = All-nil (λ j. All (λ k. key_cmp j k ≡ Less) [])
none_below (key ∷ keys) = All-cons (λ j. All (λ k. key_cmp j k ≡ Less) []) key keys (All-nil (λ k. key_cmp key k ≡ Less)) (none_below keys)

-- a list that has an item is not empty
some_long : {X : Type 0} (x : X) (xs : List X) (b : Bool) → (length (x ∷ xs) == 0) ≡ b → b ≡ false
some_long x xs true e = let z : length (x ∷ xs) ≡ 0 = eqb-true (length (x ∷ xs)) 0 e in absurd (omega arith)
some_long x xs false e = refl

pub not_empty : {X : Type 0} (x : X) (xs : List X) → (length (x ∷ xs) == 0) ≡ false
not_empty x xs = some_long x xs (length (x ∷ xs) == 0) refl

-- the status of both
both_status : {X : Type 0} (xs ys : List X) → status_both (status_of (length xs == 0)) (status_of (length ys == 0)) ≡ status_of (length (xs ++ ys) == 0)
both_status [] ys = refl
both_status (x ∷ xs) ys =
    ap (λ b. status_both (status_of b) (status_of (length ys == 0))) (not_empty x xs) ∙ sym (ap status_of (not_empty x (xs ++ ys)))

module _ (p : TableRows) (p2 : TableRows) (q : TableRows) (q2 : TableRows)
    (below : AreBelow key_cmp (keys_of p ++ keys_of q) (keys_of p2 ++ keys_of q2)) where
  -- of changes
  module _ (form : Form) (columns : Columns) (text text2 : List ℕ) (status status2 : ℕ) where
    changes_text : (marked : List (List ℕ)) (changes changes2 : TableChanges) → text ≡ text_of form (changes_heading form marked ++ changes_rows columns.order.items changes)
        → text2 ≡ text_of (unheaded form) (changes_heading (unheaded form) marked ++ changes_rows columns.order.items changes2)
        → text ++ text2 ≡ text_of form (changes_heading form marked ++ changes_rows columns.order.items (changes ++ changes2))
    changes_text marked changes changes2 a b =
        let rows = changes_rows columns.order.items changes in
        let rows2 = changes_rows columns.order.items changes2 in
        let all : changes_rows columns.order.items (changes ++ changes2) ≡ rows ++ rows2 =
        flat_map-append (λ change. change_rows columns.order.items change.0 change.1) changes changes2 in
        let bare : text2 ≡ text_of form rows2 = b ∙ ap (λ l. text_of form (l ++ rows2)) (no_heading form.has_header _) in
        ap₂ (λ s t. s ++ t) a bare ∙ sym (text_both (writer_of form) (changes_heading form marked ++ rows) rows2)
        ∙ ap (text_of form) (append_assoc (changes_heading form marked) rows rows2 ∙ ap (λ l. changes_heading form marked ++ l) (sym all))

    changes_both : (marked : List (List ℕ)) → SaysChanges form columns marked p q text status → SaysChanges (unheaded form) columns marked p2 q2 text2 status2
        → SaysChanges form columns marked (p ++ p2) (q ++ q2) (text ++ text2) (status_both status status2)
    changes_both marked a b =
        let zs = a.1.0 in
        let zs2 = b.1.0 in (
          a.0 ++ b.0,
          (
            zs ++ zs2,
            cut_join key_cmp key_total _ _ p p2 q q2 zs zs2 below a.1.1 b.1.1,
            ap₂ (λ xs ys. xs ++ ys) a.1.2 b.1.2 ∙ sym (filter_map-append (λ z. option_map (λ w. (z.0, w)) (changed rows_eq z.1)) zs zs2),
          ),
          changes_text marked a.0 b.0 a.2 b.2,
          ap₂ status_both a.3 b.3 ∙ both_status a.0 b.0,
        )

    said_changes : (how : ChangesForm) → SaysChangesIn form columns how p q text status → SaysChangesIn (unheaded form) columns how p2 q2 text2 status2
        → SaysChangesIn form columns how (p ++ p2) (q ++ q2) (text ++ text2) (status_both status status2)
    said_changes (way.Csv marked) a b = changes_both marked a b
    said_changes (way.Json sameness) a b = tt

  below_three : AreBelow key_cmp (keys_of p ++ (keys_of q ++ [])) (keys_of (p2 ++ []) ++ (keys_of (q2 ++ []) ++ []))
  below_three =
      subst₂ (AreBelow key_cmp) (ap (λ l. keys_of p ++ l) (sym (append-nil (keys_of q))))
      (ap₂ (λ l m. keys_of l ++ m) (sym (append-nil p2)) (ap keys_of (sym (append-nil q2)) ∙ sym (append-nil (keys_of (q2 ++ []))))) below

  -- of what stands under each key
  module _ {W : Type 0} (make : Option (List (List (List ℕ))) → Option (List (List (List ℕ))) → Option W) (none : make None None ≡ None) where
    abbrev made : TableRows → TableRows → List (List ℕ) → Option W
    made first second k = make (value_under key_cmp first k) (value_under key_cmp second k)

    made_both : (zs zs2 : List (List (List ℕ) × W)) → Tabulates key_cmp zs (made p q) → Tabulates key_cmp zs2 (made p2 q2)
        → Tabulates key_cmp (zs ++ zs2) (made (p ++ p2) (q ++ q2))
    made_both zs zs2 a b =
        let first : ThreeAndMade (List (List ℕ)) (List (List (List ℕ))) (List (List (List ℕ))) ⊤ W = (p, q, [], zs) in
        let next : ThreeAndMade (List (List ℕ)) (List (List (List ℕ))) (List (List (List ℕ))) ⊤ W = (p2, q2, [], zs2) in
        let apart : AreThreeCut key_cmp (next ∷ []) = (none_below (keys_of p2 ++ (keys_of q2 ++ [])), tt) in
        let cut : AreThreeCut key_cmp (first ∷ next ∷ []) = (below_three, apart) in
        let last : AreMade key_cmp (λ m n o. make m n) (next ∷ []) = (b, tt) in
        let each : AreMade key_cmp (λ m n o. make m n) (first ∷ next ∷ []) = (a, last) in
        let whole = cut_made key_cmp key_total (λ m n o. make m n) none (first ∷ next ∷ []) cut each in
        subst (λ first. Tabulates key_cmp (zs ++ zs2) (made (p ++ first) (q ++ q2))) (append-nil p2)
        (subst (λ second. Tabulates key_cmp (zs ++ zs2) (made (p ++ (p2 ++ [])) (q ++ second))) (append-nil q2)
        (subst (λ rows. Tabulates key_cmp (zs ++ rows) (made (p ++ (p2 ++ [])) (q ++ (q2 ++ [])))) (append-nil zs2) whole))

  -- of the rows of joins
  module _ (columns : JoinColumns) where
    shown_both : {V : Type 0} (shows : V → RowSides) (zs zs2 : List (List (List ℕ) × V)) (rows rows2 : List (List (List ℕ))) → rows ≡ join_rows columns shows zs
        → rows2 ≡ join_rows columns shows zs2 → rows ++ rows2 ≡ join_rows columns shows (zs ++ zs2)
    shown_both shows zs zs2 rows rows2 a b = ap₂ (λ xs ys. xs ++ ys) a b ∙ sym (flat_map-append (rows_shown columns shows) zs zs2)

    table_both : (zs zs2 : TableRows) (rows rows2 : List (List (List ℕ))) → rows ≡ table_rows columns.left.order.items zs
        → rows2 ≡ table_rows columns.left.order.items zs2 → rows ++ rows2 ≡ table_rows columns.left.order.items (zs ++ zs2)
    table_both zs zs2 rows rows2 a b =
        ap₂ (λ xs ys. xs ++ ys) a b ∙ sym (flat_map-append (λ group. rows_under None columns.left.order.items group.0 group.1) zs zs2)

    joined_both : (kind : Kind) (rows rows2 : List (List (List ℕ))) → AreJoinRows columns kind p q rows → AreJoinRows columns kind p2 q2 rows2
        → AreJoinRows columns kind (p ++ p2) (q ++ q2) (rows ++ rows2)
    joined_both kind.Outer rows rows2 a b =
        (a.0 ++ b.0, cut_join key_cmp key_total _ _ p p2 q q2 a.0 b.0 below a.1 b.1, shown_both outer_sides a.0 b.0 rows rows2 a.2 b.2)
    joined_both kind.Inner rows rows2 a b = (a.0 ++ b.0, made_both option_zip refl a.0 b.0 a.1 b.1, shown_both inner_sides a.0 b.0 rows rows2 a.2 b.2)
    joined_both kind.Left rows rows2 a b =
        (a.0 ++ b.0, made_both (λ m n. option_map (λ v. (v, n)) m) refl a.0 b.0 a.1 b.1, shown_both left_sides a.0 b.0 rows rows2 a.2 b.2)
    joined_both kind.Right rows rows2 a b =
        (a.0 ++ b.0, made_both (λ m n. option_map (λ v. (m, v)) n) refl a.0 b.0 a.1 b.1, shown_both right_sides a.0 b.0 rows rows2 a.2 b.2)
    joined_both kind.Semi rows rows2 a b = (a.0 ++ b.0, made_both (λ m n. option_and n m) refl a.0 b.0 a.1 b.1, table_both a.0 b.0 rows rows2 a.2 b.2)
    joined_both kind.Anti rows rows2 a b = (a.0 ++ b.0, made_both unless refl a.0 b.0 a.1 b.1, table_both a.0 b.0 rows rows2 a.2 b.2)

    module _ (form : Form) (names : List (List ℕ)) where
      later_heading : (kind : Kind) → heading_of_kind (unheaded form) columns names kind ≡ []
      later_heading kind.Outer = no_heading form.has_header _
      later_heading kind.Inner = no_heading form.has_header _
      later_heading kind.Left = no_heading form.has_header _
      later_heading kind.Right = no_heading form.has_header _
      later_heading kind.Semi = no_table_heading form.has_header _ _
      later_heading kind.Anti = no_table_heading form.has_header _ _

      later_text : (kind : Kind) → text_of_kind (unheaded form) kind ≡ text_of_kind form kind
      later_text kind.Outer = refl
      later_text kind.Inner = refl
      later_text kind.Left = refl
      later_text kind.Right = refl
      later_text kind.Semi = refl
      later_text kind.Anti = refl

      said_join : (kind : Kind) (text text2 : List ℕ) → SaysJoin form columns names kind p q text → SaysJoin (unheaded form) columns names kind p2 q2 text2
          → SaysJoin form columns names kind (p ++ p2) (q ++ q2) (text ++ text2)
      said_join kind text text2 a b =
          let head = heading_of_kind form columns names kind in (
            a.0 ++ b.0,
            joined_both kind a.0 b.0 a.1 b.1,
            (
              a.2.0 ++ b.2.0,
              flat_map-append (λ part. part) a.2.0 b.2.0 ∙ ap₂ (λ xs ys. xs ++ ys) a.2.1 (b.2.1 ∙ ap (λ h. h ++ b.0) (later_heading kind)) ∙ append_assoc head a.0 b.0,
              ap₂ (λ xs ys. xs ++ ys) a.2.2 (b.2.2 ∙ ap (λ f. flat_map f b.2.0) (later_text kind)) ∙ sym (flat_map-append (text_of_kind form kind) a.2.0 b.2.0),
            ),
          )

  -- of a work
  pub said_both : (how : Work) (text text2 : List ℕ) (status status2 : ℕ) → SaysOf how p q text status → SaysOf (on_later how) p2 q2 text2 status2
      → SaysOf how (p ++ p2) (q ++ q2) (text ++ text2) (status_both status status2)
  said_both (work.Changes job form) text text2 status status2 a b = said_changes job.form job.columns.now text text2 status status2 form a b
  said_both (work.Join job form) text text2 status status2 a b =
      (λ csv. said_join job.columns.now job.form form.header form.kind text text2 (a.0 csv) (b.0 csv), ap₂ status_both a.1 b.1)

-- rows that come out in the order of their keys, and their groups in that of their cells, are those that there were
module _ {V : Type 0} (alike : V → V → Type 0) where
  come_plainly : (keys : Option (List (List (List ℕ)))) (by_cells : Bool) (rows shown : List (List (List ℕ) × V)) → keys ≡ None → by_cells ≡ true
      → ComesOut keys by_cells alike rows shown → shown ≡ rows
  come_plainly None true rows shown e f h = h.3 ∙ h.2
  come_plainly None false rows shown e f h = absurd (cc)
  come_plainly (Some keys) by_cells rows shown e f h = absurd (cc)

module _ (form : Form) (columns : JoinColumns) (names : List (List ℕ)) (keys : Option (List (List (List ℕ)))) (by_cells : Bool)
    (none : keys ≡ None) (plain : by_cells ≡ true) where
  one_part : (kind : Kind) (rows : List (List (List ℕ))) (text : List ℕ) → text ≡ text_of_kind form kind (heading_of_kind form columns names kind ++ rows)
      → (parts : List (List (List (List ℕ)))) × (flat_map (λ part. part) parts ≡ heading_of_kind form columns names kind ++ rows)
      × (text ≡ flat_map (text_of_kind form kind) parts)
  one_part kind rows text e =
      let all = heading_of_kind form columns names kind ++ rows in (all ∷ [], append-nil all, e ∙ sym (append-nil (text_of_kind form kind all)))

  shown_text : {V : Type 0} (shows : V → RowSides) (alike : V → V → Type 0) (rows : List (List (List ℕ) × V)) (text : List ℕ)
      → IsTextOfJoin form columns names keys by_cells shows alike rows text → text ≡ quoted_text form (heading_of_join form names ++ join_rows columns shows rows)
  shown_text shows alike rows text h =
      h.2 ∙ ap (λ l. quoted_text form (heading_of_join form names ++ join_rows columns shows l)) (come_plainly alike keys by_cells rows h.0 none plain h.1)

  table_text : (rows : TableRows) (text : List ℕ) → IsTableText form columns.left keys by_cells rows text
      → text ≡ file_text form (heading form None columns.left ++ table_rows columns.left.order.items rows)
  table_text rows text h =
      h.2 ∙ ap (λ l. file_text form (heading form None columns.left ++ table_rows columns.left.order.items l)) (come_plainly AlikeRows keys by_cells rows h.0 none plain h.1)

  -- the text of a join is one of one part
  pub said_once : (kind : Kind) (left right : TableRows) (text : List ℕ) → IsJoinText form columns names keys by_cells kind left right text
      → SaysJoin form columns names kind left right text
  said_once kind.Outer left right text h =
      let rows = join_rows columns outer_sides h.0 in (rows, (h.0, h.1, refl), one_part kind.Outer rows text (shown_text outer_sides (AlikePlaces AlikeRows AlikeRows) h.0 text h.2))
  said_once kind.Inner left right text h =
      let rows = join_rows columns inner_sides h.0 in (rows, (h.0, h.1, refl), one_part kind.Inner rows text (shown_text inner_sides AlikeBoth h.0 text h.2))
  said_once kind.Left left right text h =
      let rows = join_rows columns left_sides h.0 in (rows, (h.0, h.1, refl), one_part kind.Left rows text (shown_text left_sides AlikeLeft h.0 text h.2))
  said_once kind.Right left right text h =
      let rows = join_rows columns right_sides h.0 in (rows, (h.0, h.1, refl), one_part kind.Right rows text (shown_text right_sides AlikeRight h.0 text h.2))
  said_once kind.Semi left right text h =
      let rows = table_rows columns.left.order.items h.0 in (rows, (h.0, h.1, refl), one_part kind.Semi rows text (table_text h.0 text h.2))
  said_once kind.Anti left right text h =
      let rows = table_rows columns.left.order.items h.0 in (rows, (h.0, h.1, refl), one_part kind.Anti rows text (table_text h.0 text h.2))
