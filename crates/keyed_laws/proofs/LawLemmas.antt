-- Changes made to the table that they are from, and the text of changes read.
use Rattle.std.proofs.Common.{◌≡◌, ◌∙◌, ℕ, Bool, true, false, List, [], ◌∷◌, ◌++◌, All, Option, Some, None, refl, sym, ap, subst}
use Rattle.std.specs.Prelude.{◌&&◌, IfSome}
use Rattle.std.specs.Option.{option_and_then}
use Rattle.std.proofs.lemmas.List.Elements.{All-cons, All-nil, All-append}
use Rattle.csv.specs.Reading.{strip_bom}
use Rattle.eob_both.specs.declared.either_or_both.EitherOrBoth.{EitherOrBoth}
use Rattle.eob_both.specs.Places.{from_places, left_place, right_place}
use Rattle.eob_lists.specs.Join.{value_under}
use Rattle.eob_joins.specs.Changes.{changed}
use Rattle.eob_joins.proofs.TableLemmas.{apply_diff, by_test, kept_join}
use Rattle.keyed_requests.specs.AnswerForm.{writes_heading}
use Rattle.keyed_requests.specs.FormBytes.{comment_of, delimiter_of}
use Rattle.keyed_requests.specs.declared.request.Form.{Form}
use Rattle.keyed_columns.specs.Placed.{placed}
use Rattle.keyed_columns.specs.declared.columns.Place.{Place}
use Rattle.keyed_files.specs.Rows.{change_name, rows_under, shown_sign}
use Rattle.keyed_files.specs.Writing.{text_of}
use Rattle.keyed_files.specs.declared.sign.Sign.{Sign}
use Rattle.keyed_files.specs.declared.sign.Sign.TheVariants.{Minus, Plus}
use Rattle.keyed_text.specs.Laws.{HasCells, HasNoMark}
use Rattle.keyed_text.specs.Texts.{ReadsAs}
use Rattle.keyed_text.specs.declared.style.Style.{Style}
use Rattle.keyed_text.proofs.TextLemmas.{sheet-back}
use Rattle.keyed_jobs.specs.Answers.{AnswersTable, TableChanges, key_cmp, rows_eq}
use Rattle.keyed_jobs.specs.ChangeRows.{change_rows, changes_heading, changes_rows, version_rows}
use Rattle.keyed_jobs.proofs.AnswerLemmas.{key_exact, key_total, rows_decides}
use Rattle.keyed_laws.specs.Laws.{ChangesFitLaw, ChangesMakeLaw, DiffApplyLaw, DiffReadsLaw}

-- a change between two places is from the first one
from_first : {V : Type 0} (eq : V → V → Bool) (m n : Option V) → IfSome (option_and_then (changed eq) (from_places m n)) (λ change. left_place change ≡ m)
from_first eq None None = tt
from_first eq None (Some w) = refl
from_first eq (Some v) None = refl
from_first eq (Some v) (Some w) = by_test (eq v w) (λ t. rw t tt) (λ f. rw f refl)

pub changes_fit : ChangesFitLaw
changes_fit old new changes d k =
    let kept = kept_join key_cmp key_total (List (List (List ℕ))) (List (List (List ℕ))) (EitherOrBoth (List (List (List ℕ))) (List (List (List ℕ)))) changes (changed rows_eq) old new d in
    subst (λ m. IfSome m (λ change. left_place change ≡ value_under key_cmp old k)) (sym (kept.values k)) (from_first rows_eq (value_under key_cmp old k) (value_under key_cmp new k))

pub changes_make : ChangesMakeLaw
changes_make old new changes g h d rows a = apply_diff key_cmp key_total rows_eq key_exact (λ v w. (rows_decides v w).0) old new rows changes g h d a

pub diff_apply : DiffApplyLaw
diff_apply form columns noted by_cells old new changes answer g h d made =
    let patched = made (changes_fit old new changes d) in
    subst (λ rows. AnswersTable form columns noted by_cells rows answer) (changes_make old new changes g h d patched.0 patched.1) patched.2

-- each row of changes has a cell, its sign
full : (cell : List ℕ) (cells : List (List ℕ)) → HasCells (cell ∷ cells)
full cell cells e = cc

signed_full : (sign : Sign) (order : List Place) (key : List (List ℕ)) (rows : List (List (List ℕ))) → All HasCells (rows_under (Some (shown_sign sign)) order key rows)
signed_full sign order key [] = All-nil HasCells
signed_full sign order key (row ∷ rows) =
    All-cons HasCells (shown_sign sign ∷ placed order key row) (rows_under (Some (shown_sign sign)) order key rows) (full (shown_sign sign) (placed order key row)) (signed_full sign order key rows)

version_full : (sign : Sign) (order : List Place) (key : List (List ℕ)) (rows : Option (List (List (List ℕ)))) → All HasCells (version_rows sign order key rows)
version_full sign order key None = All-nil HasCells
version_full sign order key (Some rows) = signed_full sign order key rows

changes_full : (order : List Place) (changes : TableChanges) → All HasCells (changes_rows order changes)
changes_full order [] = All-nil HasCells
changes_full order (change ∷ changes) =
    All-append HasCells (change_rows order change.0 change.1) (changes_rows order changes)
    (All-append HasCells (version_rows Minus order change.0 (left_place change.1)) (version_rows Plus order change.0 (right_place change.1))
    (version_full Minus order change.0 (left_place change.1)) (version_full Plus order change.0 (right_place change.1)))
    (changes_full order changes)

no_mark : (marked : List (List ℕ)) → HasNoMark (change_name ∷ marked)
unfolding strip_bom
no_mark marked = refl

first-true : (a b : Bool) → (a && b) ≡ true → a ≡ true
first-true true b e = refl
first-true false b e = e

-- where an answer has a heading tables have a header
pub has-header : (form : Form) → writes_heading form ≡ true → form.has_header ≡ true
has-header form e = first-true form.has_header _ e

heading_is : (form : Form) (marked : List (List ℕ)) → writes_heading form ≡ true → changes_heading form marked ≡ (change_name ∷ marked) ∷ []
heading_is form marked e = rw e refl

pub diff_reads : DiffReadsLaw
diff_reads form columns noted by_cells marked old new text has parts begins h =
    let d = delimiter_of form in
    let c = comment_of form in
    let header = change_name ∷ marked in
    let rows = changes_rows columns.order.items h.0 in
    let is : text ≡ text_of form (header ∷ rows) = h.2 ∙ ap (λ l. text_of form (l ++ rows)) (heading_is form marked has) in
    let rows_alone : Style = record form.writing.style { has_mark = false; has_end = true } in
    let read = sheet-back rows_alone d c parts begins header rows (no_mark marked) (All-cons HasCells header rows (full change_name marked) (changes_full columns.order.items h.0)) in
    (h.0, h.1, subst (λ t. ReadsAs d c t header rows) (sym is) read.0, λ names found r. read.1 names found (subst (λ t. ReadsAs d c t names found) is r))
