-- Rows of a join as they are put, and from the tables that are joined to their texts.
use Rattle.std.proofs.Common.{◌≡◌, ◌∙◌, ℕ, Bool, true, false, List, [], ◌∷◌, ◌++◌, Option, refl, sym, ap, subst}
use Rattle.std.specs.Prelude.{◌&&◌, option_map, if◌then◌else◌}
use Rattle.keyed_requests.specs.AnswerForm.{is_written}
use Rattle.keyed_requests.specs.declared.request.Form.{Form}
use Rattle.keyed_requests.specs.declared.request.Joining.{Joining}
use Rattle.keyed_requests.specs.declared.request.Kind.{Kind}
use Rattle.keyed_requests.specs.declared.request.Kind.TheVariants as kind
use Rattle.keyed_requests.specs.declared.request.RowFormat.{RowFormat}
use Rattle.keyed_requests.specs.declared.request.RowFormat.TheVariants as format
use Rattle.keyed_requests.specs.declared.request.Settings.{Settings}
use Rattle.keyed_columns.specs.JoinedNames.{joined_names}
use Rattle.keyed_columns.specs.Keys.{AreJoinColumns}
use Rattle.keyed_columns.specs.Names.{repeats}
use Rattle.keyed_columns.specs.declared.columns.JoinColumns.{JoinColumns}
use Rattle.keyed_columns.specs.declared.content.Content.TheVariants.{Rows}
use Rattle.keyed_files.specs.JoinedRows.{join_heading, joined_rows, left_of, right_of}
use Rattle.keyed_files.specs.Opening.{IsOpened, form_of}
use Rattle.keyed_files.specs.Writing.{PutsRows, Wrote, quoted_text}
use Rattle.keyed_files.specs.declared.joined_rows.Sides.{Sides}
use Rattle.keyed_files.specs.declared.opened.Stream.{Stream}
use Rattle.keyed_files.specs.declared.opened.Two.{Two}
use Rattle.keyed_files.specs.declared.written.Written.{Written}
use Rattle.keyed_files.proofs.WritingLemmas.{no-rows-left, then-rows}
use Rattle.keyed_jobs.specs.ComeOut.{AlikeIn, AlikePlaces, AlikeRows, HasGroups}
use Rattle.keyed_jobs.specs.Answers.{TableRows}
use Rattle.keyed_commands.specs.JoinAnswers.{AlikeBoth, AlikeLeft, AlikeRight, IsJoinText, IsTextOfJoin, JoinsSources, JoinsStreams, JoinsTexts, PutsJoin, PutsSides, RowSides}
use Rattle.keyed_commands.specs.JoinAnswers.{header_of_join, heading_of_join, inner_sides, join_rows, left_sides, names_as, outer_sides, right_sides, rows_of_sides}
use Rattle.keyed_tables.specs.Arranged.{noted}
use Rattle.keyed_jobs.specs.FileOrder.{begun_keys, noted_with}
use Rattle.keyed_jobs.specs.TablesRead.{IsUnordered, SaysTable}
use Rattle.keyed_jobs.specs.declared.answer.Answer.{Answer}
use Rattle.keyed_jobs.specs.declared.job.Job.{Job}
use Rattle.keyed_jobs.proofs.ReadLemmas.{both-known}
use Rattle.keyed_jobs.proofs.NotedLemmas.{notes-known}

-- the header of a join
pub heading_then : (form : Form) (written : Written) (rows : List (List (List ℕ))) (has : Bool) → has ≡ true → Wrote form rows written
    → Wrote form (if has then rows else []) written
heading_then form written rows has is h = let P : Bool → Type 0 = λ b. Wrote form (if b then rows else []) written in subst P (sym is) h

-- a value that is alike, and the same where rows have the order of cells
pub alike_in : {V : Type 0} (b : Bool) (P : V → V → Type 0) (v w : V) → P v w → (b ≡ true → w ≡ v) → AlikeIn b P v w
alike_in true P v w h same = same refl
alike_in false P v w h same = h

-- the rows of the sides that references show
pub sides_put : (columns : JoinColumns) (key : List (List ℕ)) (a b : Written) (sides : Sides) (row : RowSides)
    → option_map (λ cell. cell.now) sides.first ≡ row.first → left_of sides ≡ row.left → right_of sides ≡ row.right
    → PutsRows a b (joined_rows columns key sides) → PutsRows a b (rows_of_sides columns key row)
sides_put columns key a b sides row first left right h =
    let P : RowSides → Type 0 = λ r. PutsRows a b (rows_of_sides columns key r) in
    let one = subst (λ m. P (record { first = m; left = left_of sides; right = right_of sides })) first h in
    let two = subst (λ m. P (record { first = row.first; left = m; right = right_of sides })) left one in
    subst (λ m. P (record { first = row.first; left = row.left; right = m })) right two

module _ {K V : Type 0} (P : V → V → Type 0) where
  groups_next : (b : Bool) (row : K × V) (shown : V) (rest others : List (K × V)) → AlikeIn b P row.1 shown → HasGroups b P rest others
      → HasGroups b P (row ∷ rest) ((row.0, shown) ∷ others)
  groups_next true row shown rest others e h = ap (λ v. (row.0, v) ∷ others) e ∙ ap (λ l. row ∷ l) h
  groups_next false row shown rest others a h = ((refl, a), h)

groups_none : (K : Type 0) {V : Type 0} (P : V → V → Type 0) (b : Bool) → HasGroups {K = K} b P [] []
groups_none K P true = refl
groups_none K P false = tt

-- the rows under one more key, and no more
module _ {V : Type 0} (columns : JoinColumns) (shows : V → RowSides) (b : Bool) (P : V → V → Type 0) where
  pub join_then : (a m e : Written) (row : List (List ℕ) × V) (left rest : List (List (List ℕ) × V)) → left ≡ row ∷ rest
      → PutsSides columns shows b P a m row → PutsJoin columns shows b P m e rest → PutsJoin columns shows b P a e left
  join_then a m e row left rest is g h =
      subst (PutsJoin columns shows b P a e) (sym is)
      ((row.0, g.0) ∷ h.0, groups_next P b row g.0 rest h.0 g.1 h.1, then-rows a m e (rows_of_sides columns row.0 (shows g.0)) _ g.2 h.2)

  pub join_none : (a : Written) (left : List (List (List ℕ) × V)) → left ≡ [] → PutsJoin columns shows b P a a left
  join_none a left is = subst (PutsJoin columns shows b P a a) (sym is) ([], groups_none (List (List ℕ)) P b, no-rows-left a [] refl)

-- no name stands twice among none
pub none-twice : repeats [] [] ≡ false
unfolding repeats
none-twice = refl

-- the header that is written of names is that of the names that are asked for
pub same_heading : (has shows : Bool) (made : RowFormat) (header names : List (List ℕ)) → made ≡ format.Csv → header ≡ (if has then names_as made names else [])
    → (if has && shows then join_heading header else []) ≡ (if has && shows then join_heading names else [])
same_heading true true format.Csv header names csv is = ap join_heading is
same_heading true true format.Json header names csv is = absurd (cc csv)
same_heading true false made header names csv is = refl
same_heading false shows made header names csv is = refl

pub once_asked : (has : Bool) (made : RowFormat) (header names : List (List ℕ)) → made ≡ format.Csv → header ≡ (if has then names_as made names else [])
    → repeats [] header ≡ false → has ≡ true → repeats [] names ≡ false
once_asked true format.Csv header names csv is once headed = subst (λ l. repeats [] l ≡ false) is once
once_asked true format.Json header names csv is once headed = absurd (cc csv)
once_asked false made header names csv is once headed = absurd (cc headed)

-- the text of a join whose header is that of other names
module _ (form : Form) (columns : JoinColumns) (names others : List (List ℕ)) (noted : Option (List (List (List ℕ)))) (by_cells : Bool)
    (same : heading_of_join form names ≡ heading_of_join form others) where
  headed_by : {V : Type 0} (shows : V → RowSides) (alike : V → V → Type 0) (rows : List (List (List ℕ) × V)) (text : List ℕ)
      → IsTextOfJoin form columns names noted by_cells shows alike rows text → IsTextOfJoin form columns others noted by_cells shows alike rows text
  headed_by shows alike rows text h = (h.0, h.1, h.2 ∙ ap (λ heading. quoted_text form (heading ++ join_rows columns shows h.0)) same)

  join_headed : (made : Kind) (left right : TableRows) (text : List ℕ) → IsJoinText form columns names noted by_cells made left right text
      → IsJoinText form columns others noted by_cells made left right text
  join_headed kind.Outer left right text h = (h.0, h.1, headed_by outer_sides (AlikePlaces AlikeRows AlikeRows) h.0 text h.2)
  join_headed kind.Inner left right text h = (h.0, h.1, headed_by inner_sides AlikeBoth h.0 text h.2)
  join_headed kind.Left left right text h = (h.0, h.1, headed_by left_sides AlikeLeft h.0 text h.2)
  join_headed kind.Right left right text h = (h.0, h.1, headed_by right_sides AlikeRight h.0 text h.2)
  join_headed kind.Semi left right text h = h
  join_headed kind.Anti left right text h = h

-- two streams that are joined, of their texts
module _ {R : Type 0} (rem : R → Option (List ℕ)) (settings : Settings) (how : Joining) (left right : Stream R) (sides : Two R) (job : Job JoinColumns)
    (header : List (List ℕ)) (answer : Answer) where
  abbrev names : List (List ℕ)
  names = joined_names how.kind how.names job.columns.now

  pub join-streams : IsOpened rem settings.form Rows left sides.first → IsOpened rem settings.form Rows right sides.next
      → job.form ≡ settings.form → job.groups ≡ settings.groups → (settings.keeps_order ≡ false → IsUnordered job) → noted job.order ≡ begun_keys settings.keeps_order
      → AreJoinColumns settings.key sides.first.source.value.header.names sides.next.source.value.header.names job.columns.now
      → how.format ≡ format.Csv → header ≡ header_of_join settings.form how job.columns.now → repeats [] header ≡ false
      → JoinsSources rem job how.kind header sides answer → JoinsStreams rem settings how left right answer
  join-streams first next form groups unordered begins columned csv written once read =
      both-known {T = λ t u. JoinsTexts settings how (form_of settings.form left) (form_of settings.form right) t u answer} _ _ first next (λ t u opened beside. record {
        columns = job.columns.now;
        left_header = sides.first.source.value.header.names;
        right_header = sides.next.source.value.header.names;
        columned = columned;
        left = read.left;
        right = read.right;
        left_says = subst (λ g. SaysTable (form_of settings.form left) Rows g t sides.first.source.value.header.names sides.first.source.value.header.names job.columns.now.left read.left)
            groups (read.left_read _ _ t _ opened);
        right_says = subst (λ g. SaysTable (form_of settings.form right) Rows g u sides.next.source.value.header.names sides.next.source.value.header.names job.columns.now.right read.right)
            groups (read.right_read _ _ u _ beside);
        ordered = notes-known rem Rows job.columns.now.left job.columns.now.right sides.first.source.value sides.next.source.value noted_with settings.keeps_order (noted job.order) read.join.keys
            (form_of settings.form left) (form_of settings.form right) t u _ _ begins read.notes opened beside;
        once = once_asked settings.form.has_header how.format header names csv written once;
        join = record {
          keys = read.join.keys;
          by_cells = read.join.by_cells;
          join = join_headed settings.form job.columns.now header names read.join.keys read.join.by_cells
              (same_heading settings.form.has_header (is_written settings.form.writing.heading) how.format header names csv written) how.kind read.left read.right answer.bytes.items
              (subst (λ f. IsJoinText f job.columns.now header read.join.keys read.join.by_cells how.kind read.left read.right answer.bytes.items) form read.join.join);
          order = λ by_key. read.join.order (unordered by_key);
        };
        status = read.status;
        outcome = read.outcome;
      })
