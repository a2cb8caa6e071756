-- From what is written of two tables, part by part, to the texts of which they are.
use Rattle.std.proofs.Common.{◌≡◌, ◌∙◌, ◌==◌, ◌↔◌, ◌++◌, ℕ, Bool, true, false, List, [], ◌∷◌, Option, length, refl, sym, ap, ap₂, subst, subst₂, if◌then◌else◌}
use Rattle.std.specs.Prelude.{◌&&◌, not}
use Rattle.std.proofs.lemmas.List.Sorted.{IsPermutation-refl}
use Rattle.keyed_requests.specs.AnswerForm.{is_written}
use Rattle.keyed_requests.specs.declared.request.Joining.{Joining}
use Rattle.keyed_requests.specs.declared.request.Kind.{Kind}
use Rattle.keyed_requests.specs.declared.request.Kind.TheVariants as kind
use Rattle.keyed_requests.specs.declared.request.Layout.{Layout}
use Rattle.keyed_requests.specs.declared.request.RowFormat.TheVariants as format
use Rattle.keyed_columns.specs.ChangedColumns.{marked_names}
use Rattle.keyed_columns.specs.JoinedNames.{joined_names}
use Rattle.keyed_columns.specs.Keys.{AreChangeColumns, AreJoinColumns}
use Rattle.keyed_columns.specs.Names.{repeats}
use Rattle.keyed_columns.specs.declared.columns.Columns.{Columns}
use Rattle.keyed_columns.specs.declared.columns.JoinColumns.{JoinColumns}
use Rattle.keyed_columns.specs.declared.content.Content.TheVariants.{Rows}
use Rattle.keyed_files.specs.Opening.{IsOpened, IsRenamed, first_header, form_of, next_header}
use Rattle.keyed_files.specs.Reading.{IsOpen}
use Rattle.keyed_files.specs.Writing.{text_of}
use Rattle.keyed_files.specs.declared.opened.Stream.{Stream}
use Rattle.keyed_files.specs.declared.opened.Two.{Two}
use Rattle.keyed_files.proofs.TableLemmas.{open-renamed}
use Rattle.keyed_jobs.specs.Answers.{TableChanges, TableRows, key_cmp, rows_eq, status_of}
use Rattle.keyed_jobs.specs.ChangeRows.{changes_heading, changes_rows}
use Rattle.keyed_jobs.specs.TablesRead.{ReadsTable, headers_differ}
use Rattle.keyed_jobs.specs.declared.job.Job.{Job}
use Rattle.keyed_jobs.proofs.AnswerLemmas.{key_exact, key_total, none_same, rows_decides, same_none}
use Rattle.keyed_jobs.proofs.ReadLemmas.{are-names, both-known}
use Rattle.keyed_commands.specs.JoinAnswers.{header_of_join}
use Rattle.keyed_commands.specs.PartAnswers.{SaysJoin, heading_of_kind}
use Rattle.keyed_commands.specs.SortedTexts.{DiffsInParts, DiffsStreamsInParts, DiffsTextsInParts, JoinsInParts, JoinsStreamsInParts, JoinsTextsInParts}
use Rattle.keyed_commands.specs.SortedParts.{WritesTables}
use Rattle.keyed_commands.specs.declared.commands.join.JoinForm.{JoinForm}
use Rattle.keyed_commands.specs.declared.sorted.ChangesForm.TheVariants as way
use Rattle.keyed_commands.specs.declared.sorted.Work.TheVariants as work
use Rattle.keyed_commands.proofs.JoinLemmas.{once_asked, same_heading}
use Rattle.keyed_commands.proofs.PartsSaidLemmas.{not_empty}

-- the status of changes, where columns come or go or do not
status_same : (differ : Bool) (old new : TableRows) (changes : TableChanges) (status : ℕ) → ((changes ≡ [] → old ≡ new) × (old ≡ new → changes ≡ []))
    → status ≡ status_of ((length changes == 0) && not differ)
    → (same : Bool) × ((same ≡ true) ↔ ((old ≡ new) × (differ ≡ false))) × (status ≡ status_of same)
status_same true old new [] status is e = (false, ((λ h. absurd (cc h)), (λ h. absurd (cc h.1))), e)
status_same false old new [] status is e = (true, ((λ h. (is.0 refl, refl)), (λ h. refl)), e)
status_same true old new (change ∷ changes) status is e =
    (false, ((λ h. absurd (cc h)), (λ h. absurd (cc h.1))), e ∙ ap (λ b. status_of (b && false)) (not_empty change changes))
status_same false old new (change ∷ changes) status is e =
    (false, ((λ h. absurd (cc h)), (λ h. absurd (cc (is.1 h.0)))), e ∙ ap (λ b. status_of (b && true)) (not_empty change changes))

module _ {R : Type 0} (rem : R → Option (List ℕ)) (layout : Layout) where
  -- changes that are written part by part are those of the texts
  pub diffs-in-parts : (old new : Stream R) (versions named : Two R) (before after : Option (List ℕ)) (status : ℕ)
      → IsOpened rem layout.form Rows old versions.first → IsOpened rem layout.form Rows new versions.next
      → IsRenamed layout.key versions.first.source.value named.first.source.value → named.next ≡ versions.next
      → DiffsInParts rem layout named before after status → DiffsStreamsInParts rem layout old new before after status
  diffs-in-parts old new versions named before after status first next renamed same h =
      both-known {T = λ t u. DiffsTextsInParts layout (form_of layout.form old) (form_of layout.form new) t u before after status} _ _ first next (λ t u opened beside.
      let begun = open-renamed rem layout.key (form_of layout.form old) Rows t _ _ named.first.source.value renamed opened in
      let next_begun = subst (λ two. IsOpen (form_of layout.form new) Rows rem u two.source.value.header.names two.source.value) (sym same) beside in
      let old_says = h.old_read _ _ t _ begun in
      let new_says = h.new_read _ _ u _ next_begun in
      record {
        columns = h.columns;
        header = versions.first.source.value.header.names;
        names = named.first.source.value.header.names;
        next_header = named.next.source.value.header.names;
        named = are-names layout.key versions.first.source.value named.first.source.value renamed;
        columned = h.columned;
        old = h.old;
        new = h.new;
        old_says = old_says;
        new_says = new_says;
        text = h.text;
        changes = (h.changes, (h.changes, h.are, (h.changes, IsPermutation-refl h.changes, refl, refl)), h.is);
        puts = h.puts;
        told = status_same (headers_differ named.first.source.value.header.names named.next.source.value.header.names) h.old h.new h.changes status (
          (λ e. none_same rows_eq rows_decides key_cmp key_total key_exact h.old h.new h.changes old_says.2.0.2.rises new_says.2.0.2.rises h.are e),
          (λ e. same_none rows_eq rows_decides key_cmp key_total key_exact h.old h.new h.changes h.are e),
        ) h.told;
      })

  -- the status where columns come or go, or do not
  told_with : (differ none : Bool) → (if differ then 1 else status_of none) ≡ status_of (none && not differ)
  told_with true true = refl
  told_with true false = refl
  told_with false true = refl
  told_with false false = refl

  -- what is written of the changes of two tables
  pub diffs-written : (job : Job Columns) (marked : List (List ℕ)) (columns : Columns) (versions : Two R) (before after : Option (List ℕ)) (differ : Bool) (status final : ℕ)
      → job.form ≡ layout.form → job.columns.now ≡ columns → AreChangeColumns layout.key (first_header versions) (next_header versions) columns
      → marked ≡ marked_names (first_header versions) (next_header versions) → differ ≡ headers_differ (first_header versions) (next_header versions)
      → final ≡ (if differ then 1 else status) → WritesTables rem (work.Changes job (way.Csv marked)) versions before after status
      → DiffsInParts rem layout versions before after final
  diffs-written job marked columns versions before after differ status final form same columned marks differs is w =
      let says = w.says in
      let none = length says.0 == 0 in record {
        columns = columns;
        columned = columned;
        old = w.left;
        new = w.right;
        old_read = subst (λ c. ReadsTable rem false c versions.first.source.value w.left) same w.left_read;
        new_read = subst (λ c. ReadsTable rem false c versions.next.source.value w.right) same w.right_read;
        changes = says.0;
        are = says.1;
        text = w.text;
        is = says.2 ∙ ap (λ c. text_of job.form (changes_heading job.form marked ++ changes_rows c.order.items says.0)) same
            ∙ ap₂ (λ f m. text_of f (changes_heading f m ++ changes_rows columns.order.items says.0)) form marks;
        puts = w.puts;
        told = is ∙ ap (λ s. if differ then 1 else s) says.3 ∙ told_with differ none ∙ ap (λ d. status_of (none && not d)) differs;
      }

  -- and of their join
  pub joins-written : (job : Job JoinColumns) (made : JoinForm) (how : Joining) (columns : JoinColumns) (sides : Two R) (before after : Option (List ℕ)) (status : ℕ)
      → job.form ≡ layout.form → job.columns.now ≡ columns → AreJoinColumns layout.key (first_header sides) (next_header sides) columns → made.kind ≡ how.kind
      → made.format ≡ format.Csv → made.header ≡ header_of_join layout.form how columns → repeats [] made.header ≡ false
      → WritesTables rem (work.Join job made) sides before after status → JoinsInParts rem layout how made.header sides before after status
  joins-written job made how columns sides before after status form same columned kind csv named once w = record {
    columns = columns;
    columned = columned;
    named = named;
    once = once;
    left = w.left;
    right = w.right;
    left_read = subst (λ c. ReadsTable rem false c.left sides.first.source.value w.left) same w.left_read;
    right_read = subst (λ c. ReadsTable rem false c.right sides.next.source.value w.right) same w.right_read;
    text = w.text;
    says = subst (λ k. SaysJoin layout.form columns made.header k w.left w.right w.text) kind
        (subst₂ (λ f c. SaysJoin f c made.header made.kind w.left w.right w.text) form same (w.says.0 csv));
    puts = w.puts;
    told = w.says.1;
  }

  -- the heading of a join whose header is that of the names that are asked for
  headed : (how : Joining) (columns : JoinColumns) (header : List (List ℕ)) → how.format ≡ format.Csv → header ≡ header_of_join layout.form how columns
      → (made : Kind) → heading_of_kind layout.form columns header made ≡ heading_of_kind layout.form columns (joined_names how.kind how.names columns) made
  headed how columns header csv written kind.Outer =
      same_heading layout.form.has_header (is_written layout.form.writing.heading) how.format header (joined_names how.kind how.names columns) csv written
  headed how columns header csv written kind.Inner =
      same_heading layout.form.has_header (is_written layout.form.writing.heading) how.format header (joined_names how.kind how.names columns) csv written
  headed how columns header csv written kind.Left =
      same_heading layout.form.has_header (is_written layout.form.writing.heading) how.format header (joined_names how.kind how.names columns) csv written
  headed how columns header csv written kind.Right =
      same_heading layout.form.has_header (is_written layout.form.writing.heading) how.format header (joined_names how.kind how.names columns) csv written
  headed how columns header csv written kind.Semi = refl
  headed how columns header csv written kind.Anti = refl

  pub said_headed : (how : Joining) (columns : JoinColumns) (header : List (List ℕ)) (left right : TableRows) (text : List ℕ) → how.format ≡ format.Csv
      → header ≡ header_of_join layout.form how columns → SaysJoin layout.form columns header how.kind left right text
      → SaysJoin layout.form columns (joined_names how.kind how.names columns) how.kind left right text
  said_headed how columns header left right text csv written h =
      (h.0, h.1, (h.2.0, h.2.1 ∙ ap (λ l. l ++ h.0) (headed how columns header csv written how.kind), h.2.2))

  -- a join that is written part by part is that of the texts
  pub joins-in-parts : (how : Joining) (left right : Stream R) (sides : Two R) (header : List (List ℕ)) (before after : Option (List ℕ)) (status : ℕ)
      → IsOpened rem layout.form Rows left sides.first → IsOpened rem layout.form Rows right sides.next → how.format ≡ format.Csv
      → JoinsInParts rem layout how header sides before after status → JoinsStreamsInParts rem layout how left right before after status
  joins-in-parts how left right sides header before after status first next csv h =
      both-known {T = λ t u. JoinsTextsInParts layout how (form_of layout.form left) (form_of layout.form right) t u before after status} _ _ first next (λ t u opened beside. record {
        columns = h.columns;
        left_header = sides.first.source.value.header.names;
        right_header = sides.next.source.value.header.names;
        columned = h.columned;
        left = h.left;
        right = h.right;
        left_says = h.left_read _ _ t _ opened;
        right_says = h.right_read _ _ u _ beside;
        once = once_asked layout.form.has_header how.format header (joined_names how.kind how.names h.columns) csv h.named h.once;
        text = h.text;
        says = said_headed how h.columns header h.left h.right h.text csv h.named h.says;
        puts = h.puts;
        told = h.told;
      })
