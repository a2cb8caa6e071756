-- From what is said of the rows that two tables begin with to the texts of which they are.
use Rattle.std.proofs.Common.{◌≡◌, ◌∙◌, ℕ, false, List, [], ◌++◌, Option, None, Some, refl, sym, ap, ap₂, subst, subst₂}
use Rattle.std.specs.Prelude.{IfSome}
use Rattle.std.proofs.lemmas.List.Sorted.{IsPermutation-refl}
use Rattle.keyed_requests.specs.declared.request.Joining.{Joining}
use Rattle.keyed_requests.specs.declared.request.Layout.{Layout}
use Rattle.keyed_requests.specs.declared.request.RowFormat.TheVariants as format
use Rattle.keyed_columns.specs.ChangedColumns.{marked_names}
use Rattle.keyed_columns.specs.JoinedNames.{joined_names}
use Rattle.keyed_columns.specs.Keys.{AreChangeColumns, AreJoinColumns}
use Rattle.keyed_columns.specs.Names.{repeats}
use Rattle.keyed_columns.specs.declared.columns.Columns.{Columns}
use Rattle.keyed_columns.specs.declared.columns.JoinColumns.{JoinColumns}
use Rattle.keyed_columns.specs.declared.content.Content.TheVariants.{Rows}
use Rattle.keyed_files.specs.Opening.{IsOpened, IsRenamed, first_header, form_of, next_header}
use Rattle.keyed_files.specs.Reading.{IsOpen}
use Rattle.keyed_files.specs.Writing.{text_of}
use Rattle.keyed_files.specs.declared.opened.Stream.{Stream}
use Rattle.keyed_files.specs.declared.opened.Two.{Two}
use Rattle.keyed_files.proofs.TableLemmas.{open-renamed}
use Rattle.keyed_jobs.specs.ChangeRows.{changes_heading, changes_rows}
use Rattle.keyed_jobs.specs.Written.{PutsBeginning}
use Rattle.keyed_jobs.specs.declared.job.Job.{Job}
use Rattle.keyed_jobs.proofs.ReadLemmas.{are-names, both-known}
use Rattle.keyed_commands.specs.FirstRows.{ReadsFirst, table_of}
use Rattle.keyed_commands.specs.JoinAnswers.{header_of_join}
use Rattle.keyed_commands.specs.PartAnswers.{SaysJoin}
use Rattle.keyed_commands.specs.SortedBegun.{DiffsStreamsBegun, JoinsStreamsBegun, DiffsFirst, DiffsFirstRows, JoinsFirstRows}
use Rattle.keyed_commands.specs.SortedParts.{SaysFirst}
use Rattle.keyed_commands.specs.declared.commands.join.JoinForm.{JoinForm}
use Rattle.keyed_commands.specs.declared.sorted.ChangesForm.TheVariants as way
use Rattle.keyed_commands.specs.declared.sorted.Work.TheVariants as work
use Rattle.keyed_commands.proofs.JoinLemmas.{once_asked}
use Rattle.keyed_commands.proofs.PartsBegunLemmas.{begun_not, begun_weaker}
use Rattle.keyed_commands.proofs.SortedTextLemmas.{said_headed}

-- what holds of any two texts holds of two that are known
any_known : {T : List ℕ → List ℕ → Type 0} (m n : Option (List ℕ)) → ((t u : List ℕ) → T t u) → IfSome m (λ t. IfSome n (λ u. T t u))
any_known None n f = tt
any_known (Some t) None f = tt
any_known (Some t) (Some u) f = f t u

-- nothing is put
module _ {R : Type 0} (rem : R → Option (List ℕ)) (layout : Layout) (file : List ℕ) (before : Option (List ℕ)) (first next : Stream R) where
  pub diffs-not : DiffsStreamsBegun rem layout first next file before before
  diffs-not =
      any_known {T = λ t u. PutsBeginning (DiffsFirstRows layout (form_of layout.form first) (form_of layout.form next) t u) file before before} _ _
      (λ t u. begun_not (DiffsFirstRows layout (form_of layout.form first) (form_of layout.form next) t u) file before)

  pub joins-not : (how : Joining) → JoinsStreamsBegun rem layout how first next file before before
  joins-not how =
      any_known {T = λ t u. PutsBeginning (JoinsFirstRows layout how (form_of layout.form first) (form_of layout.form next) t u) file before before} _ _
      (λ t u. begun_not (JoinsFirstRows layout how (form_of layout.form first) (form_of layout.form next) t u) file before)

module _ {R : Type 0} (rem : R → Option (List ℕ)) (layout : Layout) (file : List ℕ) (before after : Option (List ℕ)) where
  -- changes of the first rows of two tables
  module _ (job : Job Columns) (marked : List (List ℕ)) (columns : Columns) (versions : Two R) (form : job.form ≡ layout.form) (same : job.columns.now ≡ columns)
      (columned : AreChangeColumns layout.key (first_header versions) (next_header versions) columns)
      (marks : marked ≡ marked_names (first_header versions) (next_header versions)) where
    diffs_first : (text : List ℕ) → SaysFirst rem (work.Changes job (way.Csv marked)) versions text → DiffsFirst rem layout versions text
    diffs_first text w =
        let says = w.says in record {
          columns = columns;
          columned = columned;
          bound = w.bound;
          old = w.left;
          new = w.right;
          old_read = subst (λ c. ReadsFirst rem c versions.first.source.value w.bound w.left) same w.left_read;
          new_read = subst (λ c. ReadsFirst rem c versions.next.source.value w.bound w.right) same w.right_read;
          changes = says.0;
          are = says.1;
          is = says.2 ∙ ap (λ c. text_of job.form (changes_heading job.form marked ++ changes_rows c.order.items says.0)) same
              ∙ ap₂ (λ f m. text_of f (changes_heading f m ++ changes_rows columns.order.items says.0)) form marks;
        }

    pub diffs-first : PutsBeginning (SaysFirst rem (work.Changes job (way.Csv marked)) versions) file before after
        → PutsBeginning (DiffsFirst rem layout versions) file before after
    diffs-first h = begun_weaker (SaysFirst rem (work.Changes job (way.Csv marked)) versions) (DiffsFirst rem layout versions) file before after diffs_first h

  -- of the texts
  pub diffs-begun : (old new : Stream R) (versions named : Two R) → IsOpened rem layout.form Rows old versions.first → IsOpened rem layout.form Rows new versions.next
      → IsRenamed layout.key versions.first.source.value named.first.source.value → named.next ≡ versions.next
      → PutsBeginning (DiffsFirst rem layout named) file before after → DiffsStreamsBegun rem layout old new file before after
  diffs-begun old new versions named first next renamed same h =
      both-known {T = λ t u. PutsBeginning (DiffsFirstRows layout (form_of layout.form old) (form_of layout.form new) t u) file before after} _ _ first next (λ t u opened beside.
      let begun = open-renamed rem layout.key (form_of layout.form old) Rows t _ _ named.first.source.value renamed opened in
      let next_begun = subst (λ two. IsOpen (form_of layout.form new) Rows rem u two.source.value.header.names two.source.value) (sym same) beside in
      begun_weaker (DiffsFirst rem layout named) (DiffsFirstRows layout (form_of layout.form old) (form_of layout.form new) t u) file before after (λ text d. record {
        columns = d.columns;
        header = versions.first.source.value.header.names;
        names = named.first.source.value.header.names;
        next_header = named.next.source.value.header.names;
        named = are-names layout.key versions.first.source.value named.first.source.value renamed;
        columned = d.columned;
        bound = d.bound;
        old = d.old;
        new = d.new;
        old_begins = d.old_read _ _ t _ begun;
        new_begins = d.new_read _ _ u _ next_begun;
        changes = (d.changes, (d.changes, d.are, (d.changes, IsPermutation-refl d.changes, refl, refl)), d.is);
      }) h)

  -- the join of the first rows of two tables, of the texts
  pub joins-begun : (job : Job JoinColumns) (made : JoinForm) (how : Joining) (columns : JoinColumns) (left right : Stream R) (sides : Two R)
      → IsOpened rem layout.form Rows left sides.first → IsOpened rem layout.form Rows right sides.next → job.form ≡ layout.form → job.columns.now ≡ columns
      → AreJoinColumns layout.key (first_header sides) (next_header sides) columns → made.kind ≡ how.kind → made.format ≡ format.Csv → how.format ≡ format.Csv
      → made.header ≡ header_of_join layout.form how columns → repeats [] made.header ≡ false
      → PutsBeginning (SaysFirst rem (work.Join job made) sides) file before after → JoinsStreamsBegun rem layout how left right file before after
  joins-begun job made how columns left right sides first next form same columned kind is_csv csv named once h =
      both-known {T = λ t u. PutsBeginning (JoinsFirstRows layout how (form_of layout.form left) (form_of layout.form right) t u) file before after} _ _ first next (λ t u opened beside.
      begun_weaker (SaysFirst rem (work.Join job made) sides) (JoinsFirstRows layout how (form_of layout.form left) (form_of layout.form right) t u) file before after (λ text w. record {
        columns = columns;
        left_header = sides.first.source.value.header.names;
        right_header = sides.next.source.value.header.names;
        columned = columned;
        bound = w.bound;
        left = w.left;
        right = w.right;
        left_begins = subst (λ c. ReadsFirst rem c.left sides.first.source.value w.bound w.left) same w.left_read _ _ t _ opened;
        right_begins = subst (λ c. ReadsFirst rem c.right sides.next.source.value w.bound w.right) same w.right_read _ _ u _ beside;
        once = once_asked layout.form.has_header how.format made.header (joined_names how.kind how.names columns) csv named once;
        says = said_headed rem layout how columns made.header (table_of w.left) (table_of w.right) text csv named
            (subst (λ k. SaysJoin layout.form columns made.header k (table_of w.left) (table_of w.right) text) kind
            (subst₂ (λ f c. SaysJoin f c made.header made.kind (table_of w.left) (table_of w.right) text) form same (w.says.0 is_csv)));
      }) h)
