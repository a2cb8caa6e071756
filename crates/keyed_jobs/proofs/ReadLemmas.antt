-- From the rows that are read of a file to its table.
use Rattle.std.proofs.Common.{◌≡◌, ◌∙◌, ◌++◌, ℕ, Bool, true, false, List, [], Option, None, Some, ap, subst, sym}
use Rattle.std.specs.Prelude.{◌↔◌, ◌||◌, IfSome}
use Rattle.keyed_requests.specs.declared.request.Settings.{Settings}
use Rattle.keyed_columns.specs.ChangedColumns.{marked_names}
use Rattle.keyed_columns.specs.Keys.{AreChangeColumns}
use Rattle.keyed_columns.specs.Names.{compared, has_lone}
use Rattle.keyed_columns.specs.declared.column_changes.ColumnChanges.{ColumnChanges}
use Rattle.keyed_columns.specs.declared.columns.Columns.{Columns}
use Rattle.keyed_columns.specs.declared.content.Content.TheVariants.{Rows}
use Rattle.keyed_files.specs.Opening.{IsNamedAnew, IsOpened, IsRenamed, form_of}
use Rattle.keyed_files.specs.Reading.{IsOpen, ReadsRows}
use Rattle.keyed_files.proofs.TableLemmas.{open-anew}
use Rattle.keyed_files.specs.declared.opened.Stream.{Stream}
use Rattle.keyed_files.specs.declared.opened.Two.{Two}
use Rattle.keyed_files.specs.declared.source.Source.{Source}
use Rattle.keyed_rows.specs.declared.row.ReadRow.{ReadRow}
use Rattle.keyed_jobs.specs.Answers.{IsDiffStatus, IsDiffText, TableRows, status_of}
use Rattle.keyed_jobs.specs.TablesRead.{AreNames, DiffsSources, DiffsStreams, DiffsTexts, Gathers, IsStatusBetween, IsUnordered, ReadsTable, SaysTable, headers_differ}
use Rattle.keyed_tables.specs.Arranged.{noted}
use Rattle.keyed_jobs.specs.Beside.{AnswersBeside, DiffsBesideSources, DiffsBesideStreams, DiffsBesideTexts}
use Rattle.keyed_jobs.specs.FileOrder.{begun_keys, noted_with}
use Rattle.keyed_jobs.specs.declared.answer.Answer.{Answer}
use Rattle.keyed_jobs.specs.declared.job.Job.{Job}
use Rattle.keyed_jobs.proofs.NotedLemmas.{notes-known}

-- rows that are read after none are those of the table
pub table-gathered : {R : Type 0} (rem : R → Option (List ℕ)) (groups : Bool) (columns : Columns) (source : Source R) (old rows : List ReadRow) (table : TableRows)
    → old ≡ [] → ReadsRows rem columns source old rows → Gathers groups rows table → ReadsTable rem groups columns source table
table-gathered rem groups columns source old rows table none reads gathered = λ form kind text header begun.
    let read = reads form kind text header begun in
    (read.0, read.2, subst (λ all. Gathers groups all table) (read.1 ∙ ap (λ l. l ++ read.0) none) gathered)

-- the status of `diff`, by the headers of both tables
pub status-between : (changes : ColumnChanges) (before after : List (List ℕ)) (old new : TableRows) (status : ℕ) → (changes.before.now, changes.after.now) ≡ compared before after
    → IsDiffStatus changes old new status → IsStatusBetween before after old new status
status-between changes before after old new status e h =
    subst (λ differ. (same : Bool) × ((same ≡ true) ↔ ((old ≡ new) × (differ ≡ false))) × (status ≡ status_of same))
    (ap (λ p. has_lone p.0 p.1 || has_lone p.1 p.0) e) h

-- the names by which columns are read, from those of the header
pub are-names : {R A : Type 0} (key : Option A) (old new : Source R) → IsRenamed key old new → AreNames key old.header.names new.header.names
are-names None old new same = ap (λ source. source.header.names) same
are-names (Some key) old new renamed = (renamed.0, renamed.1, renamed.3)

-- what holds of two texts that are known
pub both-known : {P Q : List ℕ → Type 0} {T : List ℕ → List ℕ → Type 0} (m n : Option (List ℕ)) → IfSome m P → IfSome n Q
    → ((t u : List ℕ) → P t → Q u → T t u) → IfSome m (λ t. IfSome n (λ u. T t u))
both-known None n p q f = tt
both-known (Some t) None p q f = tt
both-known (Some t) (Some u) p q f = f t u p q

-- two streams that are read, of their texts
module _ {R : Type 0} (rem : R → Option (List ℕ)) (settings : Settings) (old new : Stream R) (versions named : Two R) (job : Job Columns) (answer : Answer) where
  pub diff-streams : IsOpened rem settings.form Rows old versions.first → IsOpened rem settings.form Rows new versions.next
      → IsNamedAnew settings versions.first.source.value named.first.source.value → named.next ≡ versions.next
      → job.form ≡ settings.form → job.groups ≡ settings.groups → (settings.keeps_order ≡ false → IsUnordered job) → noted job.order ≡ begun_keys settings.keeps_order
      → AreChangeColumns settings.key named.first.source.value.header.names named.next.source.value.header.names job.columns.now
      → DiffsSources rem job named answer → DiffsStreams rem settings old new answer
  diff-streams first next renamed same form groups unordered begins columned read =
      both-known {T = λ t u. DiffsTexts settings (form_of settings.form old) (form_of settings.form new) t u answer} _ _ first next (λ t u opened beside.
      let begun = open-anew rem settings (form_of settings.form old) Rows t _ _ named.first.source.value renamed opened in
      let next_begun = subst (λ two. IsOpen (form_of settings.form new) Rows rem u two.source.value.header.names two.source.value) (sym same) beside in record {
        columns = job.columns.now;
        header = versions.first.source.value.header.names;
        names = named.first.source.value.header.names;
        next_header = named.next.source.value.header.names;
        named = (renamed.0.header.names, are-names settings.key _ renamed.0 renamed.1, are-names settings.renames renamed.0 _ renamed.2);
        columned = columned;
        old = read.old;
        new = read.new;
        old_says = subst (λ g. SaysTable (form_of settings.form old) Rows g t versions.first.source.value.header.names named.first.source.value.header.names job.columns.now read.old)
            groups (read.old_read _ _ t _ begun);
        new_says = subst (λ g. SaysTable (form_of settings.form new) Rows g u named.next.source.value.header.names named.next.source.value.header.names job.columns.now read.new)
            groups (read.new_read _ _ u _ next_begun);
        ordered = notes-known rem Rows job.columns.now job.columns.now named.first.source.value named.next.source.value noted_with settings.keeps_order (noted job.order) read.changes.keys
            (form_of settings.form old) (form_of settings.form new) t u _ _ begins read.notes begun next_begun;
        changes = record {
          marked = read.changes.marked;
          keys = read.changes.keys;
          by_cells = read.changes.by_cells;
          changes = subst (λ f. IsDiffText f job.columns.now read.changes.keys read.changes.by_cells read.changes.marked read.old read.new answer.bytes.items) form read.changes.changes;
          order = λ by_key. read.changes.order (unordered by_key);
        };
        marks = read.marks;
        status = read.status;
      })

  -- and where columns are ignored
  pub beside-streams : (ignored : List ℕ) → IsOpened rem settings.form Rows old versions.first → IsOpened rem settings.form Rows new versions.next
      → IsNamedAnew settings versions.first.source.value named.first.source.value → named.next ≡ versions.next
      → job.form ≡ settings.form → job.groups ≡ settings.groups → (settings.keeps_order ≡ false → IsUnordered job) → noted job.order ≡ begun_keys settings.keeps_order
      → AreChangeColumns settings.key named.first.source.value.header.names named.next.source.value.header.names job.columns.now
      → DiffsBesideSources rem job ignored named answer → DiffsBesideStreams rem settings ignored old new answer
  beside-streams ignored first next renamed same form groups unordered begins columned read =
      both-known {T = λ t u. DiffsBesideTexts settings ignored (form_of settings.form old) (form_of settings.form new) t u answer} _ _ first next (λ t u opened beside.
      let begun = open-anew rem settings (form_of settings.form old) Rows t _ _ named.first.source.value renamed opened in
      let next_begun = subst (λ two. IsOpen (form_of settings.form new) Rows rem u two.source.value.header.names two.source.value) (sym same) beside in record {
        columns = job.columns.now;
        header = versions.first.source.value.header.names;
        names = named.first.source.value.header.names;
        next_header = named.next.source.value.header.names;
        named = (renamed.0.header.names, are-names settings.key _ renamed.0 renamed.1, are-names settings.renames renamed.0 _ renamed.2);
        columned = columned;
        old = read.old;
        new = read.new;
        old_says = subst (λ g. SaysTable (form_of settings.form old) Rows g t versions.first.source.value.header.names named.first.source.value.header.names job.columns.now read.old)
            groups (read.old_read _ _ t _ begun);
        new_says = subst (λ g. SaysTable (form_of settings.form new) Rows g u named.next.source.value.header.names named.next.source.value.header.names job.columns.now read.new)
            groups (read.new_read _ _ u _ next_begun);
        ordered = notes-known rem Rows job.columns.now job.columns.now named.first.source.value named.next.source.value noted_with settings.keeps_order (noted job.order) read.beside.keys
            (form_of settings.form old) (form_of settings.form new) t u _ _ begins read.notes begun next_begun;
        beside = record {
          compared = read.beside.compared;
          are = read.beside.are;
          keys = read.beside.keys;
          by_cells = read.beside.by_cells;
          changes = subst (λ f. AnswersBeside f job.columns.now read.beside.keys read.beside.by_cells read.beside.compared
              (marked_names named.first.source.value.header.names named.next.source.value.header.names)
              (headers_differ named.first.source.value.header.names named.next.source.value.header.names) read.old read.new answer) form read.beside.changes;
          order = λ by_key. read.beside.order (unordered by_key);
        };
      })
