-- From the tables that are read under the key and some columns alone to the answer of `diff` as CSV.
use Rattle.std.proofs.Common.{◌≡◌, ℕ, List, Option, false, subst, sym}
use Rattle.keyed_columns.specs.declared.content.Content.TheVariants.{Rows}
use Rattle.keyed_columns.specs.declared.columns.Columns.{Columns}
use Rattle.keyed_files.specs.Opening.{IsNamedAnew, IsOpened, form_of}
use Rattle.keyed_files.specs.Reading.{IsOpen}
use Rattle.keyed_files.specs.declared.opened.Stream.{Stream}
use Rattle.keyed_files.specs.declared.opened.Two.{Two}
use Rattle.keyed_files.proofs.TableLemmas.{open-anew}
use Rattle.keyed_requests.specs.declared.request.Picked.{Picked}
use Rattle.keyed_requests.specs.declared.request.Picked.TheVariants as picked
use Rattle.keyed_requests.specs.declared.request.Settings.{Settings}
use Rattle.keyed_tables.specs.Arranged.{noted}
use Rattle.keyed_jobs.specs.Answers.{IsDiffText}
use Rattle.keyed_jobs.specs.FileOrder.{begun_keys, noted_with}
use Rattle.keyed_jobs.specs.TablesRead.{IsUnordered, SaysTable}
use Rattle.keyed_jobs.specs.declared.answer.Answer.{Answer}
use Rattle.keyed_jobs.specs.declared.job.Job.{Job}
use Rattle.keyed_jobs.proofs.NotedLemmas.{notes-known}
use Rattle.keyed_jobs.proofs.ReadLemmas.{are-names, beside-streams, both-known, diff-streams}
use Rattle.keyed_commands.specs.DiffOnly.{AreChangeColumnsBy, DiffsOnlySources, DiffsOnlyStreams, DiffsOnlyTexts, DiffsSourcesBy, DiffsStreamsBy}

-- two streams that are read, of their texts
module _ {R : Type 0} (rem : R → Option (List ℕ)) (settings : Settings) (old new : Stream R) (versions named : Two R) (job : Job Columns) (answer : Answer) where
  only-streams : (by : Picked) → IsOpened rem settings.form Rows old versions.first → IsOpened rem settings.form Rows new versions.next
      → IsNamedAnew settings versions.first.source.value named.first.source.value → named.next ≡ versions.next
      → job.form ≡ settings.form → job.groups ≡ settings.groups → (settings.keeps_order ≡ false → IsUnordered job) → noted job.order ≡ begun_keys settings.keeps_order
      → AreChangeColumnsBy by settings.key named.first.source.value.header.names named.next.source.value.header.names job.columns.now
      → DiffsOnlySources rem job named answer → DiffsOnlyStreams rem settings by old new answer
  only-streams by first next renamed same form groups unordered begins columned read =
      both-known {T = λ t u. DiffsOnlyTexts settings by (form_of settings.form old) (form_of settings.form new) t u answer} _ _ first next (λ t u opened beside.
      let begun = open-anew rem settings (form_of settings.form old) Rows t _ _ named.first.source.value renamed opened in
      let next_begun = subst (λ two. IsOpen (form_of settings.form new) Rows rem u two.source.value.header.names two.source.value) (sym same) beside in record {
        columns = job.columns.now;
        header = versions.first.source.value.header.names;
        names = named.first.source.value.header.names;
        next_header = named.next.source.value.header.names;
        named = (renamed.0.header.names, are-names settings.key _ renamed.0 renamed.1, are-names settings.renames renamed.0 _ renamed.2);
        columned = columned;
        old = read.old;
        new = read.new;
        old_says = subst (λ g. SaysTable (form_of settings.form old) Rows g t versions.first.source.value.header.names named.first.source.value.header.names job.columns.now read.old)
            groups (read.old_read _ _ t _ begun);
        new_says = subst (λ g. SaysTable (form_of settings.form new) Rows g u named.next.source.value.header.names named.next.source.value.header.names job.columns.now read.new)
            groups (read.new_read _ _ u _ next_begun);
        ordered = notes-known rem Rows job.columns.now job.columns.now named.first.source.value named.next.source.value noted_with settings.keeps_order (noted job.order) read.changes.keys
            (form_of settings.form old) (form_of settings.form new) t u _ _ begins read.notes begun next_begun;
        changes = record {
          marked = read.changes.marked;
          keys = read.changes.keys;
          by_cells = read.changes.by_cells;
          changes = subst (λ f. IsDiffText f job.columns.now read.changes.keys read.changes.by_cells read.changes.marked read.old read.new answer.bytes.items) form read.changes.changes;
          order = λ by_key. read.changes.order (unordered by_key);
        };
        marks = read.marks;
        status = read.status;
      })

  -- by the columns that are picked
  pub picked-streams : (by : Picked) → IsOpened rem settings.form Rows old versions.first → IsOpened rem settings.form Rows new versions.next
      → IsNamedAnew settings versions.first.source.value named.first.source.value → named.next ≡ versions.next
      → job.form ≡ settings.form → job.groups ≡ settings.groups → (settings.keeps_order ≡ false → IsUnordered job) → noted job.order ≡ begun_keys settings.keeps_order
      → AreChangeColumnsBy by settings.key named.first.source.value.header.names named.next.source.value.header.names job.columns.now
      → DiffsSourcesBy rem by job named answer → DiffsStreamsBy rem by settings old new answer
  picked-streams picked.All first next renamed same form groups unordered begins columned read =
      diff-streams rem settings old new versions named job answer first next renamed same form groups unordered begins columned read
  picked-streams (picked.Only names) first next renamed same form groups unordered begins columned read =
      only-streams (picked.Only names) first next renamed same form groups unordered begins columned read
  picked-streams (picked.AllBut names) first next renamed same form groups unordered begins columned read =
      beside-streams rem settings old new versions named job answer names.now first next renamed same form groups unordered begins columned read
