-- From the tables that are read to the status of a report.
use Rattle.std.proofs.Common.{◌≡◌, ◌∙◌, ℕ, zero, suc, Bool, false, true, List, [], ◌∷◌, Option, ap, arith, refl, subst, sym, true≢false, ne_eqb}
use Rattle.std.proofs.lemmas.List.{take-map}
use Rattle.std.specs.Prelude.{◌==◌, ◌&&◌, ◌↔◌, map, not}
use Rattle.eob_both.specs.declared.either_or_both.EitherOrBoth.{EitherOrBoth}
use Rattle.keyed_columns.specs.declared.columns.Columns.{Columns}
use Rattle.keyed_columns.specs.declared.content.Content.TheVariants.{Rows}
use Rattle.keyed_files.specs.Opening.{IsNamedAnew, IsOpened, form_of}
use Rattle.keyed_files.specs.Reading.{IsOpen}
use Rattle.keyed_files.specs.declared.opened.Stream.{Stream}
use Rattle.keyed_files.specs.declared.opened.Two.{Two}
use Rattle.keyed_files.proofs.TableLemmas.{open-anew}
use Rattle.keyed_numbers.specs.declared.alike.Alike.{Alike}
use Rattle.keyed_reports.specs.Shown.{shown_rows}
use Rattle.keyed_reports.specs.declared.counts.Counts.{Counts}
use Rattle.keyed_reports.specs.TableLines.{IsTable}
use Rattle.keyed_requests.specs.declared.request.Comparing.{Comparing}
use Rattle.keyed_requests.specs.declared.request.RowsShown.{RowsShown}
use Rattle.keyed_requests.specs.declared.request.RowsShown.TheVariants as shows
use Rattle.keyed_requests.specs.declared.request.Settings.{Settings}
use Rattle.keyed_requests.specs.declared.request.View.{View}
use Rattle.keyed_tables.specs.Arranged.{noted}
use Rattle.keyed_jobs.specs.FileOrder.{begun_keys, noted_with}
use Rattle.keyed_jobs.specs.TablesRead.{IsUnordered, SaysTable}
use Rattle.keyed_jobs.specs.declared.answer.Answer.{Answer}
use Rattle.keyed_jobs.specs.declared.job.Job.{Job}
use Rattle.keyed_jobs.proofs.NotedLemmas.{notes-known}
use Rattle.keyed_jobs.proofs.ReadLemmas.{are-names, both-known}
use Rattle.keyed_commands.specs.Reported.{AreComparedColumns, ReportsSources, ReportsStreams, ReportsTexts, TellsChanges}

-- the test of a status: there is no change, and no column that comes or goes
pub told-same : {P : Type 0} (n : ℕ) (differ : Bool) → ((n ≡ 0) ↔ P) → (((n == 0) && not differ) ≡ true) ↔ (P × (differ ≡ false))
told-same zero false h = (λ e. (h.0 refl, refl), λ p. refl)
told-same zero true h = (λ e. absurd (true≢false (sym e)), λ p. absurd (true≢false p.1))
told-same (suc n) differ h =
    let some : ((suc n == 0) && not differ) ≡ false = ap (λ t. t && not differ) (ne_eqb (suc n) 0 (λ e. omega (arith, e))) in
    (λ e. absurd (true≢false (sym e ∙ some)), λ p. absurd (let none = h.1 p.0 in omega (arith, none)))

-- what stands behind the rows that are shown is what is shown of what stands behind them
pub map-shown : {A B : Type 0} (f : A → B) (which : RowsShown) (rows : List A) → map f (shown_rows which rows) ≡ shown_rows which (map f rows)
map-shown f shows.All rows = refl
map-shown f (shows.First most) rows = sym (take-map f most rows)
map-shown f shows.Nothing rows = refl

-- a table under other words
pub table-alike : (view view2 : View) (alikes alikes2 : List Alike) (columns columns2 : Columns) (more more2 : ℕ) (counts counts2 : Counts)
    (rows rows2 : List (List (List ℕ) × EitherOrBoth (List (List ℕ)) (List (List ℕ)))) (text : List ℕ)
    → view ≡ view2 → alikes ≡ alikes2 → columns ≡ columns2 → more ≡ more2 → counts ≡ counts2 → rows ≡ rows2
    → IsTable view alikes columns more counts rows text → IsTable view2 alikes2 columns2 more2 counts2 rows2 text
table-alike view view2 alikes alikes2 columns columns2 more more2 counts counts2 rows rows2 text v a c m n r table =
    subst (λ view. IsTable view alikes2 columns2 more2 counts2 rows2 text) v (subst (λ alikes. IsTable view alikes columns2 more2 counts2 rows2 text) a
    (subst (λ columns. IsTable view alikes columns more2 counts2 rows2 text) c (subst (λ more. IsTable view alikes columns more counts2 rows2 text) m
    (subst (λ counts. IsTable view alikes columns more counts rows2 text) n (subst (λ rows. IsTable view alikes columns more counts rows text) r table)))))

-- two streams that are read, of their texts
module _ {R : Type 0} (rem : R → Option (List ℕ)) (settings : Settings) (how : Comparing) (old new : Stream R) (versions named : Two R) (job : Job Columns) (answer : Answer) where
  pub report-streams : IsOpened rem settings.form Rows old versions.first → IsOpened rem settings.form Rows new versions.next
      → IsNamedAnew settings versions.first.source.value named.first.source.value → named.next ≡ versions.next
      → job.groups ≡ settings.groups → (settings.keeps_order ≡ false → IsUnordered job) → noted job.order ≡ begun_keys settings.keeps_order
      → AreComparedColumns how.view.columns settings.key (named.first.source.value.header.names ∷ named.next.source.value.header.names ∷ []) job.columns.now
      → ReportsSources rem job how named answer → ReportsStreams rem how settings old new answer
  report-streams first next renamed same groups unordered begins columned read =
      both-known {T = λ t u. ReportsTexts settings how (form_of settings.form old) (form_of settings.form new) t u answer} _ _ first next (λ t u opened beside.
      let begun = open-anew rem settings (form_of settings.form old) Rows t _ _ named.first.source.value renamed opened in
      let next_begun = subst (λ two. IsOpen (form_of settings.form new) Rows rem u two.source.value.header.names two.source.value) (sym same) beside in record {
        columns = job.columns.now;
        header = versions.first.source.value.header.names;
        names = named.first.source.value.header.names;
        next_header = named.next.source.value.header.names;
        named = (renamed.0.header.names, are-names settings.key _ renamed.0 renamed.1, are-names settings.renames renamed.0 _ renamed.2);
        columned = columned;
        old = read.old;
        new = read.new;
        old_says = subst (λ g. SaysTable (form_of settings.form old) Rows g t versions.first.source.value.header.names named.first.source.value.header.names job.columns.now read.old)
            groups (read.old_read _ _ t _ begun);
        new_says = subst (λ g. SaysTable (form_of settings.form new) Rows g u named.next.source.value.header.names named.next.source.value.header.names job.columns.now read.new)
            groups (read.new_read _ _ u _ next_begun);
        status = read.status;
        told = record {
          keys = read.told.keys;
          by_cells = read.told.by_cells;
          table = λ is_told. subst (λ g. TellsChanges how.view g job.columns.now read.told.keys read.told.by_cells read.old read.new answer.bytes.items) groups (read.told.table is_told);
          order = λ by_key. read.told.order (unordered by_key);
        };
        ordered = notes-known rem Rows job.columns.now job.columns.now named.first.source.value named.next.source.value noted_with settings.keeps_order (noted job.order) read.told.keys
            (form_of settings.form old) (form_of settings.form new) t u _ _ begins read.notes begun next_begun;
      })
