-- From what `apply` and `merge` answer of sources to what they answer of texts.
use Rattle.std.proofs.Common.{◌≡◌, ℕ, false, List, Option, None, Some, refl, subst, sym}
use Rattle.std.specs.Prelude.{IfSome}
use Rattle.std.specs.Io.KnownBytes.{Keeps}
use Rattle.keyed_text.specs.declared.style.Style.{Style}
use Rattle.keyed_requests.specs.AnswerForm.{in_style}
use Rattle.keyed_requests.specs.declared.merging.Conflicts.{Conflicts}
use Rattle.keyed_requests.specs.declared.merging.Unit.{Unit}
use Rattle.keyed_requests.specs.declared.request.Form.{Form}
use Rattle.keyed_requests.specs.declared.request.Settings.{Settings}
use Rattle.keyed_files.specs.Gone.{CameOf, GoneOf, IsGoneRead, IsTurned}
use Rattle.keyed_columns.specs.Keys.{AreChangedColumnsBy, AreMergedColumnsBy}
use Rattle.keyed_columns.specs.Spelled.{IsSpelledAs}
use Rattle.keyed_columns.specs.declared.columns.Columns.{Columns}
use Rattle.keyed_columns.specs.declared.content.Content.TheVariants.{Changes, Rows}
use Rattle.keyed_files.specs.Opening.{IsNamedAnew, IsOpened, form_of, text_of_stream}
use Rattle.keyed_files.specs.Reading.{IsOpen}
use Rattle.keyed_files.proofs.TableLemmas.{open-anew}
use Rattle.keyed_files.specs.declared.opened.Opened.{Opened}
use Rattle.keyed_files.specs.declared.opened.Stream.{Stream}
use Rattle.keyed_files.specs.declared.opened.Two.{Two}
use Rattle.keyed_requests.specs.declared.request.Direction.{Direction}
use Rattle.keyed_requests.specs.declared.request.Direction.TheVariants.{Backward, Forward}
use Rattle.keyed_jobs.specs.Rejected.{plain}
use Rattle.keyed_commands.specs.AppliedTexts.{AppliesSources, AppliesStreams, AppliesTexts, ChangesSources, ChangesTexts, OfChanges, PartlySources, PartlyStreams, PartlyTexts, applies}
use Rattle.keyed_commands.specs.PartlyAnswers.{AnswersPartly}
use Rattle.keyed_tables.specs.Arranged.{noted}
use Rattle.keyed_jobs.specs.ChangesRead.{SaysChanges}
use Rattle.keyed_jobs.specs.FileOrder.{begun_keys, noted_with, placed_with}
use Rattle.keyed_jobs.specs.MarkedText.{all_as_they_stand}
use Rattle.keyed_jobs.specs.NotedStyles.{IsNoted}
use Rattle.keyed_jobs.specs.TablesRead.{IsUnordered, ReadsTable, SaysTable}
use Rattle.keyed_jobs.specs.MadeChanges.{made_in}
use Rattle.keyed_jobs.specs.declared.answer.Answer.{Answer}
use Rattle.keyed_jobs.specs.declared.job.Job.{Job}
use Rattle.keyed_jobs.specs.declared.rejected.ChangesForm.{ChangesForm}
use Rattle.keyed_jobs.proofs.NotedLemmas.{notes-known}
use Rattle.keyed_jobs.proofs.ReadLemmas.{are-names, both-known}
use Rattle.keyed_commands.specs.MergedTexts.{AnswersAs, MergesSources, MergesStreams, MergesTexts}
use Rattle.keyed_commands.specs.declared.commands.partly.Partly.{Partly}
use Rattle.keyed_commands.proofs.GoneLemmas.{both-of, leave-of, names-turned, open-turned, spelled-of}
use Rattle.keyed_commands.proofs.StyleLemmas.{kept-known, style-of}

-- what holds of two texts, where these are known under other words
pub two-alike : (T : Form → Form → List ℕ → List ℕ → Type 0) (m m2 n n2 : Option (List ℕ)) (f f2 h h2 : Form) → Keeps m m2 → n2 ≡ n → f2 ≡ f → h2 ≡ h
    → IfSome m2 (λ t. IfSome n2 (λ u. T f2 h2 t u)) → IfSome m (λ t. IfSome n (λ u. T f h t u))
two-alike T m m2 n n2 f f2 h h2 km en ef eh known =
    kept-known (λ t. IfSome n (λ u. T f h t u)) m m2 km (subst (λ n. IfSome m2 (λ t. IfSome n (λ u. T f h t u))) en
    (subst (λ f. IfSome m2 (λ t. IfSome n2 (λ u. T f h t u))) ef (subst (λ h. IfSome m2 (λ t. IfSome n2 (λ u. T f2 h t u))) eh known)))

-- the same of three
pub three-known : {P Q S : List ℕ → Type 0} {T : List ℕ → List ℕ → List ℕ → Type 0} (m n o : Option (List ℕ)) → IfSome m P → IfSome n Q → IfSome o S
    → ((t u v : List ℕ) → P t → Q u → S v → T t u v) → IfSome m (λ t. IfSome n (λ u. IfSome o (λ v. T t u v)))
three-known None n o p q s f = tt
three-known (Some t) None o p q s f = tt
three-known (Some t) (Some u) None p q s f = tt
three-known (Some t) (Some u) (Some v) p q s f = f t u v p q s

-- the second of two texts stayed as it was
second-kept : (P : List ℕ → List ℕ → Type 0) (m n n2 : Option (List ℕ)) → Keeps n n2 → IfSome m (λ t. IfSome n2 (P t)) → IfSome m (λ t. IfSome n (P t))
second-kept P None n n2 kept known = tt
second-kept P (Some t) n n2 kept known = kept-known (P t) n n2 kept known

pub three-alike : (T : Form → Form → Form → List ℕ → List ℕ → List ℕ → Type 0) (m m2 n n2 o o2 : Option (List ℕ)) (f f2 h h2 k k2 : Form)
    → m2 ≡ m → Keeps n n2 → o2 ≡ o → f2 ≡ f → h2 ≡ h → k2 ≡ k
    → IfSome m2 (λ t. IfSome n2 (λ u. IfSome o2 (λ v. T f2 h2 k2 t u v))) → IfSome m (λ t. IfSome n (λ u. IfSome o (λ v. T f h k t u v)))
three-alike T m m2 n n2 o o2 f f2 h h2 k k2 em kn eo ef eh ek known =
    subst (λ m. IfSome m (λ t. IfSome n (λ u. IfSome o (λ v. T f h k t u v)))) em
    (second-kept (λ t u. IfSome o (λ v. T f h k t u v)) m2 n n2 kn
    (subst (λ o. IfSome m2 (λ t. IfSome n2 (λ u. IfSome o (λ v. T f h k t u v)))) eo
    (subst (λ f. IfSome m2 (λ t. IfSome n2 (λ u. IfSome o2 (λ v. T f h k t u v)))) ef
    (subst (λ h. IfSome m2 (λ t. IfSome n2 (λ u. IfSome o2 (λ v. T f2 h k t u v)))) eh
    (subst (λ k. IfSome m2 (λ t. IfSome n2 (λ u. IfSome o2 (λ v. T f2 h2 k t u v)))) ek known)))))

-- the text of a source whose columns have other names says the table that is read of it
says : {R : Type 0} (rem : R → Option (List ℕ)) (settings : Settings) (job : Job Columns) (form : Form) (text : List ℕ) (header : List (List ℕ))
    (named : Opened R) (table : _) → job.groups ≡ settings.groups → ReadsTable rem job.groups job.columns.now named.source.value table
    → IsOpen form Rows rem text header named.source.value → SaysTable form Rows settings.groups text header named.source.value.header.names job.columns.now table
says rem settings job form text header named table groups read begun =
    subst (λ g. SaysTable form Rows g text header named.source.value.header.names job.columns.now table) groups (read form Rows text header begun)

-- what holds of two texts that are known
known-weaker : (P Q : List ℕ → List ℕ → Type 0) (m n : Option (List ℕ)) → ((t u : List ℕ) → P t u → Q t u)
    → IfSome m (λ t. IfSome n (λ u. P t u)) → IfSome m (λ t. IfSome n (λ u. Q t u))
known-weaker P Q None n f h = tt
known-weaker P Q (Some t) None f h = tt
known-weaker P Q (Some t) (Some u) f h = f t u h

-- two streams of a table and of changes, of their texts
module _ {R : Type 0} (rem : R → Option (List ℕ)) (settings : Settings) (direction : Direction) (old changes : Stream R) (inputs named : Two R) (job : Job Columns) (first_style : Style) where
  -- what the texts say, and the columns that go and that come by the header of the changes
  abbrev MarkedTexts : OfChanges → List ℕ → List ℕ → Type 0
  MarkedTexts holds t u = (GoneOf (form_of settings.form changes) u inputs.next.source.value.header.gone × CameOf (form_of settings.form changes) u inputs.next.source.value.header.came)
      × ChangesTexts holds settings direction (form_of settings.form old) (form_of settings.form changes) t u

  changes-streams : (holds : OfChanges) → IfSome (text_of_stream rem settings.form old) (IsNoted (form_of settings.form old) first_style)
      → IsOpened rem settings.form Rows old inputs.first → IsOpened rem settings.form Changes changes inputs.next
      → IsGoneRead rem settings.form Changes changes inputs.next → IsNamedAnew settings inputs.first.source.value named.first.source.value → IsTurned direction inputs.next.source.value named.next.source.value
      → job.form ≡ settings.form → job.groups ≡ settings.groups → (settings.keeps_order ≡ false → IsUnordered job) → noted job.order ≡ begun_keys settings.keeps_order
      → AreChangedColumnsBy settings.key named.first.source.value.header.names named.next.source.value.header.names named.next.source.value.header.gone job.columns.now
      → IsSpelledAs named.first.source.value.header.spelling.names named.first.source.value.header.spelling.spelled job.columns.now
      → ChangesSources rem holds job first_style direction named
      → IfSome (text_of_stream rem settings.form old) (λ t. IfSome (text_of_stream rem settings.form changes) (λ u. MarkedTexts holds t u))
  changes-streams holds styled first next goes renamed turned form groups unordered begins columned spells read =
      both-known {T = λ t u. MarkedTexts holds t u} _ _ (both-of _ _ (text_of_stream rem settings.form old) first styled)
      (both-of _ _ (text_of_stream rem settings.form changes) next (goes refl)) (λ t u both beside.
      let opened = both.0 in
      let begun = open-anew rem settings (form_of settings.form old) Rows t inputs.first.source.value.header.names inputs.first.source.value named.first.source.value renamed opened in
      let old_says = says rem settings job (form_of settings.form old) t inputs.first.source.value.header.names named.first read.old groups read.old_read begun in
      let next_begun = subst (λ names. IsOpen (form_of settings.form changes) Changes rem u names named.next.source.value)
      (names-turned direction inputs.next.source.value named.next.source.value turned)
      (open-turned rem direction (form_of settings.form changes) Changes u _ inputs.next.source.value named.next.source.value turned beside.0) in
      let changes_read = read.changes_read (form_of settings.form changes) u named.next.source.value.header.names next_begun in
      let source = inputs.next.source.value in
      let turned_source = record source { header = record source.header { gone = source.header.came; came = source.header.gone } } in (
        (
          leave-of rem (form_of settings.form changes) u source changes_read.1.0 changes_read.1.1 Forward source refl beside.1,
          leave-of rem (form_of settings.form changes) u source changes_read.1.0 changes_read.1.1 Backward turned_source refl beside.1,
        ),
        record {
          columns = job.columns.now;
          header = inputs.first.source.value.header.names;
          names = named.first.source.value.header.names;
          changes_header = named.next.source.value.header.names;
          gone = named.next.source.value.header.gone;
          columned = columned;
          named = (renamed.0.header.names, are-names settings.key _ renamed.0 renamed.1, are-names settings.renames renamed.0 _ renamed.2);
          old = read.old;
          changes = read.changes;
          old_says = old_says;
          spelled = named.first.source.value.header.spelling.spelled;
          spelled_said = spelled-of rem (form_of settings.form old) Rows t _ named.first.source.value old_says.1.0 old_says.1.1 begun;
          headed = refl;
          spells = subst (λ names. IsSpelledAs names named.first.source.value.header.spelling.spelled job.columns.now) begun.named spells;
          changes_say = subst (λ g. SaysChanges (form_of settings.form changes) g u named.next.source.value.header.names named.next.source.value.header.names job.columns.now read.changes)
              groups changes_read;
          gone_said = leave-of rem (form_of settings.form changes) u inputs.next.source.value changes_read.1.0 changes_read.1.1 direction named.next.source.value turned beside.1;
          ordered = notes-known rem Changes job.columns.now job.columns.now named.first.source.value named.next.source.value noted_with settings.keeps_order (noted job.order) read.applied.keys
              (form_of settings.form old) (form_of settings.form changes) t u _ _ begins read.notes begun next_begun;
          applied = record {
            style = read.applied.style;
            styled = style-of (form_of settings.form old) job.form settings.form t first_style read.applied.style form both.1 read.applied.styled;
            keys = read.applied.keys;
            by_cells = read.applied.by_cells;
            applied = subst (λ f. holds (in_style read.applied.style f) job.columns.now read.applied.keys read.applied.by_cells read.old
                (made_in named.first.source.value.header.names named.next.source.value.header.names job.columns.now direction read.old read.changes)) form read.applied.applied;
            order = λ by_key. read.applied.order (unordered by_key);
          };
        },
      ))

  pub apply-streams : (answer : Answer) → IfSome (text_of_stream rem settings.form old) (IsNoted (form_of settings.form old) first_style)
      → IsOpened rem settings.form Rows old inputs.first → IsOpened rem settings.form Changes changes inputs.next
      → IsGoneRead rem settings.form Changes changes inputs.next → IsNamedAnew settings inputs.first.source.value named.first.source.value → IsTurned direction inputs.next.source.value named.next.source.value
      → job.form ≡ settings.form → job.groups ≡ settings.groups → (settings.keeps_order ≡ false → IsUnordered job) → noted job.order ≡ begun_keys settings.keeps_order
      → AreChangedColumnsBy settings.key named.first.source.value.header.names named.next.source.value.header.names named.next.source.value.header.gone job.columns.now
      → IsSpelledAs named.first.source.value.header.spelling.names named.first.source.value.header.spelling.spelled job.columns.now
      → AppliesSources rem job first_style direction named answer → AppliesStreams rem settings direction old changes answer
  apply-streams answer styled first next goes renamed turned form groups unordered begins columned spells read =
      known-weaker (λ t u. MarkedTexts (applies answer) t u) (λ t u. AppliesTexts settings direction (form_of settings.form old) (form_of settings.form changes) t u answer)
      (text_of_stream rem settings.form old) (text_of_stream rem settings.form changes) (λ t u known. known.1)
      (changes-streams (applies answer) styled first next goes renamed turned form groups unordered begins columned spells read)

  pub partly-streams : (how : ChangesForm) (partly : Partly) → how.form ≡ plain (form_of settings.form changes) → how.going ≡ inputs.next.source.value.header.gone
      → how.coming ≡ inputs.next.source.value.header.came → IfSome (text_of_stream rem settings.form old) (IsNoted (form_of settings.form old) first_style)
      → IsOpened rem settings.form Rows old inputs.first → IsOpened rem settings.form Changes changes inputs.next
      → IsGoneRead rem settings.form Changes changes inputs.next → IsNamedAnew settings inputs.first.source.value named.first.source.value → IsTurned direction inputs.next.source.value named.next.source.value
      → job.form ≡ settings.form → job.groups ≡ settings.groups → (settings.keeps_order ≡ false → IsUnordered job) → noted job.order ≡ begun_keys settings.keeps_order
      → AreChangedColumnsBy settings.key named.first.source.value.header.names named.next.source.value.header.names named.next.source.value.header.gone job.columns.now
      → IsSpelledAs named.first.source.value.header.spelling.names named.first.source.value.header.spelling.spelled job.columns.now
      → PartlySources rem job first_style how direction named partly → PartlyStreams rem settings direction old changes partly
  partly-streams how partly plainly going coming styled first next goes renamed turned form groups unordered begins columned spells read =
      known-weaker (λ t u. MarkedTexts (AnswersPartly direction how partly) t u) (λ t u. PartlyTexts settings direction (form_of settings.form old) (form_of settings.form changes) t u partly)
      (text_of_stream rem settings.form old) (text_of_stream rem settings.form changes) (λ t u known. (
        how,
        record {
          form = plainly;
          going = subst (GoneOf (form_of settings.form changes) u) (sym going) known.0.0;
          coming = subst (CameOf (form_of settings.form changes) u) (sym coming) known.0.1;
        },
        known.1,
      ))
      (changes-streams (AnswersPartly direction how partly) styled first next goes renamed turned form groups unordered begins columned spells read)

-- three streams of versions of a table, of their texts
module _ {R : Type 0} (rem : R → Option (List ℕ)) (conflicts : Conflicts) (by : Unit) (settings : Settings) (base ours theirs : Stream R) (opened named : Opened R) (sides : Two R) (job : Job Columns)
    (first_style : Style) (answer : Answer) where
  pub merge-streams : IfSome (text_of_stream rem settings.form ours) (IsNoted (form_of settings.form ours) first_style) → IsOpened rem settings.form Rows base opened → IsOpened rem settings.form Rows ours sides.first → IsOpened rem settings.form Rows theirs sides.next
      → IsNamedAnew settings opened.source.value named.source.value
      → job.form ≡ settings.form → job.groups ≡ settings.groups → (settings.keeps_order ≡ false → IsUnordered job) → noted job.order ≡ begun_keys settings.keeps_order
      → AreMergedColumnsBy settings.key named.source.value.header.names sides.first.source.value.header.names sides.next.source.value.header.names job.columns.now
      → IsSpelledAs sides.first.source.value.header.spelling.names sides.first.source.value.header.spelling.spelled job.columns.now
      → MergesSources rem conflicts by job first_style named sides answer → MergesStreams rem conflicts by settings base ours theirs answer
  merge-streams styled first second third renamed form groups unordered begins columned spells read =
      three-known {Q = λ u. IsOpen (form_of settings.form ours) Rows rem u sides.first.source.value.header.names sides.first.source.value × IsNoted (form_of settings.form ours) first_style u}
      {T = λ t u v. MergesTexts conflicts by settings (form_of settings.form base) (form_of settings.form ours) (form_of settings.form theirs) t u v answer}
      _ _ _ first (both-of _ _ (text_of_stream rem settings.form ours) second styled) third (λ t u v one both three.
      let two = both.0 in
      let ours_say = says rem settings job (form_of settings.form ours) u sides.first.source.value.header.names sides.first read.ours groups read.ours_read two in record {
        columns = job.columns.now;
        header = opened.source.value.header.names;
        names = named.source.value.header.names;
        ours_header = sides.first.source.value.header.names;
        theirs_header = sides.next.source.value.header.names;
        columned = columned;
        named = (renamed.0.header.names, are-names settings.key _ renamed.0 renamed.1, are-names settings.renames renamed.0 _ renamed.2);
        base = read.base;
        ours = read.ours;
        theirs = read.theirs;
        base_says = says rem settings job _ t _ named read.base groups read.base_read (open-anew rem settings _ _ t _ _ named.source.value renamed one);
        ours_say = ours_say;
        spelled = sides.first.source.value.header.spelling.spelled;
        spelled_said = spelled-of rem (form_of settings.form ours) Rows u _ sides.first.source.value ours_say.1.0 ours_say.1.1 two;
        ordered = notes-known rem Rows job.columns.now job.columns.now sides.first.source.value sides.next.source.value placed_with settings.keeps_order (noted job.order) read.merged.keys
            (form_of settings.form ours) (form_of settings.form theirs) u v _ _ begins read.notes two three;
        headed = refl;
        spells = subst (λ names. IsSpelledAs names sides.first.source.value.header.spelling.spelled job.columns.now) two.named spells;
        theirs_say = says rem settings job _ v _ sides.next read.theirs groups read.theirs_read three;
        merged = record {
          style = read.merged.style;
          styled = style-of (form_of settings.form ours) job.form settings.form u first_style read.merged.style form both.1 read.merged.styled;
          keys = read.merged.keys;
          by_cells = read.merged.by_cells;
          merged = subst (λ f. AnswersAs (in_style read.merged.style f) job.columns.now read.merged.keys read.merged.by_cells read.base read.ours read.theirs (all_as_they_stand job.columns.now) answer by conflicts) form read.merged.merged;
          order = λ by_key. read.merged.order (unordered by_key);
        };
      })
