-- Why a command gives no answer, by what its steps say.
use Rattle.std.proofs.Common.{◌≡◌, ◌∷◌, ◌∙◌, ◌⊎◌, ℕ, Bool, Bor, List, [], Option, ap, inl, inr, refl, subst, subst₂, sym}
use Rattle.std.specs.Prelude.{Err, IfErr, IfSome, IsOk, Ok, Result}
use Rattle.std.specs.Io.KnownBytes.{Keeps}
use Rattle.keyed_faults.specs.Outside.{IsApart}
use Rattle.keyed_faults.specs.declared.fault.Fault.{Fault}
use Rattle.keyed_faults.specs.declared.fault.Reason.{Reason}
use Rattle.keyed_faults.specs.declared.fault.Reason.TheVariants as reason
use Rattle.keyed_requests.specs.declared.request.Comparing.{Comparing}
use Rattle.keyed_requests.specs.declared.request.Direction.{Direction}
use Rattle.keyed_requests.specs.declared.request.Form.{Form}
use Rattle.keyed_requests.specs.declared.request.Settings.{Settings}
use Rattle.keyed_columns.specs.JoinedNames.{ExplainsNames}
use Rattle.keyed_columns.specs.KeyColumns.{ExplainsKey}
use Rattle.keyed_columns.specs.ColumnNames.{AreColumns}
use Rattle.keyed_columns.specs.Keys.{AreChangedColumnsBy, AreJoinColumns, AreMergedColumnsBy}
use Rattle.keyed_columns.specs.declared.columns.Columns.{Columns}
use Rattle.keyed_columns.specs.declared.columns.JoinColumns.{JoinColumns}
use Rattle.keyed_columns.specs.declared.content.Content.{Content}
use Rattle.keyed_columns.specs.declared.content.Content.TheVariants.{Changes, Rows}
use Rattle.keyed_files.specs.Explained.{ExplainsBoth, ExplainsOpening, ExplainsPlaces}
use Rattle.keyed_files.specs.Gone.{IsTurned}
use Rattle.keyed_files.specs.Opening.{IsNamedAnew, IsOpened, first_header, form_of, next_header, text_of_stream}
use Rattle.keyed_files.specs.Reading.{IsOpen}
use Rattle.keyed_files.specs.declared.opened.Opened.{Opened}
use Rattle.keyed_files.specs.declared.opened.Stream.{Stream}
use Rattle.keyed_files.specs.declared.opened.Two.{Two}
use Rattle.keyed_files.specs.declared.source.Source.{Source}
use Rattle.keyed_jobs.specs.Unread.{ExplainsTables, ExplainsUnread}
use Rattle.keyed_jobs.proofs.UnreadLemmas.{told-of}
use Rattle.keyed_commands.specs.Unanswered.{AreDiffColumns, ExplainsApply, ExplainsChange, ExplainsDiff, ExplainsJoin, ExplainsMerge, ExplainsRowDiff, ExplainsRowsOf, ExplainsThree, ExplainsVersions, IsAmong, IsApartOf, OpensAnew, OpensFile, files_of, files_of_three}
use Rattle.keyed_commands.proofs.StyleLemmas.{kept-known}

-- want of memory has no table to blame
pub memory-apart : (told : Reason) → told ≡ reason.NoMemory → IsApart told
memory-apart told same = subst IsApart (sym same) tt

-- nor have names of a join that can't be told apart
pub names-apart : (side : Option (List ℕ)) (names : List (List ℕ)) (told : Reason) → ExplainsNames side names told → IsApart told
names-apart side names (reason.JoinedTwice name option) why = tt
names-apart side names reason.NoMemory why = tt
names-apart side names _ why = absurd why

-- one file alone
pub among-one : (one file : Bor (List ℕ)) → IsAmong (one ∷ []) file → file ≡ one
among-one one file (inl same) = same
among-one one file (inr none) = absurd none

-- what is said of one file is said of it among others
pub apart-among : (one : Bor (List ℕ)) (files : List (Bor (List ℕ))) (fault : Fault) → IsApartOf (one ∷ []) fault → IsApartOf (one ∷ files) fault
apart-among one files fault apart = (apart.0, inl (among-one one fault.file apart.1))

-- two things that hold of an error
pub IfErr-and : {T E : Type 0} (result : Result T E) (P Q : E → Type 0) → IfErr result P → IfErr result Q → IfErr result (λ error. P error × Q error)
IfErr-and (Ok value) P Q first next = tt
IfErr-and (Err error) P Q first next = (first, next)

-- a fault of one of some files has no table to blame
pub apart-at : {T : Type 0} (result : Result T Fault) (files : List (Bor (List ℕ))) (file : Bor (List ℕ)) → IsAmong files file
    → IfErr result (λ fault. fault.file ≡ file) → IfErr result (λ fault. IsApart fault.reason) → IfErr result (IsApartOf files)
apart-at (Ok value) files file among same apart = tt
apart-at (Err fault) files file among same apart = (apart, subst (IsAmong files) (sym same) among)

pub apart-of : {T U : Type 0} (result : Result T Fault) (outcome : Result U Reason) (files : List (Bor (List ℕ))) (file : Bor (List ℕ)) → IsAmong files file
    → IfErr result (λ fault. fault.file ≡ file) → IfErr result (λ fault. (error : Reason) × (outcome ≡ Err error) × (fault.reason ≡ error))
    → IfErr outcome IsApart → IfErr result (IsApartOf files)
apart-of (Ok value) outcome files file among same why apart = tt
apart-of (Err fault) outcome files file among same why apart = (told-of IsApart outcome fault why apart, subst (IsAmong files) (sym same) among)

pub apart-memory : {T U E : Type 0} (result : Result T Fault) (outcome : Result U E) (files : List (Bor (List ℕ))) (file : Bor (List ℕ)) → IsAmong files file
    → IfErr result (λ fault. fault.file ≡ file) → IfErr result (λ fault. (error : E) × (outcome ≡ Err error) × (fault.reason ≡ reason.NoMemory))
    → IfErr result (IsApartOf files)
apart-memory (Ok value) outcome files file among same why = tt
apart-memory (Err fault) outcome files file among same why = (memory-apart fault.reason why.2, subst (IsAmong files) (sym same) among)

-- tables that are read have the files that they had
pub apart-kept : {R : Type 0} (old read : Two R) (fault : Fault) → read.first.file ≡ old.first.file → read.next.file ≡ old.next.file
    → IsApartOf (files_of read) fault → IsApartOf (files_of old) fault
apart-kept old read fault first next apart = subst₂ (λ f n. IsApartOf (f ∷ n ∷ []) fault) first next apart

-- the columns of a table that was read have no places, for the reason that they had none before
pub places-same : {S : Type 0} (old new : Source S) (columns others : Columns) (told : Reason) → new.header ≡ old.header → others ≡ columns
    → ExplainsPlaces new others told → ExplainsPlaces old columns told
places-same old new columns others told header same why =
    subst₂ (λ h c. ExplainsKey h.spelling.spelled h.names h.gone c.key told) header same why

-- of a stream that has a reader what has no table to blame may be told
pub opening-apart : {R : Type 0} (reader : Result R Reason) (told : Reason) → IsOk reader → IsApart told → ExplainsOpening reader told
opening-apart (Ok reader) told ready apart = apart
opening-apart (Err why) told ready apart = absurd (cc)

-- one of two streams can't be opened that are read in place of two others
pub both-of : {R S : Type 0} (first next : Stream R) (read_first read_next : Stream S) (fault : Fault) → read_first.file ≡ first.file → read_next.file ≡ next.file
    → IsOk first.reader → ((told : Reason) → ExplainsOpening read_first.reader told → ExplainsOpening first.reader told)
    → ((told : Reason) → ExplainsOpening read_next.reader told → ExplainsOpening next.reader told)
    → ExplainsBoth read_first read_next fault → ExplainsBoth first next fault
both-of first next read_first read_next fault first_named next_named ready first_opens next_opens (inl one) = inl (one.0 ∙ first_named, first_opens fault.reason one.1)
both-of first next read_first read_next fault first_named next_named ready first_opens next_opens (inr one) =
    inr (ready, one.1 ∙ next_named, next_opens fault.reason one.2)

module _ {R S : Type 0} (rem : R → Option (List ℕ)) (left : S → Option (List ℕ)) where
  -- the header is read of a stream that has the text of another
  pub opens-kept : (form : Form) (kind : Content) (stream : Stream R) (read : Stream S) (opened : Opened S) → IsOk stream.reader → form_of form read ≡ form_of form stream
      → Keeps (text_of_stream rem form stream) (text_of_stream left form read) → read.file ≡ stream.file → opened.file ≡ read.file
      → IsOpened left form kind read opened → OpensFile rem left form kind stream opened
  opens-kept form kind stream read opened ready same kept named file opens = record {
    ready = ready;
    named = file ∙ named;
    reads = kept-known (λ text. IsOpen (form_of form stream) kind left text opened.source.value.header.names opened.source.value)
        (text_of_stream rem form stream) (text_of_stream left form read) kept
        (subst (λ f. IfSome (text_of_stream left form read) (λ text. IsOpen f kind left text opened.source.value.header.names opened.source.value)) same opens);
  }

  pub opens-same : (form : Form) (kind : Content) (stream : Stream R) (read : Stream S) (opened : Opened S) → IsOk stream.reader → form_of form read ≡ form_of form stream
      → text_of_stream left form read ≡ text_of_stream rem form stream → read.file ≡ stream.file → opened.file ≡ read.file
      → IsOpened left form kind read opened → OpensFile rem left form kind stream opened
  opens-same form kind stream read opened ready same kept named file opens = record {
    ready = ready;
    named = file ∙ named;
    reads = subst₂ (λ f m. IfSome m (λ text. IsOpen f kind left text opened.source.value.header.names opened.source.value)) same kept opens;
  }

  -- and then its columns get other names
  pub opens-anew : (settings : Settings) (stream : Stream R) (before opened : Opened S) → OpensFile rem left settings.form Rows stream before
      → opened ≡ record before { source = opened.source } → IsNamedAnew settings before.source.value opened.source.value → OpensAnew rem left settings stream opened
  opens-anew settings stream before opened opens same anew = record {
    before = before;
    opens = opens;
    named = ap (λ table. table.file) same ∙ opens.named;
    anew = anew;
  }

  -- a table and changes are opened, and not read
  pub change-unanswered : (settings : Settings) (direction : Direction) (old changes : Stream R) (fault : Fault) (inputs : Two S) (turned : Opened S) (columns : Columns)
      → OpensAnew rem left settings old inputs.first → OpensFile rem left settings.form Changes changes inputs.next
      → turned.file ≡ inputs.next.file → IsTurned direction inputs.next.source.value turned.source.value
      → AreChangedColumnsBy settings.key (first_header inputs) turned.source.value.header.names turned.source.value.header.gone columns
      → ExplainsChange left settings.groups columns (record inputs { next = turned }) fault → ExplainsApply rem left settings direction old changes fault
  change-unanswered settings direction old changes fault inputs turned columns first next named turns are (inl apart) =
      inr (inr (inputs, first, next, inl (apart-kept inputs (record inputs { next = turned }) fault refl named apart)))
  change-unanswered settings direction old changes fault inputs turned columns first next named turns are (inr unread) =
      inr (inr (inputs, first, next, inr (turned, named, turns, columns, are, unread)))

  -- a table and two versions of it are opened, and not read
  pub merge-unanswered : (settings : Settings) (base ours theirs : Stream R) (fault : Fault) (opened : Opened S) (sides : Two S) (columns : Columns)
      → OpensAnew rem left settings base opened → OpensFile rem left settings.form Rows ours sides.first → OpensFile rem left settings.form Rows theirs sides.next
      → AreMergedColumnsBy settings.key opened.source.value.header.names (first_header sides) (next_header sides) columns
      → (IsApartOf (files_of_three opened sides) fault ⊎ ExplainsThree left settings.groups columns opened sides fault) → ExplainsMerge rem left settings base ours theirs fault
  merge-unanswered settings base ours theirs fault opened sides columns first second third are (inl apart) =
      inr (inr (inr (opened, sides, first, second, third, inl apart)))
  merge-unanswered settings base ours theirs fault opened sides columns first second third are (inr unread) =
      inr (inr (inr (opened, sides, first, second, third, inr (columns, are, unread))))

-- memory may be refused wherever rows are read
pub unread-memory : {R : Type 0} (rem : R → Option (List ℕ)) (columns : Columns) (source : Source R) (told : Reason) → told ≡ reason.NoMemory
    → ExplainsUnread rem columns source told
unread-memory rem columns source told same = inl (inl same)

module _ {S : Type 0} (left : S → Option (List ℕ)) where
  -- a table was read and has no spelling: it has no places for its columns, or what has no table to blame
  pub change-unspelled : (groups : Bool) (columns others : Columns) (inputs : Two S) (opened : Opened S) (fault : Fault) → opened.file ≡ inputs.first.file
      → opened.source.value.header ≡ inputs.first.source.value.header → others ≡ columns → fault.file ≡ opened.file
      → (ExplainsPlaces opened.source.value others fault.reason ⊎ IsApart fault.reason) → ExplainsChange left groups columns inputs fault
  change-unspelled groups columns others inputs opened fault named header same file (inl places) =
      inr (inl (file ∙ named, inl (inl (places-same inputs.first.source.value opened.source.value columns others fault.reason header same places))))
  change-unspelled groups columns others inputs opened fault named header same file (inr apart) = inl (apart, inl (file ∙ named))

  pub merge-unspelled : (groups : Bool) (columns others : Columns) (base : Opened S) (sides : Two S) (opened : Opened S) (fault : Fault) → opened.file ≡ sides.first.file
      → opened.source.value.header ≡ sides.first.source.value.header → others ≡ columns → fault.file ≡ opened.file
      → (ExplainsPlaces opened.source.value others fault.reason ⊎ IsApart fault.reason)
      → IsApartOf (files_of_three base sides) fault ⊎ ExplainsThree left groups columns base sides fault
  merge-unspelled groups columns others base sides opened fault named header same file (inl places) =
      inr (inr (inl (file ∙ named, inl (inl (places-same sides.first.source.value opened.source.value columns others fault.reason header same places)))))
  merge-unspelled groups columns others base sides opened fault named header same file (inr apart) = inl (apart, inr (inl (file ∙ named)))

module _ {R : Type 0} (rem : R → Option (List ℕ)) where
  -- two tables are opened, and not read
  pub diff-unanswered : (settings : Settings) (how : Comparing) (old new : Stream R) (fault : Fault) (versions : Two R) (columns : Columns)
      → OpensAnew rem rem settings old versions.first → OpensFile rem rem settings.form Rows new versions.next → AreDiffColumns how settings versions columns
      → ExplainsVersions rem settings.groups columns versions fault → ExplainsDiff rem settings how old new fault
  diff-unanswered settings how old new fault versions columns first next are (inl apart) = inr (inr (versions, first, next, inl apart))
  diff-unanswered settings how old new fault versions columns first next are (inr unread) = inr (inr (versions, first, next, inr (columns, are, unread)))

  pub join-unanswered : (settings : Settings) (left right : Stream R) (fault : Fault) (sides : Two R) (columns : JoinColumns)
      → OpensFile rem rem settings.form Rows left sides.first → OpensFile rem rem settings.form Rows right sides.next
      → AreJoinColumns settings.key (first_header sides) (next_header sides) columns
      → (IsApartOf (files_of sides) fault ⊎ ExplainsTables rem settings.groups columns.left columns.right sides fault) → ExplainsJoin rem settings left right fault
  join-unanswered settings left right fault sides columns first next are (inl apart) = inr (sides, first, next, inl apart)
  join-unanswered settings left right fault sides columns first next are (inr unread) = inr (sides, first, next, inr (columns, are, unread))

  pub rows-unanswered : (form : Form) (old new : Stream R) (fault : Fault) (versions : Two R) (columns : Columns)
      → OpensFile rem rem form Rows old versions.first → OpensFile rem rem form Rows new versions.next
      → AreColumns [] (next_header versions ∷ first_header versions ∷ []) columns
      → (IsApartOf (files_of versions) fault ⊎ ExplainsRowsOf rem columns versions fault) → ExplainsRowDiff rem form old new fault
  rows-unanswered form old new fault versions columns first next are (inl apart) = inr (versions, first, next, inl apart)
  rows-unanswered form old new fault versions columns first next are (inr unread) = inr (versions, first, next, inr (columns, are, unread))
