-- What `overlay` answers: tables laid one over the other, and their text.
use Rattle.std.specs.Prelude.{◌≡◌, ⊤, ℕ, Bool, false, true, List, [], ◌∷◌, Option, None, IfSome, IsSome, map, option_map, unwrap_or}
use Rattle.std.specs.List.{AllZip, flat_map}
use Rattle.eob_both.specs.declared.either_or_both.EitherOrBoth.{EitherOrBoth}
use Rattle.eob_both.specs.Places.{from_places}
use Rattle.either_or_both.specs.Join.{value_under}
use Rattle.eob_lists.specs.JoinLaws.{overlaid}
use Rattle.eob_joins.specs.Tables.{Tabulates}
use Rattle.keyed_tables.specs.Arranged.{noted}
use Rattle.keyed_tables.specs.Laid.{filled}
use Rattle.keyed_text.specs.declared.style.Style.{Style}
use Rattle.keyed_requests.specs.AnswerForm.{in_style}
use Rattle.keyed_requests.specs.declared.overlays.Layer.{Layer}
use Rattle.keyed_requests.specs.declared.overlays.Layer.TheVariants as layer
use Rattle.keyed_requests.specs.declared.request.Form.{Form}
use Rattle.keyed_requests.specs.declared.request.Settings.{Settings}
use Rattle.keyed_columns.specs.Keys.{AreColumnsBy}
use Rattle.keyed_columns.specs.Spelled.{IsSpelledAs, SpelledOf}
use Rattle.keyed_columns.specs.declared.columns.Columns.{Columns}
use Rattle.keyed_columns.specs.declared.content.Content.TheVariants.{Rows}
use Rattle.keyed_files.specs.Opening.{form_of, text_of_stream}
use Rattle.keyed_files.specs.Reading.{IsOpen}
use Rattle.keyed_files.specs.declared.opened.Opened.{Opened}
use Rattle.keyed_files.specs.declared.opened.Stream.{Stream}
use Rattle.keyed_jobs.specs.Answers.{IsTableFile, TableRows, key_cmp}
use Rattle.keyed_jobs.specs.NotedStyles.{IsNoted, IsStyleBy, IsStyleOf, watched_left}
use Rattle.keyed_jobs.specs.FileOrder.{Keys, KeysOf, OfKeys, noted_keys, noted_with}
use Rattle.keyed_jobs.specs.TablesRead.{AreNames, IsUnordered, ReadsTable, SaysTable}
use Rattle.keyed_jobs.specs.declared.answer.Answer.{Answer}
use Rattle.keyed_jobs.specs.declared.answer.Outcome.TheVariants.{Made}
use Rattle.keyed_jobs.specs.declared.job.Job.{Job}
use Rattle.keyed_jobs.specs.declared.styles.Watched.{Watched}
use Rattle.keyed_commands.specs.declared.commands.overlay.Laid.{Laid}

-- what stands under a key that two tables have, one over the other: the rows of the upper one, or the cells of both
abbrev pub laid_rows : Layer → EitherOrBoth (List (List (List ℕ))) (List (List (List ℕ))) → List (List (List ℕ))
laid_rows layer.Rows rows = overlaid rows
laid_rows layer.Cells rows = filled rows

-- what stands under a key of tables that are laid one after the other over what is there
abbrev pub laid_under : Layer → Option (List (List (List ℕ))) → List TableRows → List (List ℕ) → Option (List (List (List ℕ)))
laid_under layer below [] key = below
laid_under layer below (table ∷ tables) key = laid_under layer (option_map (laid_rows layer) (from_places below (value_under key_cmp table key))) tables key

-- tables that are laid one after the other over one
abbrev pub AreLaidOver : Layer → TableRows → List TableRows → TableRows → Type 0
AreLaidOver layer below tables rows = Tabulates key_cmp rows (λ key. laid_under layer (value_under key_cmp below key) tables key)

-- an answer with the rows of a table, written in a style of which this is said
pub record AnswersRows (IsStyled : Style → Type 0) (form : Form) (columns : Columns) (keys : Option (List (List (List ℕ)))) (by_cells : Bool) (rows : TableRows) (answer : Answer) : Type 0 where
  pub style : Style
  pub styled : IsStyled style
  pub text : IsTableFile (in_style style form) columns keys by_cells rows answer.bytes.items
  pub status : answer.status ≡ 0
  pub outcome : answer.outcome ≡ Made

-- the same of tables laid one over the other, the last one on top, with the order in which rows come out
pub record OverlaidIn (layer : Layer) (IsStyled : Style → Type 0) (form : Form) (columns : Columns) (unordered : Type 0) (tables : List TableRows) (answer : Answer) : Type 0 where
  pub rows : TableRows
  pub keys : Option (List (List (List ℕ)))
  pub by_cells : Bool
  pub laid : AreLaidOver layer [] tables rows
  pub answers : AnswersRows IsStyled form columns keys by_cells rows answer
  pub order : unordered → (keys ≡ None) × (by_cells ≡ true)

-- a table that a text says: its header, how this spells its names, the names by which its columns are read, its rows by key, and the keys of
-- these as they stand there
pub record Said : Type 0 where
  pub header : List (List ℕ)
  pub spelled : List (List ℕ)
  pub names : List (List ℕ)
  pub rows : TableRows
  pub keys : Keys

-- the names of the columns of tables: those of the key, where it is set, have other ones in the first table alone
abbrev pub AreNamed : {A : Type 0} → Option A → List Said → Type 0
AreNamed key [] = ⊤
AreNamed {A} key (said ∷ more) = AreNames key said.header said.names × AreNamed {A = A} None more

-- the heading of columns is spelled as the header of the first of several sources is
abbrev pub IsSpelledAsFirst : {R : Type 0} → List (Opened R) → Columns → Type 0
IsSpelledAsFirst [] columns = ⊤
IsSpelledAsFirst (opened ∷ more) columns = IsSpelledAs opened.source.value.header.spelling.names opened.source.value.header.spelling.spelled columns

-- the rows of the tables that are laid so far, of which there may be none
abbrev pub rows_laid : Laid → TableRows
rows_laid laid = unwrap_or (option_map (λ table. table.pairs.items) laid.table) []

module _ {R : Type 0} (remaining : R → Option (List ℕ)) where
  -- the header of a stream is read, its columns are named, and its rows come next
  abbrev pub IsLayer : {A : Type 0} → Form → Option A → Stream R → Opened (Watched R) → Type 0
  IsLayer form key stream opened = (header : List (List ℕ)) × AreNames key header opened.source.value.header.names
      × IfSome (text_of_stream remaining form stream) (λ text. IsOpen (form_of form stream) Rows (watched_left remaining) text header opened.source.value)

  -- the same of each of several
  abbrev pub AreLayers : {A : Type 0} → Form → Option A → List (Stream R) → List (Opened (Watched R)) → Type 0
  AreLayers form key [] [] = ⊤
  AreLayers form key [] (opened ∷ more) = ⊥
  AreLayers form key (stream ∷ streams) [] = ⊥
  AreLayers {A} form key (stream ∷ streams) (opened ∷ more) = IsLayer form key stream opened × AreLayers {A = A} form None streams more

  -- a table is read of each of several sources
  abbrev pub ReadTables : Bool → Columns → List (Opened (Watched R)) → List TableRows → Type 0
  ReadTables groups columns opened tables = AllZip (λ source rows. ReadsTable (watched_left remaining) groups columns source.source.value rows) opened tables

  -- and these are laid one after the other over one
  abbrev pub LaysTables : Layer → Bool → Columns → TableRows → List (Opened (Watched R)) → TableRows → Type 0
  LaysTables layer groups columns below opened rows = (tables : List TableRows) × ReadTables groups columns opened tables × AreLaidOver layer below tables rows

  -- the keys of each are noted after those of the ones before it
  abbrev pub NotesAll : Columns → List (Opened (Watched R)) → Option Keys → Option Keys → Type 0
  NotesAll columns [] before after = after ≡ before
  NotesAll columns (opened ∷ more) before after = (mid : Option Keys)
      × OfKeys (watched_left remaining) Rows columns opened.source.value (λ keys. mid ≡ noted_with before keys) × NotesAll columns more mid after

  -- the text of the first of several streams begins in this style, where it is known, and with no stream that is the style of the form
  abbrev pub IsNotedFirst : Form → List (Stream R) → Style → Type 0
  IsNotedFirst form [] style = style ≡ form.writing.style
  IsNotedFirst form (stream ∷ streams) style = IfSome (text_of_stream remaining form stream) (IsNoted (form_of form stream) style)

  -- an answer to `overlay` of several sources, whose first text begins in this style: the text of their tables laid one over the other
  pub record OverlaysSources (layer : Layer) (first_style : Style) (job : Job Columns) (opened : List (Opened (Watched R))) (answer : Answer) : Type 0 where
    pub tables : List TableRows
    pub read : ReadTables job.groups job.columns.now opened tables
    pub overlaid : OverlaidIn layer (IsStyleBy job.form.writing.heading first_style) job.form job.columns.now (IsUnordered job) tables answer
    pub notes : NotesAll job.columns.now opened (noted job.order) overlaid.keys

  -- the text of a stream says a table under columns, where it is known
  abbrev pub SaysRows : Settings → Columns → Stream R → Said → Type 0
  SaysRows settings columns stream said = IfSome (text_of_stream remaining settings.form stream)
      (λ text. SaysTable (form_of settings.form stream) Rows settings.groups text said.header said.names columns said.rows
      × SpelledOf (form_of settings.form stream) Rows text said.spelled × KeysOf (form_of settings.form stream) Rows text said.names columns said.keys)

  -- the texts of all streams are known
  abbrev pub AreKnown : Settings → List (Stream R) → Type 0
  AreKnown settings [] = ⊤
  AreKnown settings (stream ∷ streams) = IsSome (text_of_stream remaining settings.form stream) × AreKnown settings streams

  -- the heading of columns is spelled as the header of the first text is, where it is known
  abbrev pub SpellsFirst : Settings → Columns → List (Stream R) → List Said → Type 0
  SpellsFirst settings columns [] said = ⊤
  SpellsFirst settings columns (stream ∷ streams) [] = ⊥
  SpellsFirst settings columns (stream ∷ streams) (said ∷ more) = IfSome (text_of_stream remaining settings.form stream)
      (λ text. IsSpelledAs said.header said.spelled columns)

  -- the style of an answer is that of the first text, where it is known
  abbrev pub StylesFirst : Settings → List (Stream R) → Style → Type 0
  StylesFirst settings [] style = IsStyleBy settings.form.writing.heading settings.form.writing.style style
  StylesFirst settings (stream ∷ streams) style = IfSome (text_of_stream remaining settings.form stream)
      (λ text. IsStyleOf (form_of settings.form stream) settings.form.writing.heading text style)

  -- what `overlay` answers of several streams: each text that is known says its table, under the columns of all, and the answer is the text
  -- of these tables laid one over the other, in the style of the first one
  pub record OverlaysStreams (settings : Settings) (layer : Layer) (streams : List (Stream R)) (answer : Answer) : Type 0 where
    pub columns : Columns
    pub said : List Said
    pub named : AreNamed settings.key said
    pub columned : AreColumnsBy settings.key (map (λ table. table.names) said) (map (λ table. table.names) said) columns
    pub says : AllZip (SaysRows settings columns) streams said
    pub spells : SpellsFirst settings columns streams said
    pub overlaid : OverlaidIn layer (StylesFirst settings streams) settings.form columns (settings.keeps_order ≡ false) (map (λ table. table.rows) said) answer
    pub ordered : AreKnown settings streams → overlaid.keys ≡ noted_keys settings.keeps_order (flat_map (λ table. table.keys) said)
