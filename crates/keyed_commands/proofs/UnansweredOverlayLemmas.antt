-- Why `overlay` gives no answer, by what its steps say.
use Rattle.std.proofs.Common.{◌≡◌, ◌∙◌, ◌⊎◌, ℕ, Bool, Bor, List, [], ◌∷◌, ◌++◌, Option, None, append_assoc, append-nil, inl, inr, map, subst, sym}
use Rattle.std.specs.Prelude.{IsOk}
use Rattle.std.proofs.lemmas.List.{map-append}
use Rattle.keyed_faults.specs.Outside.{IsApart}
use Rattle.keyed_faults.specs.declared.fault.Fault.{Fault}
use Rattle.keyed_requests.specs.declared.request.Form.{Form}
use Rattle.keyed_requests.specs.declared.request.Settings.{Settings}
use Rattle.keyed_columns.specs.Keys.{AreColumnsBy}
use Rattle.keyed_columns.specs.declared.columns.Columns.{Columns}
use Rattle.keyed_files.specs.Explained.{ExplainsPlaces}
use Rattle.keyed_files.specs.declared.opened.Opened.{Opened}
use Rattle.keyed_files.specs.declared.opened.Stream.{Stream}
use Rattle.keyed_jobs.specs.declared.styles.Watched.{Watched}
use Rattle.keyed_commands.specs.OverlayAnswers.{AreLayers}
use Rattle.keyed_commands.specs.UnansweredOverlay.{AreReady, ExplainsLaid, ExplainsLayer, ExplainsLayers, ExplainsOne, ExplainsOverlay, HaveFiles, IsFirstFile}
use Rattle.keyed_commands.proofs.UnansweredLemmas.{places-same}

-- one more table is opened after others
pub files-then : {R S : Type 0} (all left streams : List (Stream R)) (opened more : List (Opened S)) (stream : Stream R) (table : Opened S) → left ≡ stream ∷ streams
    → more ≡ opened ++ table ∷ [] → table.file ≡ stream.file → map (λ t. t.file) opened ++ map (λ s. s.file) left ≡ map (λ s. s.file) all
    → map (λ t. t.file) more ++ map (λ s. s.file) streams ≡ map (λ s. s.file) all
files-then all left streams opened more stream table is pushed named before =
    subst (λ l. map (λ t. t.file) l ++ map (λ s. s.file) streams ≡ map (λ s. s.file) all) (sym pushed)
    (subst (λ l. l ++ map (λ s. s.file) streams ≡ map (λ s. s.file) all) (sym (map-append (λ t. t.file) opened (table ∷ [])))
    (append_assoc (map (λ t. t.file) opened) (table.file ∷ []) (map (λ s. s.file) streams)
    ∙ subst (λ f. map (λ t. t.file) opened ++ f ∷ map (λ s. s.file) streams ≡ map (λ s. s.file) all) (sym named)
    (subst (λ l. map (λ t. t.file) opened ++ map (λ s. s.file) l ≡ map (λ s. s.file) all) is before)))

-- and all are
pub files-all : {R S : Type 0} (all left : List (Stream R)) (opened : List (Opened S)) → left ≡ []
    → map (λ t. t.file) opened ++ map (λ s. s.file) left ≡ map (λ s. s.file) all → HaveFiles all opened
files-all all left opened none before =
    sym (append-nil (map (λ t. t.file) opened)) ∙ subst (λ l. map (λ t. t.file) opened ++ map (λ s. s.file) l ≡ map (λ s. s.file) all) none before

-- one of some streams has a reader, and the others have
pub ready-then : {R : Type 0} (left streams : List (Stream R)) (stream : Stream R) → left ≡ stream ∷ streams → IsOk stream.reader → AreReady streams → AreReady left
ready-then left streams stream is ready others = subst AreReady (sym is) (ready, others)

-- there is none
pub ready-none : {R : Type 0} (left : List (Stream R)) → left ≡ [] → AreReady left
ready-none left none = subst AreReady (sym none) tt

module _ {R : Type 0} (rem : R → Option (List ℕ)) where
  -- the next of several tables is not opened
  pub layers-here : (form : Form) (key : Option (Bor (List ℕ))) (left streams : List (Stream R)) (stream : Stream R) (fault : Fault) → left ≡ stream ∷ streams
      → ExplainsLayer rem form key stream fault → ExplainsLayers rem form key left fault
  layers-here form key left streams stream fault is why = subst (λ l. ExplainsLayers rem form key l fault) (sym is) (inl why)

  -- or one after it
  pub layers-later : (form : Form) (key : Option (Bor (List ℕ))) (left streams : List (Stream R)) (stream : Stream R) (fault : Fault) → left ≡ stream ∷ streams
      → IsOk stream.reader → ExplainsLayers rem form None streams fault → ExplainsLayers rem form key left fault
  layers-later form key left streams stream fault is ready why = subst (λ l. ExplainsLayers rem form key l fault) (sym is) (inr (ready, why))

  -- the same of the rows of tables
  pub laid-here : (groups : Bool) (columns : Columns) (left tables : List (Opened (Watched R))) (table : Opened (Watched R)) (fault : Fault) → left ≡ table ∷ tables
      → ExplainsOne rem groups columns table fault → ExplainsLaid rem groups columns left fault
  laid-here groups columns left tables table fault is why = subst (λ l. ExplainsLaid rem groups columns l fault) (sym is) (inl why)

  pub laid-later : (groups : Bool) (columns : Columns) (left tables : List (Opened (Watched R))) (table : Opened (Watched R)) (fault : Fault) → left ≡ table ∷ tables
      → ExplainsLaid rem groups columns tables fault → ExplainsLaid rem groups columns left fault
  laid-later groups columns left tables table fault is why = subst (λ l. ExplainsLaid rem groups columns l fault) (sym is) (inr why)

  -- a table was read and has no spelling
  pub one-unspelled : (groups : Bool) (columns others : Columns) (table read : Opened (Watched R)) (fault : Fault) → read.file ≡ table.file
      → read.source.value.header ≡ table.source.value.header → others ≡ columns → fault.file ≡ read.file
      → (ExplainsPlaces read.source.value others fault.reason ⊎ IsApart fault.reason) → ExplainsOne rem groups columns table fault
  one-unspelled groups columns others table read fault named header same file (inl places) =
      (file ∙ named, inr (inl (inl (places-same table.source.value read.source.value columns others fault.reason header same places))))
  one-unspelled groups columns others table read fault named header same file (inr apart) = (file ∙ named, inl apart)

  -- all are opened, and one of them is not read, or none of them is to blame
  pub overlay-unanswered : (settings : Settings) (streams : List (Stream R)) (fault : Fault) (tables : List (Opened (Watched R))) (columns : Columns) (file : Bor (List ℕ))
      → AreReady streams → AreLayers rem settings.form settings.key streams tables → HaveFiles streams tables
      → AreColumnsBy settings.key (map (λ table. table.source.value.header.names) tables) (map (λ table. table.source.value.header.names) tables) columns
      → IsFirstFile tables file → ((IsApart fault.reason × (fault.file ≡ file)) ⊎ ExplainsLaid rem settings.groups columns tables fault)
      → ExplainsOverlay rem settings streams fault
  overlay-unanswered settings streams fault tables columns file ready layers files are first (inl apart) =
      inr (tables, ready, layers, files, inl (apart.0, subst (IsFirstFile tables) (sym apart.1) first))
  overlay-unanswered settings streams fault tables columns file ready layers files are first (inr why) =
      inr (tables, ready, layers, files, inr (columns, are, why))
