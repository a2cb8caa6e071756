-- Tables laid one after the other, and from the tables to their texts.
use Rattle.std.proofs.Common.{◌≡◌, ◌∙◌, ℕ, Bool, Bor, false, List, [], ◌∷◌, Option, None, Some, ap, map, refl, subst, sym}
use Rattle.std.specs.Prelude.{⊤, IfSome, IsSome, MatchOption, option_map, unwrap_or}
use Rattle.std.specs.Io.KnownBytes.{Keeps}
use Rattle.std.specs.List.{AllZip, flat_map}
use Rattle.eob_both.specs.Places.{from_places}
use Rattle.either_or_both.specs.Join.{Rising, value_under}
use Rattle.eob_lists.proofs.MergeLemmas.{rising}
use Rattle.keyed_text.specs.declared.style.Style.{Style}
use Rattle.keyed_requests.specs.AnswerForm.{in_style}
use Rattle.keyed_requests.specs.declared.overlays.Layer.{Layer}
use Rattle.keyed_requests.specs.declared.overlays.Layer.TheVariants as layer
use Rattle.keyed_requests.specs.declared.request.Form.{Form}
use Rattle.keyed_requests.specs.declared.request.Settings.{Settings}
use Rattle.keyed_columns.specs.Keys.{AreColumnsBy}
use Rattle.keyed_columns.specs.Spelled.{IsSpelledAs}
use Rattle.keyed_columns.specs.declared.columns.Columns.{Columns}
use Rattle.keyed_columns.specs.declared.content.Content.TheVariants.{Rows}
use Rattle.keyed_files.specs.Opening.{IsRenamed, form_of, text_of_stream}
use Rattle.keyed_files.specs.Reading.{IsOpen}
use Rattle.keyed_files.specs.declared.opened.Opened.{Opened}
use Rattle.keyed_files.specs.declared.opened.Stream.{Stream}
use Rattle.keyed_files.specs.declared.source.Source.{Source}
use Rattle.keyed_files.proofs.TableLemmas.{open-renamed}
use Rattle.keyed_jobs.specs.Answers.{IsTableFile, TableRows, key_cmp}
use Rattle.keyed_jobs.specs.NotedStyles.{IsNoted, IsStyleBy, watched_left}
use Rattle.keyed_commands.specs.OverlayAnswers.{AreKnown, AreLaidOver, AreLayers, AreNamed, IsLayer, IsNotedFirst, IsSpelledAsFirst, LaysTables, NotesAll, OverlaysSources, OverlaysStreams, ReadTables, Said, SaysRows, SpellsFirst, StylesFirst, laid_rows, laid_under}
use Rattle.keyed_tables.specs.Arranged.{noted}
use Rattle.keyed_jobs.specs.FileOrder.{Keys, KeysOf, OfKeys, begun_keys, noted_with}
use Rattle.keyed_jobs.specs.TablesRead.{IsUnordered}
use Rattle.keyed_jobs.specs.declared.answer.Answer.{Answer}
use Rattle.keyed_jobs.specs.declared.job.Job.{Job}
use Rattle.keyed_jobs.specs.declared.styles.Watched.{Watched}
use Rattle.keyed_jobs.proofs.NotedLemmas.{noted-more, noted-none}
use Rattle.keyed_commands.proofs.GoneLemmas.{spelled-of}
use Rattle.keyed_commands.proofs.StyleLemmas.{kept-known, known-more, style-of}

on_none : (layer : Layer) (m : Option (List (List (List ℕ)))) → option_map (laid_rows layer) (from_places None m) ≡ m
on_none layer.Rows None = refl
on_none layer.Rows (Some rows) = refl
on_none layer.Cells None = refl
on_none layer.Cells (Some rows) = refl

-- the keys of no rows strictly increase
pub none_rises : Rising key_cmp {V = List (List (List ℕ))} []
none_rises = rising key_cmp (λ k. ⊤) [] tt

-- a table over none is as it was, and so is one over which none is laid
pub laid_alone : (layer : Layer) (rows : TableRows) → Rising key_cmp rows → AreLaidOver layer [] (rows ∷ []) rows
laid_alone layer rows rises = record { rises = rises; values = λ k. sym (on_none layer (value_under key_cmp rows k)) }

none_laid : (layer : Layer) (rows : TableRows) → Rising key_cmp rows → AreLaidOver layer rows [] rows
none_laid layer rows rises = record { rises = rises; values = λ k. refl }

laid_then : (layer : Layer) (below table mid : TableRows) (tables : List TableRows) (rows : TableRows) → AreLaidOver layer below (table ∷ []) mid
    → AreLaidOver layer mid tables rows → AreLaidOver layer below (table ∷ tables) rows
laid_then layer below table mid tables rows one more = record {
  rises = more.rises;
  values = λ k. more.values k ∙ ap (λ m. laid_under layer m tables k) (one.values k);
}

module _ {R : Type 0} (rem : R → Option (List ℕ)) (layer : Layer) (groups : Bool) (columns : Columns) where
  lays_one : (below mid : TableRows) (source : Opened (Watched R)) (ones : List TableRows) (sources : List (Opened (Watched R))) (rows : TableRows)
      → ReadTables rem groups columns (source ∷ []) ones → AreLaidOver layer below ones mid → LaysTables rem layer groups columns mid sources rows
      → LaysTables rem layer groups columns below (source ∷ sources) rows
  lays_one below mid source [] sources rows read laid more = absurd read
  lays_one below mid source (one ∷ []) sources rows read laid more = (one ∷ more.0, (read.0, more.1), laid_then layer below one mid more.0 rows laid more.2)
  lays_one below mid source (one ∷ other ∷ ones) sources rows read laid more = absurd read.1

  -- one more table is read and laid, and no more
  pub lays_then : (below mid : TableRows) (source : Opened (Watched R)) (left sources : List (Opened (Watched R))) (rows : TableRows) → left ≡ source ∷ sources
      → LaysTables rem layer groups columns below (source ∷ []) mid → LaysTables rem layer groups columns mid sources rows
      → LaysTables rem layer groups columns below left rows
  lays_then below mid source left sources rows is one more =
      subst (λ l. LaysTables rem layer groups columns below l rows) (sym is) (lays_one below mid source one.0 sources rows one.1 one.2 more)

  pub lays_none : (rows : TableRows) (left : List (Opened (Watched R))) → left ≡ [] → Rising key_cmp rows → LaysTables rem layer groups columns rows left rows
  lays_none rows left is rises = subst (λ l. LaysTables rem layer groups columns rows l rows) (sym is) ([], tt, none_laid layer rows rises)

-- the keys of one more table are noted, and of no more
pub notes_then : {R : Type 0} (rem : R → Option (List ℕ)) (columns : Columns) (before mid : Option Keys) (source : Opened (Watched R)) (left sources : List (Opened (Watched R)))
    (after : Option Keys) → left ≡ source ∷ sources → OfKeys (watched_left rem) Rows columns source.source.value (λ keys. mid ≡ noted_with before keys)
    → NotesAll rem columns sources mid after → NotesAll rem columns left before after
notes_then rem columns before mid source left sources after is one more = subst (λ l. NotesAll rem columns l before after) (sym is) (mid, one, more)

pub notes_none : {R : Type 0} (rem : R → Option (List ℕ)) (columns : Columns) (before : Option Keys) (left : List (Opened (Watched R))) → left ≡ [] → NotesAll rem columns left before before
notes_none rem columns before left is = subst (λ l. NotesAll rem columns l before before) (sym is) refl

-- columns whose heading is spelled in another way are those of the same headers
pub columns_spelled : (key : Option (Bor (List ℕ))) (tables headers : List (List (List ℕ))) (old new : Columns) (spelled : Option (List (List ℕ))) → new ≡ record old { spelled = spelled }
    → AreColumnsBy key tables headers old → AreColumnsBy key tables headers new
columns_spelled key tables headers old new spelled same are =
    subst (AreColumnsBy key tables headers) (sym same)
    (record { first = are.first; others = are.others; names = are.names; are = record { key = are.are.key; rest = are.are.rest; order = are.are.order } })

-- columns of the headers of tables, under another word for these
pub columns_alike : {R : Type 0} (key : Option (Bor (List ℕ))) (opened others : List (Opened R)) (columns : Columns) → others ≡ opened
    → AreColumnsBy key (map (λ source. source.source.value.header.names) others) (map (λ source. source.source.value.header.names) others) columns
    → AreColumnsBy key (map (λ source. source.source.value.header.names) opened) (map (λ source. source.source.value.header.names) opened) columns
columns_alike {R} key opened others columns is are =
    let P : List (Opened R) → Type 0 = λ l. AreColumnsBy key (map (λ source. source.source.value.header.names) l) (map (λ source. source.source.value.header.names) l) columns in
    subst P is are

module _ {R : Type 0} (rem : R → Option (List ℕ)) where
  -- a source whose columns have got other names, of a stream that is watched
  known_renamed : {A : Type 0} (key : Option A) (form : Form) (header : List (List ℕ)) (old new : Source (Watched R)) (m : Option (List ℕ)) → IsRenamed key old new
      → IfSome m (λ t. IsOpen form Rows (watched_left rem) t header old) → IfSome m (λ t. IsOpen form Rows (watched_left rem) t header new)
  known_renamed key form header old new None renamed known = tt
  known_renamed key form header old new (Some t) renamed known = open-renamed (watched_left rem) key form Rows t header old new renamed known

  pub layer_open : {A : Type 0} (key : Option A) (f f2 : Form) (header : List (List ℕ)) (old new : Source (Watched R)) (m m2 : Option (List ℕ)) → f2 ≡ f → Keeps m m2
      → IsRenamed key old new → IfSome m2 (λ t. IsOpen f2 Rows (watched_left rem) t header old) → IfSome m (λ t. IsOpen f Rows (watched_left rem) t header new)
  layer_open key f f2 header old new m m2 ef kept renamed known =
      kept-known (λ t. IsOpen f Rows (watched_left rem) t header new) m m2 kept
      (subst (λ f. IfSome m2 (λ t. IsOpen f Rows (watched_left rem) t header new)) ef (known_renamed key f2 header old new m2 renamed known))

  -- the style of the first table, where one more stream is opened after others, and no more
  pub layer_style : (first : Option Style) (style : Style) (f f2 : Form) (m m2 : Option (List ℕ)) → f2 ≡ f → Keeps m m2
      → MatchOption first (IfSome m2 (IsNoted f2 style)) (λ s. style ≡ s) → MatchOption first (IfSome m (IsNoted f style)) (λ s. style ≡ s)
  layer_style None style f f2 m m2 ef kept noted = kept-known (IsNoted f style) m m2 kept (subst (λ f. IfSome m2 (IsNoted f style)) ef noted)
  layer_style (Some first) style f f2 m m2 ef kept same = same

  pub noted_then : (form : Form) (all left streams : List (Stream R)) (stream : Stream R) (first : Option Style) (style : Style) → left ≡ stream ∷ streams
      → MatchOption first ((s : Style) → IsNotedFirst rem form left s → IsNotedFirst rem form all s) (IsNotedFirst rem form all)
      → MatchOption first (IfSome (text_of_stream rem form stream) (IsNoted (form_of form stream) style)) (λ s. style ≡ s) → IsNotedFirst rem form all style
  noted_then form all left streams stream None style is before one = before style (subst (λ l. IsNotedFirst rem form l style) (sym is) one)
  noted_then form all left streams stream (Some first) style is before one = subst (IsNotedFirst rem form all) (sym one) before

  pub noted_none : (form : Form) (all left : List (Stream R)) (first : Option Style) → left ≡ []
      → MatchOption first ((s : Style) → IsNotedFirst rem form left s → IsNotedFirst rem form all s) (IsNotedFirst rem form all)
      → IsNotedFirst rem form all (unwrap_or first form.writing.style)
  noted_none form all left None is before = before form.writing.style (subst (λ l. IsNotedFirst rem form l form.writing.style) (sym is) refl)
  noted_none form all left (Some first) is before = before

  -- one more stream is opened after others, and no more
  pub layers_then : {A : Type 0} (form : Form) (key : Option A) (stream : Stream R) (left streams : List (Stream R)) (source : Opened (Watched R)) (more : List (Opened (Watched R)))
      → left ≡ stream ∷ streams → IsLayer rem form key stream source → AreLayers rem {A = A} form None streams more → AreLayers rem form key left (source ∷ more)
  layers_then form key stream left streams source more is one rest = subst (λ l. AreLayers rem form key l (source ∷ more)) (sym is) (one, rest)

  pub layers_none : {A : Type 0} (form : Form) (key : Option A) (left : List (Stream R)) → left ≡ [] → AreLayers rem form key left []
  layers_none form key left is = subst (λ l. AreLayers rem form key l []) (sym is) tt

  module _ (settings : Settings) (columns : Columns) where
    -- the keys of a text that is known, and those of none of one that is not
    known_keys : (form : Form) (header : List (List ℕ)) (source : Source (Watched R)) (P : Keys → Type 0) (m : Option (List ℕ))
        → IfSome m (λ text. IsOpen form Rows (watched_left rem) text header source) → OfKeys (watched_left rem) Rows columns source P
        → (keys : Keys) × IfSome m (λ text. KeysOf form Rows text source.header.names columns keys) × IfSome m (λ text. P keys)
    known_keys form header source P None begun of = ([], tt, tt)
    known_keys form header source P (Some text) begun of = of form text header begun

    holds_if : (P : Type 0) (m : Option (List ℕ)) → IsSome m → IfSome m (λ text. P) → P
    holds_if P None some h = absurd (cc some)
    holds_if P (Some text) some h = h

    both_known : (P Q : List ℕ → Type 0) (m : Option (List ℕ)) → IfSome m P → IfSome m Q → IfSome m (λ t. P t × Q t)
    both_known P Q None p q = tt
    both_known P Q (Some t) p q = (p, q)

    -- what the texts of streams that are opened and read say
    says_all : {A : Type 0} (key : Option A) (streams : List (Stream R)) (opened : List (Opened (Watched R))) (tables : List TableRows) (before after : Option Keys)
        → AreLayers rem settings.form key streams opened → ReadTables rem settings.groups columns opened tables → NotesAll rem columns opened before after
        → (said : List Said) × AreNamed key said × (map (λ table. table.names) said ≡ map (λ source. source.source.value.header.names) opened)
        × (map (λ table. table.rows) said ≡ tables) × AllZip (SaysRows rem settings columns) streams said
        × (IsSpelledAsFirst opened columns → SpellsFirst rem settings columns streams said)
        × (AreKnown rem settings streams → after ≡ noted_with before (flat_map (λ table. table.keys) said))
    says_all key [] [] [] before after layers read notes = ([], tt, refl, refl, tt, (λ spells. tt), λ known. notes ∙ sym (noted-none before))
    says_all key [] [] (table ∷ tables) before after layers read notes = absurd read
    says_all key [] (source ∷ opened) tables before after layers read notes = absurd layers
    says_all key (stream ∷ streams) [] tables before after layers read notes = absurd layers
    says_all key (stream ∷ streams) (source ∷ opened) [] before after layers read notes = absurd read
    says_all {A} key (stream ∷ streams) (source ∷ opened) (table ∷ tables) before after layers read notes =
        let rest = says_all {A = A} None streams opened tables notes.0 after layers.1 read.1 notes.2 in
        let header = layers.0.0 in
        let spelled = source.source.value.header.spelling.spelled in
        let form = form_of settings.form stream in
        let text = text_of_stream rem settings.form stream in
        let keyed = known_keys form header source.source.value (λ keys. notes.0 ≡ noted_with before keys) text layers.0.2 notes.1 in (
          record { header = header; spelled = spelled; names = source.source.value.header.names; rows = table; keys = keyed.0 } ∷ rest.0,
          (layers.0.1, rest.1),
          ap (λ l. source.source.value.header.names ∷ l) rest.2,
          ap (λ l. table ∷ l) rest.3,
          (
            known-more text (λ t begun.
                let says = read.0 form Rows t header begun.0 in
                (says, spelled-of (watched_left rem) form Rows t header source.source.value says.1.0 says.1.1 begun.0, begun.1))
                (both_known _ _ text layers.0.2 keyed.1),
            rest.4,
          ),
          (λ spells. known-more text (λ t begun. subst (λ names. IsSpelledAs names spelled columns) begun.named spells) layers.0.2),
          λ known.
              let first : notes.0 ≡ noted_with before keyed.0 = holds_if (notes.0 ≡ noted_with before keyed.0) text known.0 keyed.2 in
              rest.6 known.1 ∙ ap (λ m. noted_with m (flat_map (λ table. table.keys) rest.0)) first ∙ noted-more before keyed.0 (flat_map (λ table. table.keys) rest.0),
        )

  -- the style of the answer is that of the first text
  styles_first : (settings : Settings) (streams : List (Stream R)) (form : Form) (first style : Style) → form ≡ settings.form → IsNotedFirst rem settings.form streams first
      → IsStyleBy form.writing.heading first style → StylesFirst rem settings streams style
  styles_first settings [] form first style same is by =
      subst (λ s. IsStyleBy settings.form.writing.heading s style) is (subst (λ f. IsStyleBy f.writing.heading first style) same by)
  styles_first settings (stream ∷ streams) form first style same noted by =
      known-more (text_of_stream rem settings.form stream) (λ t is. style-of (form_of settings.form stream) form settings.form t first style same is by) noted

  -- several streams that are laid one over the other, of their texts
  pub overlay_streams : (settings : Settings) (layer : Layer) (streams : List (Stream R)) (opened : List (Opened (Watched R))) (first_style : Style) (job : Job Columns) (answer : Answer)
      → IsNotedFirst rem settings.form streams first_style → AreLayers rem settings.form settings.key streams opened
      → job.form ≡ settings.form → job.groups ≡ settings.groups → (settings.keeps_order ≡ false → IsUnordered job) → noted job.order ≡ begun_keys settings.keeps_order
      → AreColumnsBy settings.key (map (λ source. source.source.value.header.names) opened) (map (λ source. source.source.value.header.names) opened) job.columns.now
      → IsSpelledAsFirst opened job.columns.now → OverlaysSources rem layer first_style job opened answer → OverlaysStreams rem settings layer streams answer
  overlay_streams settings layer streams opened first_style job answer noted_first layers form groups unordered begins columned spells read =
      let said = says_all settings job.columns.now settings.key streams opened read.tables (noted job.order) read.overlaid.keys layers
      (subst (λ g. ReadTables rem g job.columns.now opened read.tables) groups read.read) read.notes in
      record {
        columns = job.columns.now;
        said = said.0;
        named = said.1;
        columned = subst (λ names. AreColumnsBy settings.key names names job.columns.now) (sym said.2) columned;
        says = said.4;
        spells = said.5 spells;
        ordered = λ known. said.6 known ∙ ap (λ m. noted_with m (flat_map (λ table. table.keys) said.0)) begins;
        overlaid = record {
          rows = read.overlaid.rows;
          keys = read.overlaid.keys;
          by_cells = read.overlaid.by_cells;
          laid = subst (λ tables. AreLaidOver layer [] tables read.overlaid.rows) (sym said.3) read.overlaid.laid;
          answers = record {
            style = read.overlaid.answers.style;
            styled = styles_first settings streams job.form first_style read.overlaid.answers.style form noted_first read.overlaid.answers.styled;
            text = subst (λ f. IsTableFile (in_style read.overlaid.answers.style f) job.columns.now read.overlaid.keys read.overlaid.by_cells read.overlaid.rows answer.bytes.items)
                form read.overlaid.answers.text;
            status = read.overlaid.answers.status;
            outcome = read.overlaid.answers.outcome;
          };
          order = λ by_key. read.overlaid.order (unordered by_key);
        };
      }
