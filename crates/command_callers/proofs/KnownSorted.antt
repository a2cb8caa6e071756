-- What is written of two texts that are known while they are read, as what is answered of whole ones.
use Rattle.std.proofs.Common.{◌≡◌, ◌∙◌, ◌++◌, ℕ, true, false, List, [], None, Some, map, refl, ap}
use Rattle.keyed_requests.specs.declared.request.Form.{Form}
use Rattle.keyed_requests.specs.declared.request.Layout.{Layout}
use Rattle.keyed_requests.specs.declared.request.Look.{Look}
use Rattle.keyed_requests.specs.declared.request.Settings.{Settings}
use Rattle.keyed_columns.specs.CellsUnder.{row_under}
use Rattle.keyed_columns.specs.ChangedColumns.{marked_names}
use Rattle.keyed_columns.specs.declared.columns.Columns.{Columns}
use Rattle.keyed_columns.specs.declared.content.Content.TheVariants.{Rows}
use Rattle.keyed_files.specs.Reading.{behind_header}
use Rattle.keyed_jobs.specs.Answers.{TableRows}
use Rattle.keyed_jobs.specs.FileOrder.{Keys, KeysOf}
use Rattle.keyed_jobs.specs.TablesRead.{DiffsTexts, SaysTable}
use Rattle.keyed_jobs.specs.declared.answer.Answer.{Answer}
use Rattle.keyed_commands.specs.SortedTexts.{DiffsTextsInParts}

-- the keys of a text that says a table
said_keys : (form : Form) (text : List ℕ) (header names : List (List ℕ)) (columns : Columns) (table : TableRows)
    → SaysTable form Rows false text header names columns table → (keys : Keys) × KeysOf form Rows text names columns keys
said_keys form text header names columns table h =
    let records = h.1.0 in
    let keys : Keys = map (λ fields. (row_under Rows names columns fields).0) (behind_header form.has_header records) in
    (keys, (records, h.1.1, refl))

-- settings in which nothing is set but a layout
abbrev pub settings_of : Layout → Look → Settings
settings_of layout look = record { form = layout.form; key = layout.key; renames = None; keeps_order = false; groups = false; look = look }

module _ (layout : Layout) (look : Look) (old_form new_form : Form) (old_text new_text before : List ℕ) (answer : Answer) where
  pub as_whole : before ≡ [] → DiffsTextsInParts layout old_form new_form old_text new_text (Some before) (Some answer.bytes.items) answer.status
      → DiffsTexts (settings_of layout look) old_form new_form old_text new_text answer
  as_whole none d =
      let old_keys = said_keys old_form old_text d.header d.names d.columns d.old d.old_says in
      let new_keys = said_keys new_form new_text d.next_header d.next_header d.columns d.new d.new_says in
      let bytes : answer.bytes.items ≡ d.text = d.puts ∙ ap (λ l. l ++ d.text) none in
      record {
        columns = d.columns;
        header = d.header;
        names = d.names;
        next_header = d.next_header;
        named = (d.names, d.named, refl);
        columned = d.columned;
        old = d.old;
        new = d.new;
        old_says = d.old_says;
        new_says = d.new_says;
        changes = record {
          marked = marked_names d.names d.next_header;
          keys = None;
          by_cells = true;
          changes = (d.changes.0, d.changes.1, bytes ∙ d.changes.2);
          order = λ by_key. (refl, refl);
        };
        ordered = record { first = old_keys.0; next = new_keys.0; first_keyed = old_keys.1; next_keyed = new_keys.1; are = refl };
        marks = refl;
        status = d.told;
      }
