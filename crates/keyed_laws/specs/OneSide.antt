-- What a merge keeps of what one side alone changed.
use Rattle.std.specs.Prelude.{◌≡◌, ℕ, List}
use Rattle.eob_lists.specs.Join.{Rising, value_under}
use Rattle.keyed_requests.specs.AnswerForm.{in_style}
use Rattle.keyed_requests.specs.declared.request.Form.{Form}
use Rattle.keyed_requests.specs.declared.request.Settings.{Settings}
use Rattle.keyed_requests.specs.declared.merging.Conflicts.TheVariants.{Report}
use Rattle.keyed_requests.specs.declared.merging.Unit.TheVariants as unit
use Rattle.keyed_jobs.specs.Answers.{IsTableFile, TableRows, key_cmp}
use Rattle.keyed_jobs.specs.declared.answer.Answer.{Answer}
use Rattle.keyed_jobs.specs.declared.answer.Outcome.TheVariants.{Made}
use Rattle.keyed_commands.specs.MergedTexts.{MergesTexts}

-- rows have, under each key at which one of two versions is as their base is, what the other one has; each key stands once, and they are in
-- the order of their keys
pub record KeepsOneSide (base ours theirs rows : TableRows) : Type 0 where
  pub rises : Rising key_cmp rows
  pub ours_alone : (key : List (List ℕ)) → value_under key_cmp theirs key ≡ value_under key_cmp base key
      → value_under key_cmp rows key ≡ value_under key_cmp ours key
  pub theirs_alone : (key : List (List ℕ)) → value_under key_cmp ours key ≡ value_under key_cmp base key
      → value_under key_cmp rows key ≡ value_under key_cmp theirs key

-- what `merge` makes of three texts row by row is the file of a table that has what one side alone changed, whatever the texts are
abbrev pub OneSideLaw : Type 0
OneSideLaw = (settings : Settings) (base_form ours_form theirs_form : Form) (base_text ours_text theirs_text : List ℕ) (answer : Answer)
    → (merges : MergesTexts Report unit.Row settings base_form ours_form theirs_form base_text ours_text theirs_text answer) → answer.outcome ≡ Made
    → (rows : TableRows) × KeepsOneSide merges.base merges.ours merges.theirs rows
    × IsTableFile (in_style merges.merged.style settings.form) merges.columns merges.merged.keys merges.merged.by_cells rows answer.bytes.items
