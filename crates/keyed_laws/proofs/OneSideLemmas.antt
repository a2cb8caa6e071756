-- What one side alone changed stands in the table that a merge makes.
use Rattle.std.proofs.Common.{◌≡◌, ◌∙◌, ℕ, true, List, Option, None, Some, ap, refl, sym, subst, true≢false}
use Rattle.std.specs.Prelude.{MatchBool}
use Rattle.std.specs.Option.{option_eq}
use Rattle.eob_joins.specs.Versions.{merged_place}
use Rattle.eob_joins.proofs.TableLemmas.{by_test}
use Rattle.keyed_requests.specs.AnswerForm.{in_style}
use Rattle.keyed_requests.specs.declared.request.Form.{Form}
use Rattle.keyed_requests.specs.declared.request.Settings.{Settings}
use Rattle.keyed_requests.specs.declared.merging.Conflicts.TheVariants.{Report}
use Rattle.keyed_requests.specs.declared.merging.Unit.TheVariants as unit
use Rattle.keyed_jobs.specs.Answers.{AnswersMerged, HasNoConflict, IsTableFile, Stops, clashes_at, rows_eq}
use Rattle.keyed_jobs.specs.Lost.{loses}
use Rattle.keyed_jobs.specs.declared.answer.Answer.{Answer}
use Rattle.keyed_jobs.specs.declared.answer.Outcome.TheVariants.{Made, Stopped}
use Rattle.keyed_jobs.proofs.AnswerLemmas.{rows_decides}
use Rattle.keyed_commands.specs.MergedTexts.{AnswersByRow, MergesTexts}
use Rattle.keyed_laws.specs.OneSide.{OneSideLaw}

-- groups that count as the same are the same, where there are any
same_places : (m n : Option (List (List (List ℕ)))) → option_eq rows_eq m n ≡ true → m ≡ n
same_places None None e = refl
same_places None (Some w) e = absurd (true≢false (sym e))
same_places (Some v) None e = absurd (true≢false (sym e))
same_places (Some v) (Some w) e = ap Some ((rows_decides v w).0 e)

itself : (m : Option (List (List (List ℕ)))) → option_eq rows_eq m m ≡ true
itself None = refl
itself (Some v) = (rows_decides v v).1 refl

-- what a key has where theirs is as the base is, and where ours is
ours_there : (base ours theirs : Option (List (List (List ℕ)))) → theirs ≡ base → merged_place rows_eq base ours theirs ≡ ours
ours_there base ours theirs e = by_test (option_eq rows_eq base ours) (λ t. rw t (e ∙ same_places base ours t)) (λ f. rw f refl)

theirs_there : (base ours theirs : Option (List (List (List ℕ)))) → ours ≡ base → merged_place rows_eq base ours theirs ≡ theirs
theirs_there base ours theirs e =
    let same : option_eq rows_eq base ours ≡ true = ap (λ m. option_eq rows_eq base m) e ∙ itself base in
    rw same refl

stopped_made : Stopped ≡ Made → ⊥
stopped_made e = absurd (cc)

module _ (settings : Settings) (base_form ours_form theirs_form : Form) (base_text ours_text theirs_text : List ℕ) (answer : Answer)
    (merges : MergesTexts Report unit.Row settings base_form ours_form theirs_form base_text ours_text theirs_text answer) (made : answer.outcome ≡ Made) where
  -- the form that the answer is written in
  abbrev made_in : Form
  made_in = in_style merges.merged.style settings.form

  not_stopped : Stops answer → ⊥
  not_stopped stops = stopped_made (sym stops.1 ∙ made)

  by_row : AnswersByRow made_in merges.columns merges.merged.keys merges.merged.by_cells merges.base merges.ours merges.theirs answer
  by_row = merges.merged.merged

  free : HasNoConflict merges.base merges.ours merges.theirs
  free key = by_test (clashes_at merges.base merges.ours merges.theirs key) (λ t. absurd (not_stopped (by_row.conflict (key, t)))) (λ f. f)

  told : AnswersMerged made_in merges.columns merges.merged.keys merges.merged.by_cells merges.base merges.ours merges.theirs answer
  told = by_row.whole free

  text : IsTableFile made_in merges.columns merges.merged.keys merges.merged.by_cells told.0 answer.bytes.items
  text = by_test (loses merges.columns told.0)
      (λ t. absurd (not_stopped (subst (λ b. MatchBool b (Stops answer) ((answer.status ≡ 0) × (answer.outcome ≡ Made)
      × IsTableFile made_in merges.columns merges.merged.keys merges.merged.by_cells told.0 answer.bytes.items)) t told.2)))
      (λ f. (subst (λ b. MatchBool b (Stops answer) ((answer.status ≡ 0) × (answer.outcome ≡ Made)
      × IsTableFile made_in merges.columns merges.merged.keys merges.merged.by_cells told.0 answer.bytes.items)) f told.2).2)

pub one-side-law : OneSideLaw
one-side-law settings base_form ours_form theirs_form base_text ours_text theirs_text answer merges made =
    let tells = told settings base_form ours_form theirs_form base_text ours_text theirs_text answer merges made in (
      tells.0,
      record {
        rises = tells.1.rises;
        ours_alone = λ key e. tells.1.values key ∙ ours_there _ _ _ e;
        theirs_alone = λ key e. tells.1.values key ∙ theirs_there _ _ _ e;
      },
      text settings base_form ours_form theirs_form base_text ours_text theirs_text answer merges made,
    )
