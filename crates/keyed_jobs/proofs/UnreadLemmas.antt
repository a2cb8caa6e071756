-- Why a table is not read, by what its steps say.
use Rattle.std.proofs.Common.{◌≡◌, ◌∙◌, ◌⊎◌, ℕ, List, [], ◌++◌, Option, Bool, inl, inr, refl, subst, sym, true}
use Rattle.std.specs.Prelude.{Err, IfErr, Result}
use Rattle.keyed_rows.specs.declared.row.ReadRow.{ReadRow}
use Rattle.keyed_faults.specs.declared.fault.Fault.{Fault}
use Rattle.keyed_faults.specs.declared.fault.Reason.{Reason}
use Rattle.keyed_faults.specs.declared.fault.Reason.TheVariants.{NoMemory}
use Rattle.keyed_columns.specs.declared.columns.Columns.{Columns}
use Rattle.keyed_files.specs.Explained.{ExplainsRow, ExplainsRows, ExplainsSigned, IsOfRow, SameCount}
use Rattle.keyed_files.specs.Reading.{GivesRecord, HasGiven, ReadsRows}
use Rattle.keyed_files.specs.declared.source.Source.{Source}
use Rattle.keyed_jobs.specs.ChangesRead.{PartsChanges}
use Rattle.keyed_jobs.specs.Unread.{ExplainsChanges, ExplainsGathering, ExplainsTable}

-- the reason of a fault is explained as its error is
pub told-of : {T : Type 0} (P : Reason → Type 0) (outcome : Result T Reason) (fault : Fault)
    → (error : Reason) × (outcome ≡ Err error) × (fault.reason ≡ error) → IfErr outcome P → P fault.reason
told-of P outcome fault same why = subst P (sym same.2) (subst (λ o. IfErr o P) same.1 why)

module _ {R : Type 0} (rem : R → Option (List ℕ)) where
  -- memory may be refused at any row
  pub rows-memory : (source : Source R) → ExplainsRows rem source NoMemory
  rows-memory source = record { now = source; rule = (refl, refl); row = inl tt; comes = λ of. absurd of }

  -- the row that comes next is to blame
  pub rows-next : (source at now : Source R) (told : Reason)
      → ((d : ℕ) (c : Option ℕ) (text : List ℕ) (given : List (List (List ℕ))) → HasGiven d c rem text given source
      → (records : List (List (List ℕ))) × HasGiven d c rem text (given ++ records) at)
      → SameCount source at → SameCount at now → (ExplainsRow now told ⊎ ExplainsSigned now told) → (IsOfRow told → GivesRecord rem at now true)
      → ExplainsRows rem source told
  rows-next source at now told reads before next row gave = record {
    now = now;
    rule = (next.0 ∙ before.0, next.1 ∙ before.1);
    row = row;
    comes = λ of d c text given has.
        let so_far = reads d c text given has in
        (so_far.0, gave of d c text (given ++ so_far.0) so_far.1);
  }

  -- the rows that were read are not gathered
  pub why-gathered : (groups : Bool) (columns : Columns) (source : Source R) (old rows : List ReadRow) (told : Reason) → old ≡ []
      → ReadsRows rem columns source old rows → ExplainsGathering groups rows told → ExplainsTable rem groups columns source told
  why-gathered groups columns source old rows told none reads why = inr (rows, subst (λ o. ReadsRows rem columns source o rows) none reads, why)

  pub why-paired : (groups : Bool) (columns : Columns) (source : Source R) (old_gone gone old_come come : List ReadRow) (before after : Option (List (List (List ℕ)))) (told : Reason)
      → old_gone ≡ [] → old_come ≡ [] → PartsChanges rem columns source old_gone gone old_come come before after
      → (ExplainsGathering groups gone told ⊎ ExplainsGathering groups come told) → ExplainsChanges rem groups columns source told
  why-paired groups columns source old_gone gone old_come come before after told none_gone none_come reads why =
      inr (
        gone,
        come,
        before,
        after,
        subst (λ o. PartsChanges rem columns source [] gone o come before after) none_come
            (subst (λ o. PartsChanges rem columns source o gone old_come come before after) none_gone reads),
        why,
      )
