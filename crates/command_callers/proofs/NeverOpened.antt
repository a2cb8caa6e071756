-- What is told of a stream that can't be opened, by what a command says of why it gives no answer.
use Rattle.std.proofs.Common.{◌≡◌, ◌⊎◌, ℕ, List, Option, ap, inl, inr, subst}
use Rattle.std.specs.Prelude.{Err, IsOk, Ok, Result}
use Rattle.keyed_faults.specs.Outside.{IsApart}
use Rattle.keyed_faults.specs.declared.fault.Fault.{Fault}
use Rattle.keyed_faults.specs.declared.fault.Reason.{Reason}
use Rattle.keyed_requests.specs.declared.request.Comparing.{Comparing}
use Rattle.keyed_requests.specs.declared.request.Layout.{Layout}
use Rattle.keyed_requests.specs.declared.request.Settings.{Settings}
use Rattle.keyed_requests.specs.declared.request.SortedChanges.{SortedChanges}
use Rattle.keyed_files.specs.Explained.{ExplainsBoth, ExplainsOpening}
use Rattle.keyed_files.specs.declared.opened.Stream.{Stream}
use Rattle.keyed_commands.specs.Unanswered.{ExplainsDiff, ExplainsMerge}
use Rattle.keyed_commands.specs.UnansweredLookup.{ExplainsLookup}
use Rattle.keyed_commands.specs.UnansweredSorted.{ExplainsDiffSorted}
use Rattle.command_callers.specs.Unopened.{IsApartIn, IsToldOf}

-- there is no reader where there is a reason
no-reader : {R : Type 0} (reader : Result R Reason) (why : Reason) → reader ≡ Err why → IsOk reader → ⊥
no-reader (Ok inner) why is ready = absurd (cc is)
no-reader (Err other) why is ready = absurd (cc ready)

told-why : {R : Type 0} (reader : Result R Reason) (why told : Reason) → reader ≡ Err why → ExplainsOpening reader told → told ≡ why
told-why reader why told is opening = subst (λ r. ExplainsOpening r told) is opening

told-apart : {R : Type 0} (reader : Result R Reason) (inner : R) (told : Reason) → reader ≡ Ok inner → ExplainsOpening reader told → IsApart told
told-apart reader inner told is opening = subst (λ r. ExplainsOpening r told) is opening

-- the fault is of this stream, and says why it can't be opened
abbrev pub IsOfStream : {R : Type 0} → Stream R → Reason → Fault → Type 0
IsOfStream stream why fault = (fault.file ≡ stream.file) × (fault.reason ≡ why)

-- or of this one, of which neither the header nor a row is to blame
abbrev pub IsApartFor : {R : Type 0} → Stream R → Fault → Type 0
IsApartFor stream fault = (fault.file ≡ stream.file) × IsApart fault.reason

-- the same by the names of their files
apart-in : {R : Type 0} (stream : Stream R) (fault : Fault) → IsApartFor stream fault → IsApartIn stream.file.now fault
apart-in stream fault apart = (ap (λ file. file.now) apart.0, apart.1)

by-name : {R : Type 0} (stream : Stream R) (why : Reason) (fault : Fault) → IsOfStream stream why fault → IsToldOf stream.file.now why fault
by-name stream why fault told = (ap (λ file. file.now) told.0, told.1)

of-either : {R : Type 0} (stream other : Stream R) (why : Reason) (fault : Fault) → (IsOfStream stream why fault ⊎ IsApartFor other fault)
    → IsToldOf stream.file.now why fault ⊎ IsApartIn other.file.now fault
of-either stream other why fault (inl told) = inl (by-name stream why fault told)
of-either stream other why fault (inr apart) = inr (apart-in other fault apart)

module _ {R : Type 0} (first next : Stream R) (why : Reason) (fault : Fault) where
  pub first-unopened : first.reader ≡ Err why → ExplainsBoth first next fault → IsOfStream first why fault
  first-unopened is (inl one) = (one.0, told-why first.reader why fault.reason is one.1)
  first-unopened is (inr one) = absurd (no-reader first.reader why is one.0)

  pub next-unopened : (inner : R) → first.reader ≡ Ok inner → next.reader ≡ Err why → ExplainsBoth first next fault
      → IsOfStream next why fault ⊎ IsApartFor first fault
  next-unopened inner opened is (inl one) = inr (one.0, told-apart first.reader inner fault.reason opened one.1)
  next-unopened inner opened is (inr one) = inl (one.1, told-why next.reader why fault.reason is one.2)

module _ {R : Type 0} (rem : R → Option (List ℕ)) where
  pub diff-unopened : (settings : Settings) (how : Comparing) (old new : Stream R) (why : Reason) (fault : Fault) → old.reader ≡ Err why
      → ExplainsDiff rem settings how old new fault → IsToldOf old.file.now why fault
  diff-unopened settings how old new why fault is (inl both) = by-name old why fault (first-unopened old new why fault is both)
  diff-unopened settings how old new why fault is (inr (inl anew)) = absurd (no-reader old.reader why is anew.1.1.ready)
  diff-unopened settings how old new why fault is (inr (inr (two, first, next, explains))) = absurd (no-reader old.reader why is first.opens.ready)

  pub sorted-unopened : (layout : Layout) (how : SortedChanges) (old new : Stream R) (inner : R) (why : Reason) (fault : Fault) → old.reader ≡ Ok inner → new.reader ≡ Err why
      → ExplainsDiffSorted rem layout how old new fault → IsToldOf new.file.now why fault ⊎ IsApartIn old.file.now fault
  sorted-unopened layout how old new inner why fault opened is (inl both) = of-either new old why fault (next-unopened old new why fault inner opened is both)
  sorted-unopened layout how old new inner why fault opened is (inr (inl renamed)) = absurd (no-reader new.reader why is renamed.0)
  sorted-unopened layout how old new inner why fault opened is (inr (inr (versions, first, next, explains))) = absurd (no-reader new.reader why is next.ready)

  pub lookup-unopened : (layout : Layout) (left right : Stream R) (inner : R) (why : Reason) (fault : Fault) → left.reader ≡ Ok inner → right.reader ≡ Err why
      → ExplainsLookup rem layout left right fault → IsToldOf right.file.now why fault ⊎ IsApartIn left.file.now fault
  lookup-unopened layout left right inner why fault opened is (inl both) = of-either right left why fault (next-unopened left right why fault inner opened is both)
  lookup-unopened layout left right inner why fault opened is (inr (two, first, next, explains)) = absurd (no-reader right.reader why is next.ready)

of-three : {R : Type 0} (base ours theirs : Stream R) (why : Reason) (fault : Fault) → (IsToldOf theirs.file.now why fault ⊎ IsApartIn ours.file.now fault)
    → IsToldOf theirs.file.now why fault ⊎ (IsApartIn base.file.now fault ⊎ IsApartIn ours.file.now fault)
of-three base ours theirs why fault (inl told) = inl told
of-three base ours theirs why fault (inr apart) = inr (inr apart)

module _ {R S : Type 0} (rem : R → Option (List ℕ)) (left : S → Option (List ℕ)) where
  pub merge-unopened : (settings : Settings) (base ours theirs : Stream R) (base_inner inner : R) (why : Reason) (fault : Fault)
      → base.reader ≡ Ok base_inner → ours.reader ≡ Ok inner → theirs.reader ≡ Err why
      → ExplainsMerge rem left settings base ours theirs fault → IsToldOf theirs.file.now why fault ⊎ (IsApartIn base.file.now fault ⊎ IsApartIn ours.file.now fault)
  merge-unopened settings base ours theirs base_inner inner why fault first opened is (inl one) =
      inr (inl (apart-in base fault (one.0, told-apart base.reader base_inner fault.reason first one.1)))
  merge-unopened settings base ours theirs base_inner inner why fault first opened is (inr (inl (ready, both))) =
      of-three base ours theirs why fault (of-either theirs ours why fault (next-unopened ours theirs why fault inner opened is both))
  merge-unopened settings base ours theirs base_inner inner why fault first opened is (inr (inr (inl anew))) = absurd (no-reader theirs.reader why is anew.1)
  merge-unopened settings base ours theirs base_inner inner why fault first opened is (inr (inr (inr (two, sides, anew, second, third, explains)))) =
      absurd (no-reader theirs.reader why is third.ready)
