-- What a request is answered: what its command answers of the streams that the names of its files open.
use Rattle.std.specs.Prelude.{◌≡◌, ℕ, Bool, List, Option, None, Some, IfOk, codes, is_some, nat_eq}
use Rattle.std.specs.Borrow.{Bor}
use Rattle.std.specs.Cmp.Lexicographic.{pointwise}
use Rattle.std.specs.Io.KnownBytes.{Appends}
use Rattle.std.specs.List.{AllZip}
use Rattle.either_or_both.specs.Either.{right_place}
use Rattle.either_or_both.specs.Prelude.{of_held}
use Rattle.either_or_both.specs.declared.either.Either.{Either}
use Rattle.keyed_files.specs.declared.opened.Stream.{Stream}
use Rattle.keyed_requests.specs.declared.request.Delimiter.{Delimiter}
use Rattle.keyed_requests.specs.declared.lookups.Lookup.{Lookup}
use Rattle.keyed_requests.specs.declared.merging.Merging.{Merging}
use Rattle.keyed_requests.specs.declared.overlays.NamedFile.{NamedFile}
use Rattle.keyed_requests.specs.declared.overlays.Overlay.{Overlay}
use Rattle.keyed_requests.specs.declared.request.Command.{Command}
use Rattle.keyed_requests.specs.declared.request.Command.TheVariants as command
use Rattle.keyed_requests.specs.declared.request.Comparing.{Comparing}
use Rattle.keyed_requests.specs.declared.request.Direction.{Direction}
use Rattle.keyed_requests.specs.declared.request.Format.TheVariants.{Csv}
use Rattle.keyed_requests.specs.declared.request.Joining.{Joining}
use Rattle.keyed_requests.specs.declared.request.Layout.{Layout}
use Rattle.keyed_requests.specs.declared.request.Misfits.{Misfits}
use Rattle.keyed_requests.specs.declared.request.Misfits.TheVariants.{Rejected, Reported}
use Rattle.keyed_requests.specs.declared.request.Request.{Request}
use Rattle.keyed_requests.specs.declared.request.Request.TheVariants.{Apply, Diff, DiffRows, Join, Merge}
use Rattle.keyed_requests.specs.declared.request.RowComparing.{RowComparing}
use Rattle.keyed_requests.specs.declared.request.RowFormat.TheVariants as rows
use Rattle.keyed_requests.specs.declared.request.Settings.{Settings}
use Rattle.keyed_requests.specs.declared.request.SortedChanges.{SortedChanges}
use Rattle.keyed_requests.specs.declared.request.SortedChanges.TheVariants as sorted_changes
use Rattle.keyed_requests.specs.declared.request.SortedRequest.{SortedRequest}
use Rattle.keyed_requests.specs.declared.request.SortedRequest.TheVariants as sorted
use Rattle.keyed_requests.specs.declared.request.Wanted.{Wanted}
use Rattle.keyed_requests.specs.declared.request.Wanted.TheVariants as wanted
use Rattle.keyed_jobs.specs.declared.answer.Answer.{Answer}
use Rattle.keyed_commands.specs.AppliedTexts.{AppliesStreams, PartlyStreams}
use Rattle.keyed_commands.specs.DiffOnly.{DiffsStreamsBy}
use Rattle.keyed_commands.specs.JoinAnswers.{JoinsStreams}
use Rattle.keyed_commands.specs.LookupAnswers.{LooksUpStreams}
use Rattle.keyed_commands.specs.MergedTexts.{MergesStreams}
use Rattle.keyed_commands.specs.OverlayAnswers.{OverlaysStreams}
use Rattle.keyed_commands.specs.Reported.{IsReport, ReportsStreams}
use Rattle.keyed_commands.specs.RowDiff.{DiffsRowStreams}
use Rattle.keyed_commands.specs.SortedTexts.{DiffsStreamsInParts, JoinsStreamsInParts}
use Rattle.keyed_commands.specs.declared.commands.partly.Partly.{Partly}

-- whether a name is that of the standard input
abbrev pub is_stdin : List ℕ → Bool
is_stdin name = pointwise nat_eq name (codes "-")

-- a name opens a stream: where there is a reader, it is that of the standard input exactly where the name is that
pub record IsStreamOf {F I : Type 0} (file : Bor (List ℕ)) (delimiter : Option Delimiter) (stream : Stream (Either F I)) : Type 0 where
  pub named : stream.file ≡ file
  pub delimited : stream.delimiter ≡ delimiter
  pub reader : IfOk stream.reader (λ reader. is_some (right_place reader) ≡ is_stdin file.now)

-- a stream of each of these names, in their order
abbrev pub AreStreamsOf : {F I : Type 0} → List NamedFile → List (Stream (Either F I)) → Type 0
AreStreamsOf names streams = AllZip (λ named stream. IsStreamOf named.file (Some named.delimiter) stream) names streams

-- such an answer is put after what was written, and its status is the one that is returned
abbrev pub WritesAnswer : (Answer → Type 0) → Option (List ℕ) → Option (List ℕ) → ℕ → Type 0
WritesAnswer holds before after status = (answer : Answer) × holds answer × Appends before after answer.bytes.items
    × (status ≡ answer.status)

-- the same, or its status alone is wanted, and nothing is written
abbrev pub WritesWanted : (Answer → Type 0) → Wanted → Option (List ℕ) → Option (List ℕ) → ℕ → Type 0
WritesWanted holds wanted.Answer before after status = WritesAnswer holds before after status
WritesWanted holds wanted.Status before after status = (answer : Answer) × holds answer × (after ≡ before) × (status ≡ answer.status)

-- what files have left to give, and what the standard input has
module _ {F I : Type 0} (file_left : F → Option (List ℕ)) (input_left : I → Option (List ℕ)) where
  abbrev remaining : Either F I → Option (List ℕ)
  remaining = of_held file_left input_left

  module _ (settings : Settings) where
    abbrev AnswersDiff : Comparing → Stream (Either F I) → Stream (Either F I) → Answer → Type 0
    AnswersDiff how old new answer = (how.format ≡ Csv → DiffsStreamsBy remaining how.view.columns settings old new answer)
        × (IsReport how.format → how.sameness ≡ None → ReportsStreams remaining how settings old new answer)

    -- each command of the streams of its names, in their order; the first is read as the settings say, and a later one may have a byte
    -- between its cells of its own
    abbrev pub DiffsNamed : Bor (List ℕ) → Bor (List ℕ) → Comparing → Answer → Type 0
    DiffsNamed old new how answer = (first : Stream (Either F I)) × (next : Stream (Either F I)) × IsStreamOf old None first
        × IsStreamOf new settings.form.reading.next next × AnswersDiff how first next answer

    abbrev pub DiffsRowsNamed : Bor (List ℕ) → Bor (List ℕ) → RowComparing → Answer → Type 0
    DiffsRowsNamed old new how answer = (first : Stream (Either F I)) × (next : Stream (Either F I)) × IsStreamOf old None first
        × IsStreamOf new settings.form.reading.next next × DiffsRowStreams remaining settings.form how.format first next answer

    abbrev pub AppliesNamed : Bor (List ℕ) → Bor (List ℕ) → Direction → Answer → Type 0
    AppliesNamed old changes direction answer = (first : Stream (Either F I)) × (next : Stream (Either F I)) × IsStreamOf old None first
        × IsStreamOf changes settings.form.reading.next next × AppliesStreams remaining settings direction first next answer

    -- the same of those changes that fit; the others are there as a text, of which it is not said here where it is put
    abbrev pub PartlyNamed : Bor (List ℕ) → Bor (List ℕ) → Direction → Partly → Type 0
    PartlyNamed old changes direction partly = (first : Stream (Either F I)) × (next : Stream (Either F I)) × IsStreamOf old None first
        × IsStreamOf changes settings.form.reading.next next × PartlyStreams remaining settings direction first next partly

    abbrev pub RejectsNamed : Bor (List ℕ) → Bor (List ℕ) → Direction → Answer → Type 0
    RejectsNamed old changes direction answer = (partly : Partly) × PartlyNamed old changes direction partly × (answer ≡ partly.answer)

    abbrev pub ChangesNamed : Misfits → Bor (List ℕ) → Bor (List ℕ) → Direction → Answer → Type 0
    ChangesNamed Reported old changes direction answer = AppliesNamed old changes direction answer
    ChangesNamed (Rejected file) old changes direction answer = RejectsNamed old changes direction answer

    abbrev pub MergesNamed : Bor (List ℕ) → Bor (List ℕ) → Bor (List ℕ) → Merging → Answer → Type 0
    MergesNamed base ours theirs how answer = (first : Stream (Either F I)) × (next : Stream (Either F I)) × (last : Stream (Either F I))
        × IsStreamOf base None first × IsStreamOf ours settings.form.reading.next next × IsStreamOf theirs settings.form.reading.last last
        × (how.sameness ≡ None → MergesStreams remaining how.conflicts how.unit settings first next last answer)

    abbrev pub JoinsNamed : Bor (List ℕ) → Bor (List ℕ) → Joining → Answer → Type 0
    JoinsNamed left right how answer = (first : Stream (Either F I)) × (next : Stream (Either F I)) × IsStreamOf left None first
        × IsStreamOf right settings.form.reading.next next × (how.format ≡ rows.Csv → JoinsStreams remaining settings how first next answer)

    -- an answer is that of a request
    abbrev pub AnswersRequest : Request → Answer → Type 0
    AnswersRequest (Diff old new how) answer = DiffsNamed old new how answer
    AnswersRequest (DiffRows old new how) answer = DiffsRowsNamed old new how answer
    AnswersRequest (Apply old changes how) answer = ChangesNamed how.misfits old changes how.direction answer
    AnswersRequest (Merge base ours theirs how) answer = MergesNamed base ours theirs how answer
    AnswersRequest (Join left right how) answer = JoinsNamed left right how answer

    -- tables that are laid one over the other, each of the stream of its name
    abbrev pub OverlaysNamed : Overlay → Answer → Type 0
    OverlaysNamed request answer = (streams : List (Stream (Either F I))) × AreStreamsOf request.files.items streams
        × OverlaysStreams remaining settings request.layer streams answer

  -- rows of the first table that are looked up in the other are put after what was written
  abbrev pub LooksUpNamed : Layout → Lookup → Option (List ℕ) → Option (List ℕ) → Type 0
  LooksUpNamed layout request before after = (first : Stream (Either F I)) × (next : Stream (Either F I))
      × IsStreamOf request.left None first × IsStreamOf request.right layout.form.reading.next next
      × (request.how.format ≡ rows.Csv → LooksUpStreams remaining layout request.how first next before after)

  -- of tables that are read part by part: the changes between them as CSV are put after what was written, or their join
  abbrev pub DiffsNamedInParts : Layout → Bor (List ℕ) → Bor (List ℕ) → SortedChanges → Option (List ℕ) → Option (List ℕ) → ℕ → Type 0
  DiffsNamedInParts layout old new how before after status = (first : Stream (Either F I)) × (next : Stream (Either F I))
      × IsStreamOf old None first × IsStreamOf new layout.form.reading.next next
      × (how ≡ sorted_changes.Csv → DiffsStreamsInParts remaining layout first next before after status)

  abbrev pub JoinsNamedInParts : Layout → Bor (List ℕ) → Bor (List ℕ) → Joining → Option (List ℕ) → Option (List ℕ) → ℕ → Type 0
  JoinsNamedInParts layout left right how before after status = (first : Stream (Either F I)) × (next : Stream (Either F I))
      × IsStreamOf left None first × IsStreamOf right layout.form.reading.next next
      × (how.format ≡ rows.Csv → JoinsStreamsInParts remaining layout how first next before after status)

  abbrev pub WritesSorted : Layout → SortedRequest → Option (List ℕ) → Option (List ℕ) → ℕ → Type 0
  WritesSorted layout (sorted.Diff old new how) before after status = DiffsNamedInParts layout old new how before after status
  WritesSorted layout (sorted.Join left right how) before after status = JoinsNamedInParts layout left right how before after status

  -- the same, or the status alone is wanted, and nothing is written
  abbrev pub WritesSortedWanted : Layout → SortedRequest → Wanted → Option (List ℕ) → Option (List ℕ) → ℕ → Type 0
  WritesSortedWanted layout request wanted.Answer before after status = WritesSorted layout request before after status
  WritesSortedWanted layout request wanted.Status before after status = after ≡ before

  -- what a command writes, and its status
  abbrev pub WritesCommand : Command → Option (List ℕ) → Option (List ℕ) → ℕ → Type 0
  WritesCommand (command.Whole settings request which) before after status = WritesWanted (AnswersRequest settings request) which before after status
  WritesCommand (command.Sorted layout request which) before after status = WritesSortedWanted layout request which before after status
  WritesCommand (command.Lookup layout request) before after status = LooksUpNamed layout request before after × (status ≡ 0)
  WritesCommand (command.Overlay settings request) before after status = WritesAnswer (OverlaysNamed settings request) before after status
