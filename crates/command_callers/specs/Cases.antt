-- What commands answer of texts that are known, by case.
use Rattle.std.specs.Prelude.{◌≡◌, ◌∷◌, [], ℕ, List, codes, true}
use Rattle.eob_both.specs.declared.either_or_both.EitherOrBoth.TheVariants.{Left, Both, Right}
use Rattle.keyed_requests.specs.declared.request.Kind.{Kind}
use Rattle.keyed_requests.specs.declared.request.Kind.TheVariants as kind
use Rattle.keyed_columns.specs.Alikes.{as_they_stand}
use Rattle.keyed_columns.specs.ColumnNames.{HaveNames}
use Rattle.keyed_columns.specs.declared.columns.Columns.{Columns}
use Rattle.keyed_reports.specs.TableLines.{HasTextOfRows}
use Rattle.keyed_jobs.specs.Answers.{Stops}
use Rattle.keyed_jobs.specs.declared.answer.Answer.{Answer}
use Rattle.command_callers.specs.Answered.{IsMarkedInStyle, IsTableInStyle, fully, plainly}
use Rattle.command_callers.specs.declared.Changed.{Changed}
use Rattle.command_callers.specs.declared.Changed.TheVariants as changed
use Rattle.command_callers.specs.declared.Compared.{Compared}
use Rattle.command_callers.specs.declared.Compared.TheVariants as compared
use Rattle.command_callers.specs.declared.Merged.{Merged}
use Rattle.command_callers.specs.declared.Merged.TheVariants as merged

-- an answer has this status and these bytes
abbrev pub IsAnswer : ℕ → List ℕ → Answer → Type 0
IsAnswer status bytes answer = (answer.status ≡ status) × (answer.bytes.items ≡ bytes)

-- what `diff` answers: changes, a report of which the status is told, and a table for a person
abbrev pub AnswersToDiff : Compared → Answer → Type 0
AnswersToDiff compared.ChangedRow answer = IsAnswer 1 (codes "change,id,a\n-,1,x\n+,1,y\n") answer
AnswersToDiff compared.SameTable answer = IsAnswer 0 (codes "change,id,a\n") answer
AnswersToDiff compared.Semicolons answer = IsAnswer 0 (codes "change,id,a\n") answer
AnswersToDiff compared.NoHeader answer = IsAnswer 1 (codes "-,1,x\n+,1,y\n") answer
AnswersToDiff compared.NewColumn answer = IsAnswer 1 (codes "change,id,+b,a\n+,2,z,y\n") answer
AnswersToDiff compared.ReportedRow answer = answer.status ≡ 1
AnswersToDiff compared.ReportedSame answer = answer.status ≡ 0
AnswersToDiff compared.ToldRows answer = (columns : Columns) × HaveNames (codes "id" ∷ []) (codes "id" ∷ codes "a" ∷ []) columns
    × HasTextOfRows (as_they_stand ∷ []) (true ∷ []) columns
    ((codes "1" ∷ [], Both (codes "x" ∷ []) (codes "z" ∷ [])) ∷ (codes "2" ∷ [], Left (codes "y" ∷ [])) ∷ (codes "3" ∷ [], Right (codes "w" ∷ [])) ∷ [])
    (codes "1 added, 1 removed, 1 changed, 0 the same\n") answer.bytes.items

-- what `apply` answers: a report, or a table
abbrev pub AnswersToApply : Changed → Answer → Type 0
AnswersToApply changed.Misfit answer = Stops answer
AnswersToApply changed.Stale answer = Stops answer
AnswersToApply changed.Forward answer =
    IsTableInStyle ((codes "id" ∷ codes "a" ∷ []) ∷ (codes "1" ∷ codes "y" ∷ []) ∷ []) plainly (codes "id,a\n1,y\n") answer
AnswersToApply changed.Backward answer =
    IsTableInStyle ((codes "id" ∷ codes "a" ∷ []) ∷ (codes "1" ∷ codes "x" ∷ []) ∷ []) fully (239 ∷ 187 ∷ 191 ∷ codes "\"id\",\"a\"\r\n\"1\",\"x\"\r\n") answer
AnswersToApply changed.Keys answer = IsTableInStyle ((codes "id" ∷ []) ∷ (codes "1" ∷ []) ∷ (codes "3" ∷ []) ∷ []) plainly (codes "id\n1\n3\n") answer
AnswersToApply changed.DroppedColumn answer = IsTableInStyle ((codes "id" ∷ []) ∷ (codes "2" ∷ []) ∷ []) plainly (codes "id\n2\n") answer
AnswersToApply changed.LostCell answer = Stops answer

-- what `merge` answers: a table, one with marks, or a report
abbrev pub AnswersToMerge : Merged → Answer → Type 0
AnswersToMerge merged.Rows answer =
    IsTableInStyle ((codes "id" ∷ codes "a" ∷ []) ∷ (codes "1" ∷ codes "y" ∷ []) ∷ (codes "2" ∷ codes "z" ∷ []) ∷ []) fully
    (239 ∷ 187 ∷ 191 ∷ codes "\"id\",\"a\"\r\n\"1\",\"y\"\r\n\"2\",\"z\"\r\n") answer
AnswersToMerge merged.RowConflict answer = Stops answer
AnswersToMerge merged.MarkedRow answer =
    IsMarkedInStyle plainly (codes "id,a\n<<<<<<< ours\n1,y\n||||||| base\n1,x\n=======\n1,z\n>>>>>>> theirs\n2,y\n") answer
AnswersToMerge merged.Cells answer =
    IsTableInStyle ((codes "id" ∷ codes "a" ∷ codes "b" ∷ []) ∷ (codes "1" ∷ codes "z" ∷ codes "w" ∷ []) ∷ []) plainly (codes "id,a,b\n1,z,w\n") answer
AnswersToMerge merged.CellConflict answer = Stops answer
AnswersToMerge merged.MarkedCell answer =
    IsMarkedInStyle plainly (codes "id,a,b\n<<<<<<< ours\n1,z,w\n||||||| base\n1,x,w\n=======\n1,v,w\n>>>>>>> theirs\n") answer

-- the text of each join of two tables
abbrev pub joined_text : Kind → List ℕ
joined_text kind.Outer = codes "side,id,a,b\nleft,1,x,\nboth,2,y,z\nright,3,,w\n"
joined_text kind.Inner = codes "id,a,b\n2,y,z\n"
joined_text kind.Left = codes "id,a,b\n1,x,\n2,y,z\n"
joined_text kind.Right = codes "id,a,b\n2,y,z\n3,,w\n"
joined_text kind.Semi = codes "id,a\n2,y\n"
joined_text kind.Anti = codes "id,a\n1,x\n"
