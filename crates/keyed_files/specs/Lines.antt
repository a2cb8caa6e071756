-- What readers have left of a file, on its way to the reader of CSV.
use Rattle.std.specs.Prelude.{◌≡◌, ℕ, [], false, option_map, List, Option, Some, None, is_none, slice_range, if◌then◌else◌}
use Rattle.std.specs.Io.KnownBytes.{prepend_known}
use Rattle.keyed_requests.specs.declared.request.Quotes.{Quotes}
use Rattle.keyed_requests.specs.declared.request.Quotes.TheVariants as quotes
use Rattle.keyed_requests.specs.declared.request.Reading.{Reading}
use Rattle.keyed_files.specs.declared.ahead.Ahead.{Ahead}
use Rattle.keyed_files.specs.declared.by_line.ByLine.{ByLine}
use Rattle.keyed_files.specs.declared.checked.Checked.{Checked}
use Rattle.keyed_files.specs.declared.checked.Checked.TheVariants as way

-- the bytes that were read ahead and are not taken yet
abbrev pub ahead_of : {R : Type 0} → Ahead R → List ℕ
ahead_of file = slice_range file.bytes.bytes.items file.bytes.at file.bytes.filled

-- those, and what the reader has left after them, where that is known
abbrev pub left_of : {R : Type 0} → (R → Option (List ℕ)) → Ahead R → Option (List ℕ)
left_of remaining file = if file.is_ended then Some (ahead_of file) else prepend_known (ahead_of file) (remaining file.inner)

-- what a reader of lines has left; where lines are passed over, no clause says which
abbrev pub lines_left : {R : Type 0} → (R → Option (List ℕ)) → ByLine R → Option (List ℕ)
lines_left remaining lines = if is_none lines.lines.comment then left_of remaining lines.file else None

-- the same of a reader that looks at quotes; of one that puts them in order no clause says what it gives
abbrev pub checked_left : {R : Type 0} → (R → Option (List ℕ)) → Checked R → Option (List ℕ)
checked_left remaining (way.Strict strict) = lines_left remaining strict.reader
checked_left remaining (way.Lenient lenient) = None

-- what is known, where quotes have to be in order
abbrev pub where_strict : Quotes → Option (List ℕ) → Option (List ℕ)
where_strict quotes.Strict known = known
where_strict quotes.Lenient known = None

-- a reader of lines of which nothing is read
pub record Begins {R : Type 0} (inner : R) (reading : Reading) (lines : ByLine R) : Type 0 where
  pub under : lines.file.inner ≡ inner
  pub goes_on : lines.file.is_ended ≡ false
  pub none : ahead_of lines.file ≡ []
  pub skipped : lines.skipped ≡ reading.skipped
  pub comment : lines.lines.comment ≡ option_map (λ comment. comment.byte) reading.comment
