-- The bytes that the form of a table sets.
use Rattle.std.specs.Prelude.{ℕ, Option, option_map}
use Rattle.keyed_requests.specs.declared.request.Form.{Form}

-- the byte between cells, and the one that begins lines which are passed over, if there is one
abbrev pub delimiter_of : Form → ℕ
delimiter_of form = form.delimiter.byte

abbrev pub comment_of : Form → Option ℕ
comment_of form = option_map (λ comment. comment.byte) form.reading.comment
