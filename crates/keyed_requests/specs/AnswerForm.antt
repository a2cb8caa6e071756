-- What the form of an answer says of it.
use Rattle.std.specs.Prelude.{◌&&◌, Bool, true, false}
use Rattle.keyed_text.specs.declared.style.Style.{Style}
use Rattle.keyed_requests.specs.declared.request.Form.{Form}
use Rattle.keyed_requests.specs.declared.writing.Heading.{Heading}
use Rattle.keyed_requests.specs.declared.writing.Heading.TheVariants as heading

abbrev pub is_written : Heading → Bool
is_written heading.Written = true
is_written heading.Omitted = false

-- whether the names of the columns stand before the rows: where tables have them, and an answer is to have them too
abbrev pub writes_heading : Form → Bool
writes_heading form = form.has_header && is_written form.writing.heading

-- the same form with another style
abbrev pub in_style : Style → Form → Form
in_style style form = record form { writing = record form.writing { style = style } }
