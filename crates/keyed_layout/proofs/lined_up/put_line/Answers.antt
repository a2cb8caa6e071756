use Rattle.std.proofs.Common.{◌∙◌, ◌++◌, ap, string_bytes}
use Rattle.keyed_layout.proofs.SpacedLemmas.{line-put}
use Rattle.keyed_layout.proofs.lined_up.put_line.Goals as goal

pub returns : goal.returns
unfolding lib.Utf8.encode
returns c =
    let first = string_bytes c.args.text.now in
    let begun = string_bytes c.push_str.new.self in
    let put = string_bytes c.put_cells.new.text in
    let ended = string_bytes c.push_str-2.new.self in
    line-put c.args.line.now first begun put ended (string_bytes c.push.new.self)
    (c.in_ok-push_str.ensures.bytes ∙ ap (λ l. first ++ l) c.begin.ensures)
    c.in_ok-put_cells.ensures
    (c.in_ok-push_str-2.ensures.bytes ∙ ap (λ l. put ++ l) c.end.ensures)
    c.in_ok-push.ensures.bytes
