use Rattle.std.proofs.Common.{◌++◌, encode_utf8_all, string_bytes, refl, sym, ap, ◌∙◌}
use Rattle.std.proofs.lemmas.Fmt.{contents_after_writes}
use Rattle.keyed_faults.proofs.shown.shown_cell.Goals as goal

pub returns-in-Ok : goal.returns-in-Ok
returns-in-Ok c =
    let h = c.in-Ok.ensures c.new-f.ensures.plain refl in
    let text = encode_utf8_all h.0 in
    let began = ap string_bytes c.new-f.ensures.writer ∙ c.new.ensures.bytes in (
      h.0,
      sym (ap string_bytes c.into_inner.ensures ∙ contents_after_writes _ string_bytes (λ w l v t. t) _ text _ h.1.wrote ∙ ap (λ l. l ++ text) began),
      h.2,
    )
