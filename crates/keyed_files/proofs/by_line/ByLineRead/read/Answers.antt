use Rattle.std.proofs.Common.{◌≡◌, ◌∙◌, ◌<◌, ap, arith, length, rules, take}
use Rattle.std.specs.Prelude.{None}
use Rattle.keyed_files.specs.Lines.{ahead_of}
use Rattle.keyed_files.proofs.LineLemmas.{line-given}
use Rattle.keyed_files.proofs.by_line.ByLineRead.read.Goals.{then-is_comment, else-is_comment}
use Rattle.keyed_files.proofs.by_line.ByLineRead.read.Goals as goal

pub returns-clause-bytes : goal.returns-clause-bytes
returns-clause-bytes g c =
    let n = c.give-count.result in
    let copied : take n c.give-count.new.buf ≡ take n (ahead_of c.fill.new.self) = c.give-count.ensures.copied ∙ ap (take n) c.rest-rest.ensures in
    let given : c.args.self.now.lines.comment ≡ None → take n c.if-is_comment.buf ≡ take n (ahead_of c.fill.new.self) = λ none. elim c.if-is_comment.branch [
      | then-is_comment w ↦ absurd (cc (rw (c.give-count.ensures.comment, none) at (c.is_comment.ensures w.if-is_comment.true)))
      | else-is_comment w ↦ rw w.buf-is copied
    ] in
    let rest : 0 < length c.rest-rest.result.now = search rules in
    let some : 0 < length c.if-is_comment.buf → 0 < n = λ room. c.give-count.ensures.some rest (omega (arith, room, c.if-is_comment.auto.buf)) in (
      line-given g.R.Read.remaining c.args.self.now (record { file = c.pass.new.self; skipped = c.args.self.now.skipped; lines = c.give-count.new.lines }) c.fill.new.self n c.if-is_comment.buf c.give-count.ensures.comment c.fill.ensures.kept c.pass.ensures.rest c.pass.ensures.inner c.pass.ensures.is_ended given,
      λ none room. absurd (omega (arith, none, some room)),
    )
