use Rattle.std.proofs.Common.{◌≡◌, ◌++◌, ◌∷◌, take}
use Rattle.std.specs.List.{flat_map}
use Rattle.line_words.specs.Growth.{Extends}
use Rattle.walk_lines.specs.Texts.{row_text}
use Rattle.walk_lines.specs.Answers.{shown_row}
use Rattle.walk_lines.proofs.answer.joins.append_join.Given as goal

-- after the first, each so far stands after a space
abbrev pub invariant-loop-row : goal.invariant-loop-row
invariant-loop-row g l = record {
  grown : Extends l.initial.output.items l.output.items;
  text : l.output.items ≡ l.initial.output.items ++ flat_map (λ row. 32 ∷ row_text (shown_row row)) (take l.row-index l.others);
}
