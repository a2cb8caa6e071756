use Rattle.std.proofs.Common.{◌≡◌, ◌++◌, ◌∷◌, take}
use Rattle.std.specs.List.{flat_map}
use Rattle.line_words.specs.Growth.{Extends}
use Rattle.walk_lines.specs.Commands.{item_text}
use Rattle.walk_lines.specs.Answers.{shown}
use Rattle.walk_lines.proofs.answer.items.append_items.Given as goal

-- after the first, each so far stands after a space
abbrev pub invariant-loop-item : goal.invariant-loop-item
invariant-loop-item g l = record {
  grown : Extends l.initial.output.items l.output.items;
  text : l.output.items ≡ l.initial.output.items ++ flat_map (λ item. 32 ∷ item_text (shown item)) (take l.item-index l.others);
}
