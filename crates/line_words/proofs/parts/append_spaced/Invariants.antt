use Rattle.std.proofs.Common.{◌≡◌, ◌++◌, ◌∷◌, take}
use Rattle.std.specs.List.{flat_map}
use Rattle.line_words.specs.Growth.{Extends}
use Rattle.line_words.proofs.parts.append_spaced.Given as goal

-- after the first word, each word so far stands after a space
abbrev pub invariant-loop-word : goal.invariant-loop-word
invariant-loop-word g l = record {
  grown : Extends l.initial.output.items l.output.items;
  text : l.output.items ≡ l.initial.output.items ++ flat_map (λ word. 32 ∷ word.now) (take l.word-index l.others);
}
