use Rattle.std.proofs.Common.{◌≡◌, ◌++◌, take}
use Rattle.std.specs.List.{flat_map}
use Rattle.line_words.specs.Growth.{Extends}
use Rattle.line_words.proofs.parts.append_parts.Given as goal

-- what was there stays, and the parts so far stand after it
abbrev pub invariant-loop-part : goal.invariant-loop-part
invariant-loop-part g l = record {
  grown : Extends l.fn.output.items l.output.items;
  text : l.output.items ≡ l.fn.output.items ++ flat_map (λ part. part.now) (take l.part-index l.parts);
}
