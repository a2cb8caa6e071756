-- The texts that lines are of.
use Rattle.std.specs.Prelude.{ℕ, List}
use Rattle.std.specs.Borrow.{Bor}
use Rattle.std.specs.List.{flat_map}
use Rattle.keyed_lines.specs.Parts.{new_parts, old_parts}
use Rattle.keyed_lines.specs.declared.compared.Part.{Part}

-- lines, one after the other
abbrev pub joined : List (Bor (List ℕ)) → List ℕ
joined lines = flat_map (λ line. line.now) lines

-- the old text: the lines that stay and those that go; and the new one: those that stay and those that come
abbrev pub old_text : List (Part (Bor (List ℕ))) → List ℕ
old_text lines = joined (old_parts lines)

abbrev pub new_text : List (Part (Bor (List ℕ))) → List ℕ
new_text lines = joined (new_parts lines)
