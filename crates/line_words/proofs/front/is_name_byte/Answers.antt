-- The table is held against the definition at each of the 256 bytes, by computing.
use Rattle.std.proofs.Common.{◌≡◌, ℕ, ◌==◌, ◌<◌, ◌≤◌, Bool, true, false, ◌&&◌, map, cond, not, get_or, refl, sym, ap, ◌∙◌, true≢false, arith}
use Rattle.std.specs.Prelude.{IsTrue, ◌↔◌, ◌||◌}
use Rattle.std.specs.Bool.{Decides}
use Rattle.std.specs.List.{range_with_len}
use Rattle.std.proofs.Math.Dec.{leb}
use Rattle.std.proofs.lemmas.Bool.{le-leb, leb-true}
use Rattle.std.proofs.lemmas.Bool.Decides.{Decides-and, Decides-or, eqb_tells}
use Rattle.std.proofs.lemmas.List.FromFn.{get_or-map-range_with_len}
use Rattle.line_words.specs.declared.front.TheConstants.{NAME_BYTES}
use Rattle.line_words.specs.Names.{IsNameByte}
use Rattle.line_words.proofs.front.is_name_byte.Goals as goal

abbrev in_name : ℕ → Bool
in_name b = (leb 48 b && leb b 57) || (leb 97 b && leb b 122)

abbrev mark : ℕ → ℕ
mark b = cond (in_name b) b 46

-- the table has the mark of each byte
table_is : NAME_BYTES ≡ map mark (range_with_len 0 256)
table_is = refl

read : (b : ℕ) → b < 256 → get_or NAME_BYTES b 0 ≡ mark b
read b h = ap (λ t. get_or t b 0) table_is ∙ get_or-map-range_with_len mark 0 256 b b 0 h (omega arith)

-- a byte has another mark than the dot exactly where it is one of a name
marked : (b : ℕ) → IsTrue (not (mark b == 46)) ↔ IsNameByte b
marked b = by (in_name b) refl
  where
    between : (low high : ℕ) → Decides (leb low b && leb b high) ((low ≤ b) × (b ≤ high))
    between low high = Decides-and (leb low b) (leb b high) (leb-true low b, le-leb low b) (leb-true b high, le-leb b high)

    tells : Decides (in_name b) (IsNameByte b)
    tells = Decides-or (leb 48 b && leb b 57) (leb 97 b && leb b 122) (between 48 57) (between 97 122)

    by : (t : Bool) → in_name b ≡ t → IsTrue (not (cond t b 46 == 46)) ↔ IsNameByte b
    by true e =
        let is = tells.0 e in
        (λ _. is, λ _. grind (arith, eqb_tells, is))
    by false e = (λ h. absurd (true≢false (sym h)), λ is. absurd (true≢false (sym (tells.1 is) ∙ e)))

pub returns : goal.returns
returns c = rw (c.from.ensures, read c.args.byte (omega arith)) (marked c.args.byte)
