use Rattle.std.proofs.Common.{◌≡◌, ◌++◌, ◌-◌, ℕ, List, [], ◌∷◌, None, ap, ap₂, arith, length, subst₂}
use Rattle.std.proofs.lemmas.Fmt.{decimal_digit}
use Rattle.std.specs.Prelude.{codes, replicate}
use Rattle.csv.specs.Writing.{escaped, fields_text, is_blank}
use Rattle.keyed_text.specs.Texts.{AreRows, rows_text}
use Rattle.keyed_cut.specs.Listing.{listing_rows, part_number}
use Rattle.command_callers.proofs.texts.listing_known.Goals as goal

-- the rows of a list of two parts, by what their numbers are
abbrev rows_by : List ℕ → List ℕ → List (List (List ℕ))
rows_by first next = (codes "part" ∷ codes "from.id" ∷ []) ∷ (first ∷ [] ∷ []) ∷ (next ∷ codes "b" ∷ []) ∷ []

-- a digit with as many noughts before it as make three
abbrev in_three : List ℕ → List ℕ
in_three digits = replicate (3 - length digits) 48 ++ digits

known : listing_rows [] (codes "id" ∷ []) [] ((codes "b" ∷ []) ∷ []) ≡ rows_by (codes "000") (codes "001")
known = ap₂ (λ first next. rows_by (in_three first) (in_three next)) (decimal_digit 0 (omega arith)) (decimal_digit 1 (omega arith))

pub returns : goal.returns
unfolding escaped fields_text is_blank
returns c = subst₂ (AreRows 44 None) (ap (rows_text 44 None) known) known (c.law_listing_reads.ensures [] (codes "id" ∷ []) [] ((codes "b" ∷ []) ∷ []))
