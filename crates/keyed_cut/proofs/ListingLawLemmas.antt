-- The text of a listing reads back.
use Rattle.std.proofs.Common.{◌≡◌, ◌+◌, ℕ, All, false, true, List, [], ◌∷◌, None, length, refl, arith, lit<}
use Rattle.std.proofs.lemmas.List.Elements.{All-cons}
use Rattle.csv.specs.Reading.{strip_bom}
use Rattle.keyed_text.specs.Laws.{HasCells, HasNoMark}
use Rattle.keyed_text.specs.Texts.{AreRows, styled_text}
use Rattle.keyed_text.specs.declared.style.CellQuotes.TheVariants.{WhereNeeded}
use Rattle.keyed_text.specs.declared.style.LineEnd.TheVariants.{Lf}
use Rattle.keyed_text.specs.declared.style.Style.{Style}
use Rattle.keyed_text.proofs.TextLemmas.{sheet-back}
use Rattle.keyed_cut.specs.declared.sinks.Counts.{Counts}
use Rattle.keyed_cut.specs.Listing.{ListingReadsLaw, listing_header, listing_rows, listing_text, part_row, part_rows}

-- each row has a cell
rows-full : (count : ℕ) (tables : List Counts) (first : ℕ) (keys : List (List (List ℕ))) → All HasCells (part_rows count tables first keys)
rows-full count tables first [] = λ k x l e. omega arith
rows-full count tables first (key ∷ keys) =
    All-cons HasCells (part_row count tables first key) (part_rows count tables (first + 1) keys) (λ e. cc e) (rows-full count tables (first + 1) keys)

header-plain : (stems key : List (List ℕ)) → HasNoMark (listing_header stems key)
unfolding strip_bom
header-plain stems key = refl

abbrev plain : Style
plain = record { quotes = WhereNeeded; line_end = Lf; has_mark = false; has_end = true }

pub listing-reads : ListingReadsLaw
listing-reads stems key tables bounds =
    let rows = part_rows (length key) tables 0 ([] ∷ bounds) in
    let full = All-cons HasCells (listing_header stems key) rows (λ e. cc e) (rows-full (length key) tables 0 ([] ∷ bounds)) in
    (sheet-back plain 44 None (refl, refl, refl, lit< tt) tt (listing_header stems key) rows (header-plain stems key) full).0
