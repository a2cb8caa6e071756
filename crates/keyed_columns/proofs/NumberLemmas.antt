-- The names of columns that have no header: numbers, no two of which have the same text.
use Rattle.std.proofs.Common.{◌≡◌, ◌∙◌, ◌+◌, ◌-◌, ◌<◌, ◌≤◌, ◌^◌, ℕ, Bool, true, false, List, arith, decimal, length, map, nat_eq, refl, sym, ap, zero, suc}
use Rattle.std.specs.Cmp.Lexicographic.{bytes_decides, pointwise}
use Rattle.std.specs.List.{list_any, range_with_len}
use Rattle.std.proofs.lemmas.Fmt.{decimal_injective}
use Rattle.std.proofs.lemmas.List.FromFn.{map-range_with_len_more}
use Rattle.indexmap.specs.IndexSet.{insert_key}
use Rattle.keyed_columns.specs.Headers.{HeaderOf, cells_before, numbered_names}
use Rattle.keyed_columns.specs.declared.content.Content.{Content}

unless : (P : Type 0) (b : Bool) → (b ≡ true → P) → (P → ⊥) → b ≡ false
unless P true h never = absurd (never (h refl))
unless P false h never = refl

-- a number is the text of none below it
apart : (m n : ℕ) → n < m → m < 2 ^ 64 → pointwise nat_eq (decimal m) (decimal n) ≡ false
apart m n less small =
    unless (m ≡ n) (pointwise nat_eq (decimal m) (decimal n))
    (λ e. decimal_injective m n small (omega (arith, less, small)) ((bytes_decides (decimal m) (decimal n)).0 e)) (λ e. omega (arith, e, less))

number-is-new : (m a n : ℕ) → a + n ≤ m → m < 2 ^ 64 → list_any (pointwise nat_eq (decimal m)) (map decimal (range_with_len a n)) ≡ false
number-is-new m a zero le small = refl
number-is-new m a (suc n) le small = rw (apart m a (omega (arith, le)) small) (number-is-new m (a + 1) n (omega (arith, le)) small)

-- one more number is put after those before it
pub one-more-number : (n : ℕ) (old new : List (List ℕ)) (name : List ℕ) → n + 1 < 2 ^ 64 → name ≡ decimal (n + 1) → old ≡ numbered_names n
    → new ≡ insert_key (pointwise nat_eq) old name → new ≡ numbered_names (n + 1)
one-more-number n old new name small is before puts =
    let fresh : list_any (pointwise nat_eq name) old ≡ false = rw (is, before) (number-is-new (n + 1) 1 n (omega arith) small) in
    puts ∙ rw (fresh, is, before) (sym (map-range_with_len_more decimal 1 n (n + 1) (omega arith)))

-- the header of a file that has none
pub header-counted : (kind : Content) (has_header has_first : Bool) (fields names : List (List ℕ)) (before count : ℕ) → has_first ≡ true → has_header ≡ false
    → before ≡ cells_before kind → count ≡ length fields - before → names ≡ numbered_names count → HeaderOf has_header kind has_first fields names
header-counted kind has_header false fields names before count e h stand are said = absurd (cc e)
header-counted kind true true fields names before count e h stand are said = absurd (cc h)
header-counted kind false true fields names before count e h stand are said = said ∙ ap numbered_names (are ∙ ap (λ b. length fields - b) stand)
