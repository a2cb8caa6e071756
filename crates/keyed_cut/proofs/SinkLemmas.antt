-- As many cells of a row as there are columns.
use Rattle.std.proofs.Common.{◌≡◌, ◌∙◌, ℕ, zero, suc, ◌+◌, List, [], ◌∷◌, ◌++◌, add-one, length, refl, sym, ap}
use Rattle.std.specs.Prelude.{unwrap_or}
use Rattle.csv.specs.Records.{field_at}
use Rattle.keyed_cut.specs.Partitioned.{fitted}

-- a row that has as many cells is put as it is
fitted-all : (cells : List (List ℕ)) → fitted (length cells) cells ≡ cells
fitted-all [] = refl
fitted-all (cell ∷ cells) = ap (λ rest. cell ∷ rest) (fitted-all cells)

-- one more cell
fitted-next : (n : ℕ) (cells : List (List ℕ)) → fitted (suc n) cells ≡ fitted n cells ++ (unwrap_or (field_at cells n) [] ∷ [])
unfolding field_at
fitted-next zero [] = refl
fitted-next zero (cell ∷ cells) = refl
fitted-next (suc n) [] = ap (λ rest. [] ∷ rest) (fitted-next n [])
fitted-next (suc n) (cell ∷ cells) = ap (λ rest. cell ∷ rest) (fitted-next n cells)

pub fitted-more : (n : ℕ) (cells : List (List ℕ)) → fitted (n + 1) cells ≡ fitted n cells ++ (unwrap_or (field_at cells n) [] ∷ [])
fitted-more n cells = rw add-one (fitted-next n cells)

-- the same of a row that is known to have so many
pub fitted-by : (n : ℕ) (cells : List (List ℕ)) → length cells ≡ n → fitted n cells ≡ cells
fitted-by n cells is = ap (λ count. fitted count cells) (sym is) ∙ fitted-all cells
