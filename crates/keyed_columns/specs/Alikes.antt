-- How the cells of columns are compared.
use Rattle.std.specs.Prelude.{◌≡◌, false, Option, None}
use Rattle.keyed_columns.specs.declared.tolerances.Tolerances.{Tolerances}
use Rattle.keyed_numbers.specs.declared.alike.Alike.{Alike}
use Rattle.keyed_numbers.specs.declared.alike.DecimalMark.TheVariants.{Point}
use Rattle.keyed_numbers.specs.declared.decimal.Decimal.{Decimal}
use Rattle.keyed_requests.specs.declared.sameness.Sameness.{Sameness}

-- as is said of all of them, and with a tolerance
abbrev pub alike_with : Sameness → Option Decimal → Alike
alike_with sameness tolerance = record {
  tolerance = tolerance;
  mark = sameness.mark;
  trims = sameness.trims;
  folds_case = sameness.folds_case;
}

-- byte by byte
abbrev pub as_they_stand : Alike
as_they_stand = record {
  tolerance = None;
  mark = Point;
  trims = false;
  folds_case = false;
}

-- the cells of each column are compared so
pub record ComparesAsTheyStand (tolerances : Tolerances) : Type 0 where
  pub tolerance : tolerances.sameness.tolerance ≡ None
  pub mark : tolerances.sameness.mark ≡ Point
  pub trims : tolerances.sameness.trims ≡ false
  pub folds_case : tolerances.sameness.folds_case ≡ false
