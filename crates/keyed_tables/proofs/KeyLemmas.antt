-- The order of keys.
use Rattle.std.proofs.Common.{◌≡◌, ℕ, List}
use Rattle.std.specs.Cmp.{IsTotalOrder, tied_itself}
use Rattle.std.specs.Cmp.Lexicographic.{lists_total, nat_list_cmp_total, slice_cmp}
use Rattle.std.specs.Ordering.{nat_cmp}
use Rattle.std.specs.declared.cmp.Ordering.{Ordering}
use Rattle.std.specs.declared.cmp.Ordering.TheVariants.{Equal}

-- keys are compared cell by cell
abbrev pub key_cmp : List (List ℕ) → List (List ℕ) → Ordering
key_cmp = slice_cmp (slice_cmp nat_cmp)

pub keys_total : IsTotalOrder key_cmp
keys_total = lists_total nat_list_cmp_total

pub same_level : (k key : List (List ℕ)) → k ≡ key → key_cmp k key ≡ Equal
same_level k key e = rw e (tied_itself keys_total key)
