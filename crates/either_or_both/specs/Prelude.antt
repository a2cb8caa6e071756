-- The words that clauses over these libraries cite, passed on from one place, the standard library's among them. Declares nothing.
-- Operators, such as ◌≡◌, are not passed on: the gate takes them from the standard library's Prelude alone, so that a reader knows them.
-- The words of `Either` that have the same names as those of `EitherOrBoth` stay in `Either`, as do those of its text and order.
pub use Rattle.std.specs.Prelude.{ℕ, zero, suc, pred, min, max, Bool, true, false, cond, not}
pub use Rattle.std.specs.Prelude.{T, eqb, ltb, leb, List, [], map, reverse, length, get_or, take, drop, set, replicate, ℤ}
pub use Rattle.std.specs.Prelude.{pos, negsuc, neg_ℤ, nat_abs, is_some, is_none, SomeIff, OkIff, IsSomeAnd, IfSome}
pub use Rattle.std.specs.Prelude.{IfNone, is_ok, is_err, IsOkAnd, IsErrAnd, IfOk, IfErr, OnSome, OnOk, OnErr, IsOkUnless, IsSome}
pub use Rattle.std.specs.Prelude.{IsNone, IsOk, IsErr, IsTrue, IsFalse, nat_eq, nat_lt, nat_le, slice_get, slice_index, slice_index_or}
pub use Rattle.std.specs.Prelude.{slice_set, slice_range, EachIndex, SomeIndex, bit_and, bit_or, bit_xor, count_ones}
pub use Rattle.std.specs.Prelude.{unsigned_abs, int_lt, int_le}
pub use Rattle.std.specs.Prelude.{int_div, int_rem, FitsSigned, is_nan, to_bits, from_bits, MatchOption, MatchResult, ⊤, Some}
pub use Rattle.std.specs.Prelude.{None, Ok, Err, Option}
pub use Rattle.std.specs.Prelude.{Result, Vec, String, Box, vec_items, vec_len, string_bytes, string_len, string_eq, string_cmp}
pub use Rattle.std.specs.Prelude.{box_value, codes}
pub use Rattle.std.specs.Prelude.{IsUtf8, chars, encode_utf8, decimal, Decides, MatchBool, fold, All, Contains, sum_by, sum}
pub use Rattle.std.specs.Prelude.{count_by, filter, swap}
pub use Rattle.std.specs.Prelude.{HoldsAt, insert, remove, swap_remove, Any, AllPairs, position, take_while, find, zip, scan}
pub use Rattle.std.specs.Prelude.{flat_map, filter_map}
pub use Rattle.std.specs.Prelude.{unwrap_or, ok_or, option_map, option_to_list, option_and_then, option_copied, IsPermutation}
pub use Rattle.std.specs.Prelude.{IsSorted, IsSortedBy}
pub use Rattle.std.specs.Prelude.{IsSortedByKey, IsErrOf, refl, alloc_error}
pub use Rattle.std.specs.Option.{ForSome, ForNone, option_or, option_zip, option_flatten, option_eq, option_cmp, UnwrapsOrElse}
pub use Rattle.std.specs.Result.{result_ok, result_err, ForOk, ForErr}
pub use Rattle.std.specs.List.{IsDistinct, AllAdjacentBelow, AllZip}
pub use Rattle.std.specs.List.Sorted.{IsStrictlySortedBy}
pub use Rattle.std.specs.Map.{keys_of, lookup}
pub use Rattle.std.specs.Set.{is_member, distinct_count}
pub use Rattle.std.specs.BTreeMap.{is_at}
pub use Rattle.std.specs.Ordering.{nat_cmp, int_cmp, bool_cmp, int_eq, is_eq, eq_by_cmp}
pub use Rattle.std.specs.Cmp.Lexicographic.{slice_cmp}
pub use Rattle.std.specs.declared.cmp.Ordering.TheVariants.{Less, Equal, Greater}
pub use Rattle.eob_both.specs.declared.either_or_both.EitherOrBoth.{EitherOrBoth}
pub use Rattle.eob_both.specs.declared.either_or_both.EitherOrBoth.TheVariants.{Left, Both, Right}
pub use Rattle.eob_both.specs.Places.{left_place, right_place, from_places, item_left, item_right, map_places, MapsPlace, ForBoth}
pub use Rattle.eob_both.specs.Places.{MatchPlaces}
pub use Rattle.eob_both.specs.Sides.{lefts, rights, pair_of, collected}
pub use Rattle.eob_both.specs.Values.{values_of}
pub use Rattle.eob_both.specs.Aligned.{aligned, AlignedByIndex}
pub use Rattle.eob_both.specs.Collector.{contents_at, Collects}
pub use Rattle.eob_both.specs.Contents.{last_value, IsLastValue, first_items, first_list, StandByFirstPlaces, IsLastMap}
pub use Rattle.eob_both.specs.Contents.{AreMembers, IsFirstList}
pub use Rattle.eob_both.specs.Contents.{AreFirstItems, IsRisingMap, AreRisingMembers, IsSameMap, AreSameMembers, IsSameRisingMap}
pub use Rattle.eob_both.specs.Contents.{AreSameRisingMembers}
pub use Rattle.eob_both.specs.Results.{err_place, ok_place}
pub use Rattle.eob_both.specs.Order.{rank, places_cmp, places_eq}
pub use Rattle.eob_both.specs.Text.{printed, styled}
pub use Rattle.eob_both.specs.Ends.{StillToCome, CountedToCome}
pub use Rattle.eob_both.specs.Runs.{SwapsRuns, ChainsRuns}
pub use Rattle.either_or_both.specs.declared.either.Either.{Either}
pub use Rattle.either_or_both.specs.Either.{held, either_of}
pub use Rattle.either_or_both.specs.EitherStreams.{of_held, HoldsOfHeld, HeldBecomes}
pub use Rattle.eob_lists.specs.Normal.{regrouped, IsOneSided, IsNormal}
pub use Rattle.eob_lists.specs.Difference.{agrees, IsFirstDifference, FindsFirstDifference}
pub use Rattle.eob_lists.specs.Answers.{answers, left_over, from_front, from_back}
pub use Rattle.eob_lists.specs.Join.{Rising, value_under, SameKeys, IsJoin}
pub use Rattle.eob_lists.specs.JoinLaws.{flipped, deref_joined, overlaid, AllBoth, shared_keys, HasJoinCounts}
