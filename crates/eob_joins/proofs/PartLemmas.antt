-- Joins of tables in parts, by induction from the join of tables that are cut at a key.
use Rattle.std.proofs.Common.{◌≡◌, ◌∙◌, List, [], ◌∷◌, ◌++◌, Option, refl, sym, ap₂}
use Rattle.std.specs.Prelude.{⊤}
use Rattle.std.specs.Cmp.{IsTotalOrder}
use Rattle.std.specs.Option.{option_map}
use Rattle.std.specs.declared.cmp.Ordering.{Ordering}
use Rattle.std.proofs.lemmas.List.Elements.{All-nil, filter_map-append}
use Rattle.eob_both.specs.declared.either_or_both.EitherOrBoth.{EitherOrBoth}
use Rattle.eob_lists.specs.Join.{IsJoin, Rising}
use Rattle.eob_joins.specs.Tables.{IsKeptOfJoin, kept}
use Rattle.eob_lists.proofs.MergeLemmas.{rising}
use Rattle.eob_joins.proofs.JoinLawLemmas.{cut_join}
use Rattle.eob_joins.specs.Parts.{AreCut, CutJoinsLaw, CutKeptLaw, EachPart, in_turn}

module _ {K : Type 0} (cmp : K → K → Ordering) (o : IsTotalOrder cmp) where
  none_joined : {A B : Type 0} → IsJoin cmp {A = A} {B = B} [] [] []
  none_joined = record {
    rises = rising cmp (λ k. ⊤) [] tt;
    values = λ k. refl;
    keys = All-nil _;
  }

  pub cut_joins : (A B : Type 0) → CutJoinsLaw cmp A B
  cut_joins A B [] [] [] c e = none_joined
  cut_joins A B [] [] (zs ∷ zss) c e = absurd e
  cut_joins A B [] (q ∷ qs) zss c e = absurd e
  cut_joins A B (p ∷ ps) [] zss c e = absurd e
  cut_joins A B (p ∷ ps) (q ∷ qs) [] c e = absurd e
  cut_joins A B (p ∷ ps) (q ∷ qs) (zs ∷ zss) c e =
      cut_join cmp o A B p (in_turn ps) q (in_turn qs) zs (in_turn zss) c.0 e.0 (cut_joins A B ps qs zss c.1 e.1)

  kept_append : {V W : Type 0} (keep : V → Option W) (xs ys : List (K × V)) → kept keep (xs ++ ys) ≡ kept keep xs ++ kept keep ys
  kept_append keep xs ys = filter_map-append (λ z. option_map (λ w. (z.0, w)) (keep z.1)) xs ys

  pub cut_kept : (A B W : Type 0) → CutKeptLaw cmp A B W
  cut_kept A B W keep [] [] [] c e = ([], none_joined, refl)
  cut_kept A B W keep [] [] (rs ∷ rss) c e = absurd e
  cut_kept A B W keep [] (q ∷ qs) rss c e = absurd e
  cut_kept A B W keep (p ∷ ps) [] rss c e = absurd e
  cut_kept A B W keep (p ∷ ps) (q ∷ qs) [] c e = absurd e
  cut_kept A B W keep (p ∷ ps) (q ∷ qs) (rs ∷ rss) c e =
      let here = e.0 in
      let rest = cut_kept A B W keep ps qs rss c.1 e.1 in (
        here.0 ++ rest.0,
        cut_join cmp o A B p (in_turn ps) q (in_turn qs) here.0 rest.0 c.0 here.1 rest.1,
        ap₂ (λ xs ys. xs ++ ys) here.2 rest.2 ∙ sym (kept_append keep here.0 rest.0),
      )
