-- A collected pair taken apart.
use Rattle.std.proofs.Common.{◌≡◌, List, [], refl, ap, ◌∙◌}
use Rattle.std.specs.Option.{unwrap_or}
use Rattle.eob_both.specs.declared.either_or_both.EitherOrBoth.{EitherOrBoth}
use Rattle.eob_both.specs.declared.either_or_both.EitherOrBoth.TheVariants.{Left, Both, Right}
use Rattle.eob_both.specs.Collector.{contents_at}
use Rattle.eob_both.specs.Places.{left_place, map_places, right_place}
use Rattle.eob_both.specs.Sides.{pair_of}
use Rattle.eob_lists.proofs.NormalLemmas.{left_list, right_list, left_list-pair_of, right_list-pair_of}

module _ {C D A B : Type 0} (f : C → List A) (g : D → List B) where
  left_same : (v : EitherOrBoth C D) → contents_at f (left_place v) ≡ left_list (map_places f g v)
  left_same (Left l) = refl
  left_same (Both l r) = refl
  left_same (Right r) = refl

  right_same : (v : EitherOrBoth C D) → contents_at g (right_place v) ≡ right_list (map_places f g v)
  right_same (Left l) = refl
  right_same (Both l r) = refl
  right_same (Right r) = refl

  left_filled : (v : EitherOrBoth C D) (a : C) → f a ≡ [] → f (unwrap_or (left_place v) a) ≡ contents_at f (left_place v)
  left_filled (Left l) a e = refl
  left_filled (Both l r) a e = refl
  left_filled (Right r) a e = e

  right_filled : (v : EitherOrBoth C D) (b : D) → g b ≡ [] → g (unwrap_or (right_place v) b) ≡ contents_at g (right_place v)
  right_filled (Left l) b e = e
  right_filled (Both l r) b e = refl
  right_filled (Right r) b e = refl

  pub left_held : (v : EitherOrBoth C D) (p : List A) (q : List B) → map_places f g v ≡ pair_of p q → contents_at f (left_place v) ≡ p
  left_held v p q h = left_same v ∙ ap left_list h ∙ left_list-pair_of p q

  pub right_held : (v : EitherOrBoth C D) (p : List A) (q : List B) → map_places f g v ≡ pair_of p q → contents_at g (right_place v) ≡ q
  right_held v p q h = right_same v ∙ ap right_list h ∙ right_list-pair_of p q

  pub left_or : (v : EitherOrBoth C D) (p : List A) (q : List B) (a : C) → map_places f g v ≡ pair_of p q → f a ≡ [] → f (unwrap_or (left_place v) a) ≡ p
  left_or v p q a h e = left_filled v a e ∙ left_held v p q h

  pub right_or : (v : EitherOrBoth C D) (p : List A) (q : List B) (b : D) → map_places f g v ≡ pair_of p q → g b ≡ [] → g (unwrap_or (right_place v) b) ≡ q
  right_or v p q b h e = right_filled v b e ∙ right_held v p q h
