-- Changes that are turned about take back what the changes made.
use Rattle.std.proofs.Common.{◌≡◌, ◌∙◌, Option, Some, None, refl, sym, ap, subst}
use Rattle.std.specs.Prelude.{IfSome, option_map}
use Rattle.std.specs.Option.{option_and_then}
use Rattle.either_or_both.specs.Prelude.{left_place, right_place}
use Rattle.eob_both.specs.Places.{from_places}
use Rattle.eob_both.specs.declared.either_or_both.EitherOrBoth.{EitherOrBoth}
use Rattle.eob_both.specs.declared.either_or_both.EitherOrBoth.TheVariants.{Left, Both, Right}
use Rattle.eob_lists.specs.Join.{value_under}
use Rattle.eob_lists.specs.JoinLaws.{flipped}
use Rattle.eob_lists.proofs.JoinLemmas.{value_map}
use Rattle.eob_joins.specs.Changes.{applied}
use Rattle.eob_joins.proofs.TableLemmas.{kept_join, retabled, same_table}
use Rattle.keyed_jobs.specs.Answers.{key_cmp}
use Rattle.keyed_jobs.specs.Turned.{turned}
use Rattle.keyed_jobs.proofs.AnswerLemmas.{key_exact, key_total}
use Rattle.keyed_laws.specs.Laws.{TakenBackFitsLaw, TakenBackLaw}

-- what a change makes, and what it is from, the other way about
made_by : {V : Type 0} (m : Option V) (c : EitherOrBoth V V) → option_and_then applied (from_places m (Some c)) ≡ right_place c
made_by None c = refl
made_by (Some v) c = refl

kept_as : {V : Type 0} (m : Option V) (change : Option (EitherOrBoth V V)) → change ≡ None → option_and_then applied (from_places m change) ≡ m
kept_as m (Some c) none = absurd (cc none)
kept_as None None none = refl
kept_as (Some v) None none = refl

from_flipped : {V : Type 0} (c : EitherOrBoth V V) → left_place (flipped c) ≡ right_place c
from_flipped (Left l) = refl
from_flipped (Both l r) = refl
from_flipped (Right r) = refl

to_flipped : {V : Type 0} (c : EitherOrBoth V V) → right_place (flipped c) ≡ left_place c
to_flipped (Left l) = refl
to_flipped (Both l r) = refl
to_flipped (Right r) = refl

-- under a key that has this before, and this change
module _ {V : Type 0} (old : Option V) where
  fits_at : (change : Option (EitherOrBoth V V)) (made : Option V) → made ≡ option_and_then applied (from_places old change)
      → IfSome (option_map flipped change) (λ c. left_place c ≡ made)
  fits_at None made is = tt
  fits_at (Some c) made is = from_flipped c ∙ sym (made_by old c) ∙ sym is

  back_at : (change : Option (EitherOrBoth V V)) (made : Option V) → IfSome change (λ c. left_place c ≡ old) → made ≡ option_and_then applied (from_places old change)
      → option_and_then applied (from_places made (option_map flipped change)) ≡ old
  back_at None made fit is = kept_as made None refl ∙ is ∙ kept_as old None refl
  back_at (Some c) made fit is = made_by made (flipped c) ∙ to_flipped c ∙ fit

pub taken-back-fits : TakenBackFitsLaw
taken-back-fits old rows changes a k =
    let made = kept_join key_cmp key_total _ (EitherOrBoth _ _) _ rows applied old changes a in
    subst (λ m. IfSome m (λ c. left_place c ≡ value_under key_cmp rows k)) (sym (value_map key_cmp flipped k changes))
    (fits_at (value_under key_cmp old k) (value_under key_cmp changes k) (value_under key_cmp rows k) (made.values k))

pub taken-back : TakenBackLaw
taken-back old rows back changes rises fit a b =
    let made = kept_join key_cmp key_total _ (EitherOrBoth _ _) _ rows applied old changes a in
    let taken = kept_join key_cmp key_total _ (EitherOrBoth _ _) _ back applied rows (turned changes) b in
    same_table key_cmp key_total _ key_exact (value_under key_cmp old) back old
    (retabled key_cmp back _ (value_under key_cmp old)
    (λ k. ap (λ m. option_and_then applied (from_places (value_under key_cmp rows k) m)) (value_map key_cmp flipped k changes)
    ∙ back_at (value_under key_cmp old k) (value_under key_cmp changes k) (value_under key_cmp rows k) (fit k) (made.values k)) taken)
    (record { rises = rises; values = λ k. refl })
