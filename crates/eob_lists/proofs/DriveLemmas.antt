-- One turn of a drive.
use Rattle.std.proofs.Common.{◌≡◌, ℕ, ◌+◌, ◌-◌, ◌<◌, min, List, [], ◌∷◌, ◌++◌, map, length, drop, get_or, Option, Some, None, sym, ap, ◌∙◌, append_assoc, arith}
use Rattle.std.proofs.lemmas.List.{map-append, length-append, drop_more}
use Rattle.std.specs.Option.{option_map}
use Rattle.std.specs.Iterator.{Count}
use Rattle.eob_both.specs.Ends.{Ends, ToCome}
use Rattle.eob_both.proofs.EndsLemmas.{to_come_front, to_come_back}
use Rattle.eob_lists.specs.declared.drive.End.{End}
use Rattle.eob_lists.specs.declared.drive.End.TheVariants.{Front, Back}
use Rattle.eob_lists.specs.Answers.{answers, MatchEnd}
use Rattle.eob_lists.proofs.AnswersLemmas.{answers-front, answers-back, answers-none}

module _ {S A : Type 0} (C : Count → ℕ → Type 0) (it : Ends S A) (view : A → A) where
  -- a call of an end: the list that is left answers the other calls
  abbrev pub Turn : List A → End → List End → Option A → S → Type 0
  Turn xs e more r t = (ys : List A) × ToCome C it view ys t × (answers xs (e ∷ more) ≡ option_map view r ∷ answers ys more) × (length ys ≡ length xs - 1)

  turn : (xs : List A) (s : S) (e : End) (more : List End) (r : Option A) (t : S) → ToCome C it view xs s → MatchEnd e (it.next_gives s r t) (it.next_back_gives s r t) → Turn xs e more r t
  turn xs s Front more None t h k =
      let one = to_come_front None t h k in
      ([], one.1, ap (λ l. answers l (Front ∷ more)) one.0 ∙ answers-none Front more, omega (arith, ap length one.0))
  turn xs s Front more (Some x) t h k =
      let one = to_come_front (Some x) t h k in
      (one.0, one.2, ap (λ l. answers l (Front ∷ more)) one.1 ∙ answers-front (view x) one.0 more, omega (arith, ap length one.1))
  turn xs s Back more None t h k =
      let one = to_come_back None t h k in
      ([], one.1, ap (λ l. answers l (Back ∷ more)) one.0 ∙ answers-none Back more, omega (arith, ap length one.0))
  turn xs s Back more (Some x) t h k =
      let one = to_come_back (Some x) t h k in
      (one.0, one.2, ap (λ l. answers l (Back ∷ more)) one.1 ∙ answers-back one.0 (view x) more, omega (arith, ap length one.1, length-append one.0 (view x ∷ [])))

  -- what a drive keeps: xs is what the walk began with, ys what it has left
  abbrev pub Kept : List A → List End → S → List (Option A) → ℕ → Type 0
  Kept xs calls s given i = (ys : List A) × ToCome C it view ys s × (map (option_map view) given ++ answers ys (drop i calls) ≡ answers xs calls) × (length ys ≡ length xs - min (length xs) i)

  pub kept : (xs : List A) (calls : List End) (s : S) (given : List (Option A)) (i : ℕ) (r : Option A) (t : S) (later : List (Option A))
      → i < length calls → MatchEnd (get_or calls i Front) (it.next_gives s r t) (it.next_back_gives s r t) → later ≡ given ++ r ∷ [] → Kept xs calls s given i → Kept xs calls t later (i + 1)
  kept xs calls s given i r t later lt step e k =
      let one = turn k.0 s (get_or calls i Front) (drop (i + 1) calls) r t k.1 step in (
        one.0,
        one.1,
        ap (λ l. map (option_map view) l ++ answers one.0 (drop (i + 1) calls)) e
            ∙ ap (λ l. l ++ answers one.0 (drop (i + 1) calls)) (map-append (option_map view) given (r ∷ []))
            ∙ append_assoc (map (option_map view) given) (option_map view r ∷ []) (answers one.0 (drop (i + 1) calls))
            ∙ ap (λ l. map (option_map view) given ++ l) (sym one.2)
            ∙ ap (λ l. map (option_map view) given ++ answers k.0 l) (sym (drop_more calls i Front lt))
            ∙ k.2,
        omega (arith, one.3, k.3),
      )
