use Rattle.std.proofs.Common.{◌≡◌, ◌<◌, ◌≤◌, [], ◌∷◌, ◌++◌, map, length, drop, refl, sym, ap, ◌∙◌, append-nil, arith}
use Rattle.std.specs.Option.{option_map}
use Rattle.std.specs.Iterator.{size}
use Rattle.std.proofs.Math.ListN.{drop_of_length-le}
use Rattle.std.proofs.lemmas.List.{flat_map_more, length-map}
use Rattle.eob_lists.specs.Answers.{answers, left_over}
use Rattle.eob_lists.specs.Places.{left_place, right_place}
use Rattle.eob_lists.proofs.DriveLemmas.{kept}
use Rattle.eob_lists.proofs.StdEnds.{vec_place}
use Rattle.eob_lists.proofs.SwapLemmas.{swap_of_places}
use Rattle.line_words.proofs.GrowthLemmas.{extends_same, extends_trans}
use Rattle.walk_lines.specs.Answers.{end_of, shown_sides, side_by_side}
use Rattle.walk_lines.specs.Texts.{driven_text}
use Rattle.walk_lines.proofs.DrivenLemmas.{as_it_is, called, driven, given_part, items_of_sides}
use Rattle.walk_lines.proofs.answer.ends.append_ends.Goals as goal

pub loop-letter-init : goal.loop-letter-init
loop-letter-init g c =
    let left = left_place c.args.sides in
    let right = right_place c.args.sides in record {
      grown = extends_same _;
      driven = (
        [],
        (
          items_of_sides c.args.sides,
          swap_of_places _ _ _ _ _ _ _ _ left right c.into_iter_swap-walk.result (vec_place _ (λ v s e. e.0) left) (vec_place _ (λ v s e. e.0) right) c.into_iter_swap-walk.ensures.left_side c.into_iter_swap-walk.ensures.right_side,
          refl,
          omega arith,
        ),
        sym (append-nil _),
      );
    }

pub loop-letter-preserved : goal.loop-letter-preserved
loop-letter-preserved g c =
    let i = c.loop-letter.invariant in
    let d = i.driven in
    let letters = c.letters-letters.result.now in
    let n = c.loop-letter.letter-index in
    let given = c.call_end-given.result in
    let a = c.in_ok-append_given.ensures in
    let here : n < length (map end_of letters) = omega (arith, c.loop-letter-test.true, length-map letters end_of) in
    record {
      grown = extends_trans _ _ _ i.grown a.grown;
      driven = (
        d.0 ++ given ∷ [],
        kept _ _ _ (items_of_sides c.args.sides) (map end_of letters) c.loop-letter.walk d.0 n given c.call_end-given.new.walk (d.0 ++ given ∷ []) here (called letters n _ _ _ c.loop-letter-test.true c.call_end-given.ensures) refl d.1,
        a.text ∙ ap (λ l. l ++ given_part given) d.2 ∙ flat_map_more given_part _ d.0 given,
      );
    }

pub returns-clause-text : goal.returns-clause-text
returns-clause-text g c =
    let d = c.loop-letter.invariant.driven in
    let xs = items_of_sides c.args.sides in
    let letters = c.letters-letters.result.now in
    let calls = map end_of letters in
    let n = c.loop-letter.letter-index in
    let end : length calls ≤ n = omega (arith, c.loop-letter-test.false, length-map letters end_of) in
    let past : drop n calls ≡ [] = drop_of_length-le calls end in
    let all : map (option_map as_it_is) d.0 ≡ answers xs calls = sym (append-nil _) ∙ ap (λ l. map (option_map as_it_is) d.0 ++ answers d.1.0 l) (sym past) ∙ d.1.2 in
    let counted : c.len.result ≡ length d.1.0 = c.len.ensures.value ∙ ap size (d.1.1.after 1).counted in
    let rest : c.len.result ≡ left_over xs calls = omega (arith, counted, d.1.3, end, c.loop-letter.auto.letter-index-end, length-map letters end_of) in
    driven c.args.sides calls d.0 c.len.result _ _ _ _ all rest d.2 c.in_ok-append_part.ensures.text c.in_ok-append_number.ensures.text
    ∙ ap (λ l. c.args.output.now.items ++ driven_text (side_by_side (shown_sides c.args.sides)) (map end_of l)) (ap (λ b. b.now) c.letters-letters.ensures)
