use Rattle.std.proofs.Common.{◌≡◌, ◌∙◌, ◌+◌, ◌-◌, ◌<◌, ◌≤◌, ap, arith, drop, length, length-drop}
use Rattle.std.specs.List.{flat_map}
use Rattle.std.proofs.lemmas.List.{length-map, take_all}
use Rattle.std.proofs.lemmas.Result.{IfOk-weaker}
use Rattle.csv.specs.Records.{fields_of}
use Rattle.keyed_columns.specs.Going.{coming_behind, going_behind}
use Rattle.keyed_columns.specs.Headers.{name_in, names_behind}
use Rattle.keyed_columns.proofs.HeaderLemmas.{name-here, names-none, none-came, none-gone, one-comes, one-goes, one-more, place-behind}
use Rattle.keyed_columns.proofs.header.Header.of_record.Goals as goal

pub loop-place-init : goal.loop-place-init
loop-place-init c = (
  λ once. names-none (names_behind c.args.before (fields_of c.args.row.now)) (c.args.before - c.args.before) _ (omega arith) c.new-told.ensures.names once,
  none-gone c.args.before (c.args.before - c.args.before) (fields_of c.args.row.now) _ (omega arith) c.new-told.ensures.gone,
  none-came c.args.before (c.args.before - c.args.before) (fields_of c.args.row.now) _ (omega arith) c.new-told.ensures.came,
)

pub loop-place-preserved : goal.loop-place-preserved
loop-place-preserved c =
    let fields = fields_of c.args.row.now in
    let before = c.args.before in
    let place = c.loop-place.place in
    let le : before ≤ place = c.loop-place.auto.place in
    let lt : place < length fields = omega (arith, c.len-place-end.ensures, c.loop-place-test.true) in
    let next : (place + 1) - before ≡ (place - before) + 1 = omega (arith, le) in (
      λ once. let so_far = c.loop-place.invariant.0 once in
          rw c.note_fate.ensures.found
          (one-more (names_behind before fields) (place - before) _ _ _ _ (place-behind before place fields le lt) next
          (name-here before place fields _ le lt (rw c.cell_of.ensures at c.fate_of-fate.ensures.name)) c.in_ok-number.ensures.names so_far.0 so_far.1),
      one-goes before place _ fields _ _ _ _ _ _ le lt next c.cell_of.ensures c.fate_of-fate.ensures.goes c.in_ok-number.ensures.gone c.in_ok-note_fate.ensures.gone
          c.loop-place.invariant.1,
      one-comes before place _ fields _ _ _ _ _ _ le lt next c.cell_of.ensures c.fate_of-fate.ensures.comes c.in_ok-number.ensures.came c.in_ok-note_fate.ensures.came
          c.loop-place.invariant.2,
    )

pub returns : goal.returns
returns c =
    let fields = fields_of c.args.row.now in
    let before = c.args.before in
    let all : length (names_behind before fields) ≤ c.loop-place.place - before =
    omega (arith, length-map (drop before fields) (name_in before), length-drop before fields, c.len-place-end.ensures, c.loop-place-test.false) in
    let whole : length (drop before fields) ≤ c.loop-place.place - before = omega (arith, length-drop before fields, c.len-place-end.ensures, c.loop-place-test.false) in
    record {
      names = IfOk-weaker c.into_header.result _ _
          (λ header made once. made ∙ (c.loop-place.invariant.0 once).0 ∙ take_all (c.loop-place.place - before) (names_behind before fields) all) c.into_header.ensures.names;
      spelled_names = c.into_header.ensures.spelled_names;
      spelled = IfOk-weaker c.into_header.result _ _ (λ header made. made ∙ c.in_ok-spelled.ensures) c.into_header.ensures.spelled;
      gone = IfOk-weaker c.into_header.result _ _
          (λ header made. made ∙ c.loop-place.invariant.1 ∙ ap (flat_map (going_behind before)) (take_all (c.loop-place.place - before) (drop before fields) whole)) c.into_header.ensures.gone;
      came = IfOk-weaker c.into_header.result _ _
          (λ header made. made ∙ c.loop-place.invariant.2 ∙ ap (flat_map (coming_behind before)) (take_all (c.loop-place.place - before) (drop before fields) whole)) c.into_header.ensures.came;
    }
