use Rattle.std.proofs.Common.{◌≡◌, ◌+◌, ◌-◌, ◌<◌, ◌≤◌, arith, drop, length, length-drop}
use Rattle.std.proofs.lemmas.List.{length-map, take_all}
use Rattle.csv.specs.Records.{fields_of}
use Rattle.keyed_columns.specs.Headers.{name_in, names_behind}
use Rattle.keyed_columns.proofs.HeaderLemmas.{name-here, place-behind}
use Rattle.keyed_columns.proofs.KeyColumnLemmas.{next-told}
use Rattle.keyed_columns.proofs.header.There.of_record.Goals as goal

pub loop-place-preserved : goal.loop-place-preserved
loop-place-preserved c =
    let fields = fields_of c.args.row.now in
    let before = c.args.before in
    let place = c.loop-place.place in
    let le : before ≤ place = c.loop-place.auto.place in
    let lt : place < length fields = omega (arith, c.len-place-end.ensures, c.loop-place-test.true) in
    let next : (place + 1) - before ≡ (place - before) + 1 = omega (arith, le) in
    next-told (names_behind before fields) (place - before) _ _ c.put.new.self (place-behind before place fields le lt) next
    (name-here before place fields _ le lt (rw c.cell_of.ensures at c.fate_of.ensures.name)) (c.in_ok-put.ensures _ c.loop-place.invariant)

pub returns : goal.returns
returns c =
    let fields = fields_of c.args.row.now in
    let before = c.args.before in
    let all : length (names_behind before fields) ≤ c.loop-place.place - before =
    omega (arith, length-map (drop before fields) (name_in before), length-drop before fields, c.len-place-end.ensures, c.loop-place-test.false) in
    rw (take_all (c.loop-place.place - before) (names_behind before fields) all) at c.loop-place.invariant
