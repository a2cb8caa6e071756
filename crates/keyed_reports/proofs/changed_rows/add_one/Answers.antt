use Rattle.std.proofs.Common.{◌≡◌, ◌∙◌, ◌+◌, IsSome, None, Some, ap, cond, min, refl, subst, sym}
use Rattle.indexmap.specs.IndexMap.{get_by}
use Rattle.keyed_reports.specs.RowChanges.{rows_eq}
use Rattle.keyed_reports.proofs.RowLemmas.{behind_equiv, count_written}
use Rattle.keyed_reports.proofs.changed_rows.add_one.Goals as goal

pub returns-in-Some : goal.returns-in-Some
returns-in-Some c = λ other.
    let m = c.args.counts.now in
    let row = c.args.row in
    let q = record row { now = other } in
    let was : get_by (λ y. rows_eq row.now y.now) m ≡ Some c.in-Some.count.now = sym c.in-Some.ensures.value in
    let step = (c.get_mut.follows.holds c.saturating_add.result).3 (subst IsSome (sym was) refl) in
    count_written behind_equiv row q m.entries (λ n. min (n + 1) 18446744073709551615) c.saturating_add.result (Some c.in-Some.count.now) _ was (sym c.saturating_add.ensures) (step.0 q)

pub returns-in_ok-insert-in-None : goal.returns-in_ok-insert-in-None
returns-in_ok-insert-in-None c = λ other.
    let m = c.args.counts.now in
    let row = c.args.row in
    let q = record row { now = other } in
    let was : get_by (λ y. rows_eq row.now y.now) m ≡ None = sym c.in-None.ensures.value in
    let same = ap (λ n. cond (rows_eq row.now other) (Some 1) (get_by (λ y. rows_eq other y.now) n)) c.get_mut.follows.holds-at-none in
    count_written behind_equiv row q m.entries (λ n. min (n + 1) 18446744073709551615) 1 None _ was refl (c.in_ok-insert-in-None.ensures.updates.0 q ∙ same)
