use Rattle.std.proofs.Common.{◌≡◌, ◌∙◌, ◌-◌, IsSome, None, Some, ap, refl, subst, sym}
use Rattle.indexmap.specs.IndexMap.{get_by}
use Rattle.keyed_reports.specs.RowChanges.{count_in, rows_eq}
use Rattle.keyed_reports.proofs.RowLemmas.{behind_equiv, count_kept, count_written}
use Rattle.keyed_reports.proofs.changed_rows.take_one.Goals as goal

pub returns-in-Some-clause-counts : goal.returns-in-Some-clause-counts
returns-in-Some-clause-counts c = λ other.
    let m = c.args.counts.now in
    let row = c.args.row in
    let q = record row { now = other } in
    let was : get_by (λ y. rows_eq row.now y.now) m ≡ Some c.in-Some.count.now = sym c.in-Some.ensures.value in
    let step = (c.get_mut.follows.holds c.saturating_sub.result).3 (subst IsSome (sym was) refl) in
    count_written behind_equiv row q m.entries (λ n. n - 1) c.saturating_sub.result (Some c.in-Some.count.now) _ was (sym c.saturating_sub.ensures) (step.0 q)

pub returns-in-None-clause-counts : goal.returns-in-None-clause-counts
returns-in-None-clause-counts c = λ other.
    let m = c.args.counts.now in
    let row = c.args.row in
    let was : get_by (λ y. rows_eq row.now y.now) m ≡ None = sym c.in-None.ensures.value in
    ap (λ n. count_in n other) c.get_mut.follows.holds-at-none ∙ count_kept behind_equiv row (record row { now = other }) m.entries (λ n. n - 1) was refl
