use Rattle.std.proofs.Common.{◌≡◌, ◌∙◌, arith, rules, sym, tests, true, true≢false}
use Rattle.std.proofs.lemmas.Grind.{common_steps}
use Rattle.eob_joins.proofs.TableLemmas.{by_test}
use Rattle.keyed_jobs.specs.Answers.{key_cmp, rows_eq}
use Rattle.keyed_jobs.proofs.AnswerLemmas.{fits_shown, item_both, items_all, joined_fits, joined_misfits, rows_decides}
use Rattle.keyed_commands.proofs.commands.apply.all_fit.Goals as goal

pub returns : goal.returns
returns c =
    let runs = c.all.ensures.runs in
    let p = runs.0 in
    let s = rw (c.deref.ensures.value, c.deref-2.ensures.value) at (c.outer_join_slices.ensures.runs p p.seen runs.1) in
    by_test c.all.result
    (λ t.
    let m = rw t at (runs.2) in (
      λ e. joined_fits rows_eq rows_decides key_cmp c.args.old.now.pairs.items c.args.changes.now.pairs.items p.items (s.join m.0)
          (items_all p _ (λ x. fits_shown rows_eq rows_decides x.1 ≡ true) (m.1 (λ a r g h. first_of (search rules, search (rules, tests), grind (arith, common_steps)))) (λ x h. first_of (search rules, search (rules, tests), grind (arith, common_steps), cc))),
      λ h. t,
    ))
    (λ f.
    let m = rw f at (runs.2) in
    let any = m (λ a r g h. first_of (search rules, search (rules, tests), grind (arith, common_steps))) in
    let x = item_both _ _ (p.at any.0) any.2 (s.places any.0) in
    (λ e. absurd (true≢false (sym e ∙ f)), λ h. absurd (joined_misfits rows_eq rows_decides key_cmp c.args.old.now.pairs.items c.args.changes.now.pairs.items x.0 x.2 (let called = x.1 in first_of (search rules, search (rules, tests), grind (arith, common_steps), cc)) h)))
