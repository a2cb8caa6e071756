use Rattle.std.proofs.Common.{◌++◌, ◌∷◌, [], sym, ap, ◌∙◌, append_assoc, rules}
use Rattle.std.proofs.Output.{has_written_append, has_written_of_eq}
use Rattle.keyed_faults.proofs.ShownLemmas.{encodes_more}
use Rattle.keyed_faults.proofs.shown.show_code.Goals as goal

pub loop-x-preserved : goal.loop-x-preserved
loop-x-preserved g c =
    let before = c.loop-x.yielded in
    let x = c.in-Some.x in (
      search rules,
      append_assoc before (x ∷ []) _ ∙ ap (λ l. before ++ l) (sym c.in-Some.ensures.steps.1.0) ∙ c.loop-x.invariant.1,
      λ plain. has_written_of_eq _ _ _ _ _ (encodes_more before x) (has_written_append _ _ _ _ _ _ (c.loop-x.invariant.2 plain) (search rules)),
    )
