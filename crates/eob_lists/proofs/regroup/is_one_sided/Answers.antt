use Rattle.std.proofs.Common.{inl, inr, sym, ◌∙◌, true≢false}
use Rattle.eob_lists.proofs.regroup.is_one_sided.Goals as goal

pub returns-else-all_left : goal.returns-else-all_left
returns-else-all_left g c =
    (λ t. inr (c.all_right.ensures.0 t), elim [ inl l ↦ absurd (true≢false (sym (c.all_left.ensures.1 l) ∙ c.if-all_left.false)) | inr r ↦ c.all_right.ensures.1 r ])
