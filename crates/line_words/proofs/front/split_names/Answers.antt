use Rattle.std.proofs.Common.{◌≡◌, ◌∷◌, ◌++◌, ◌∙◌, subst, append_assoc}
use Rattle.line_words.specs.Names.{NoNameAhead}
use Rattle.line_words.proofs.NameLemmas.{name_ahead, names_rest}
use Rattle.line_words.proofs.front.split_names.Goals as goal

pub returns-in_err-first-clause-some : goal.returns-in_err-first-clause-some
returns-in_err-first-clause-some c v w rest nv nw nr e =
    absurd (name_ahead v (c.args.parting ∷ (w ++ rest)) nv (subst NoNameAhead (e ∙ append_assoc v (c.args.parting ∷ w) rest) c.in_err-first.ensures.name))

pub returns-in_err-others-clause-some : goal.returns-in_err-others-clause-some
returns-in_err-others-clause-some c v w rest nv nw nr e =
    absurd (c.in_err-others.ensures (w ++ rest) (names_rest _ _ _ v w rest _ c.requires c.in_ok-first.ensures.name.0 c.in_ok-first.ensures.name.1 c.in_ok-first.ensures.parts nv e))

pub returns-in_err-second-clause-some : goal.returns-in_err-second-clause-some
returns-in_err-second-clause-some c v w rest nv nw nr e =
    let r = names_rest _ _ _ v w rest _ c.requires c.in_ok-first.ensures.name.0 c.in_ok-first.ensures.name.1 c.in_ok-first.ensures.parts nv e in
    let same : c.in_ok-others.others.now ≡ w ++ rest = cc (r, c.in_ok-others.ensures) in
    absurd (name_ahead w rest nw (subst NoNameAhead same c.in_err-second.ensures.name))
