use Rattle.std.proofs.Common.{drop, ◌∙◌, ap, subst, sym}
use Rattle.std.proofs.lemmas.List.{take_rest}
use Rattle.eob_lists.specs.Normal.{IsOneSided}
use Rattle.eob_lists.proofs.NormalLemmas.{normal_from_rest, one_sided_rest}
use Rattle.eob_lists.proofs.regroup.is_normal.Goals as goal

pub returns : goal.returns
returns g c =
    let xs = c.args.list.now in
    let same = take_rest xs c.leading_boths.result ∙ ap (λ n. drop n xs) c.leading_boths.ensures.count in
    (λ t. normal_from_rest xs (subst IsOneSided same (c.is_one_sided.ensures.0 t)), λ n. c.is_one_sided.ensures.1 (subst IsOneSided (sym same) (one_sided_rest xs n)))
