use Rattle.std.proofs.Common.{◌≡◌, ◌∙◌, arith, nat_eq, sym}
use Rattle.std.specs.Cmp.Lexicographic.{pointwise}
use Rattle.keyed_columns.proofs.NameLemmas.{position-map}
use Rattle.keyed_columns.proofs.names.Names.place_of.Goals as goal

pub returns-in-Some-clause-place : goal.returns-in-Some-clause-place
returns-in-Some-clause-place c =
    let same : c.min.result ≡ c.in-Some.place = omega (arith, c.min.ensures, c.in-Some.ensures.within, c.len.ensures.len) in
    rw same (c.in-Some.ensures.index ∙ sym (position-map (λ name. name.items) (pointwise nat_eq c.args.name.now) c.args.self.now.names.keys))

pub returns-in-None-clause-place : goal.returns-in-None-clause-place
returns-in-None-clause-place c =
    c.in-None.ensures.index ∙ sym (position-map (λ name. name.items) (pointwise nat_eq c.args.name.now) c.args.self.now.names.keys)
