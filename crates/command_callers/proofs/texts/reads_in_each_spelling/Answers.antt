use Rattle.std.proofs.Common.{◌∷◌, [], arith, refl}
use Rattle.std.proofs.lemmas.List.Elements.{All-cons, All-nil}
use Rattle.std.specs.Prelude.{None, codes}
use Rattle.keyed_text.specs.Laws.{HasCells}
use Rattle.command_callers.proofs.texts.reads_in_each_spelling.Goals as goal

pub returns : goal.returns
returns c = λ header row plain.
    let names = codes "id" ∷ codes "name" ∷ [] in
    let cells = codes "2" ∷ codes "a;b" ∷ [] in
    let full = All-cons HasCells names (cells ∷ []) (λ e. cc e) (All-cons HasCells cells [] (λ e. cc e) (All-nil HasCells)) in
    c.law_spelled_back.ensures c.args.style 59 None (refl, refl, refl, omega arith) tt (header, names) ((row, cells) ∷ []) [] full plain
