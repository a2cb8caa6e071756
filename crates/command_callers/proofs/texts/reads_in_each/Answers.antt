use Rattle.std.proofs.Common.{◌∷◌, [], arith, refl}
use Rattle.std.proofs.lemmas.List.Elements.{All-cons, All-nil}
use Rattle.std.specs.Prelude.{None, codes}
use Rattle.csv.specs.Reading.{strip_bom}
use Rattle.keyed_text.specs.Laws.{HasCells}
use Rattle.command_callers.proofs.texts.reads_in_each.Goals as goal

pub returns : goal.returns
unfolding strip_bom
returns c =
    let header = codes "id" ∷ codes "name" ∷ [] in
    let row = codes "2" ∷ codes "a;b" ∷ [] in
    let full = All-cons HasCells header (row ∷ []) (λ e. cc e) (All-cons HasCells row [] (λ e. cc e) (All-nil HasCells)) in
    (c.law_reads_back.ensures c.args.style 59 None (refl, refl, refl, omega arith) tt header (row ∷ []) refl full).0
