use Rattle.std.proofs.Common.{◌≡◌, ◌∙◌, [], ◌∷◌, ap, map, subst}
use Rattle.keyed_cut.specs.Listing.{from_name}
use Rattle.keyed_files.specs.Writing.{PutsCells}
use Rattle.keyed_files.proofs.WritingLemmas.{cell-then, none-left}
use Rattle.keyed_cut.proofs.listing.put_from_names.Goals as goal

pub loop-name-preserved : goal.loop-name-preserved
loop-name-preserved c end h =
    c.loop-name.invariant end
    (cell-then _ _ end (map from_name c.loop-name.name-iterator) (from_name c.in-Some.name.now) (map from_name c.next.new.self) (ap (map from_name) c.in-Some.ensures.steps)
    (subst (λ from. PutsCells c.loop-name.rows c.put_cell.new.self (from ∷ [])) (c.deref.ensures.value ∙ c.in_ok-from.ensures) c.in_ok-put_cell.ensures) h)

pub returns : goal.returns
returns c = c.loop-name.invariant _ (none-left _ _ (ap (map from_name) c.in-None.ensures.steps.0))
