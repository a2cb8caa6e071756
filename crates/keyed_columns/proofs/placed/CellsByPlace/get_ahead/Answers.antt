use Rattle.std.proofs.Common.{◌≡◌, ◌∙◌, ◌+◌, ◌-◌, ap, arith, drop, refl, sym}
use Rattle.std.specs.Prelude.{slice_get}
use Rattle.std.proofs.lemmas.Iterator.Consumers.{YieldsList-from_first, nth_from_yields_List}
use Rattle.keyed_columns.proofs.PlacedLemmas.{left-behind, nth-left, slice_get-drop}
use Rattle.keyed_columns.proofs.placed.CellsByPlace.get_ahead.Goals as goal

pub returns-clause-cell : goal.returns-clause-cell
returns-clause-cell c =
    let self = c.args.self.now in
    let ahead : c.args.place ≡ self.place + (c.args.place - self.place) = omega (arith, c.requires) in
    nth_from_yields_List c.nth-cell.result _ _ c.nth-cell.ensures.ran (YieldsList-from_first (λ x. x.now) (λ cells. cells) self.next refl)
    ∙ ap (λ left. slice_get left (c.args.place - self.place)) self.left ∙ slice_get-drop self.place (c.args.place - self.place) c.args.place self.cells.now ahead

pub invariant_of-self : goal.invariant_of-self
invariant_of-self c =
    let self = c.args.self.now in
    let ahead : c.args.place ≡ self.place + (c.args.place - self.place) = omega (arith, c.requires) in
    let ran = c.nth-cell.ensures.ran in
    record {
      left = left-behind self.cells.now self.next _ self.place (c.args.place - self.place) c.args.place self.left
          (nth-left ran.0 self.next ran.1.0 _ _ _ ran.1.1 ran.1.2 ran.2) ahead self.bound
          ∙ ap (λ i. drop i self.cells.now) (sym c.saturating_add-self.ensures);
      bound = self.bound;
    }
