use Rattle.std.proofs.Common.{◌≡◌, ◌∙◌, ◌++◌, ◌∷◌, ap, map, sym, true}
use Rattle.keyed_columns.specs.ColumnNames.{has_name}
use Rattle.keyed_columns.specs.Names.{names_in, renamed}
use Rattle.keyed_columns.specs.Repeated.{stands_twice}
use Rattle.keyed_columns.proofs.KeyColumnLemmas.{is-true, twice-among}
use Rattle.keyed_columns.proofs.header.Header.rename.Goals as goal

pub returns-then-not-branch-clause-why : goal.returns-then-not-branch-clause-why
returns-then-not-branch-clause-why c =
    let found = names_in c.loop-name.found in
    let name = c.renamed-name.result.now in
    let by = renamed c.args.key.now.first c.args.key.now.others in
    let there : has_name found name ≡ true = is-true _ _ c.in_ok-add.ensures.is_new c.if-not-branch.true in
    let all : found ++ name ∷ map by c.next.new.self ≡ map by c.args.self.now.names =
    ap (λ n. found ++ n ∷ map by c.next.new.self) c.renamed-name.ensures ∙ ap (λ l. found ++ map by l) (sym c.in-Some.ensures.steps) ∙ c.loop-name.invariant in
    ap (stands_twice (map by c.args.self.now.names)) c.in_ok-from_slice.ensures.items ∙ ap (λ l. stands_twice l name) (sym all)
    ∙ twice-among found (map by c.next.new.self) name there
