-- Three versions of a table of which one alone changed what stands under each key, and the rows that have each change.
use Rattle.std.proofs.Common.{◌≡◌, List, [], ◌∷◌, ℕ, map, refl}
use Rattle.std.specs.Prelude.{codes}
use Rattle.std.specs.Ordering.{is_eq}
use Rattle.eob_lists.specs.Join.{Rising, value_under}
use Rattle.eob_joins.proofs.TableLemmas.{by_test}
use Rattle.keyed_tables.specs.Gathered.{alone}
use Rattle.keyed_jobs.specs.Answers.{TableRows, key_cmp}
use Rattle.keyed_jobs.proofs.AnswerLemmas.{key_total}
use Rattle.keyed_laws.specs.OneSide.{KeepsOneSide}
use Rattle.command_callers.proofs.KnownRows.{alone_rise}
use Rattle.command_callers.proofs.KnownTables.{KeyedRows}

abbrev pub of_base : KeyedRows
of_base = (codes "1" ∷ [], codes "x" ∷ []) ∷ (codes "2" ∷ [], codes "y" ∷ []) ∷ []

abbrev pub of_ours : KeyedRows
of_ours = (codes "1" ∷ [], codes "z" ∷ []) ∷ (codes "2" ∷ [], codes "y" ∷ []) ∷ []

abbrev pub of_theirs : KeyedRows
of_theirs = (codes "1" ∷ [], codes "x" ∷ []) ∷ (codes "3" ∷ [], codes "w" ∷ []) ∷ []

-- the row that ours changed, and the one that theirs added; theirs removed the third one
abbrev pub of_both : KeyedRows
of_both = (codes "1" ∷ [], codes "z" ∷ []) ∷ (codes "3" ∷ [], codes "w" ∷ []) ∷ []

pub both_rise : Rising key_cmp (map alone of_both)
both_rise = alone_rise key_cmp key_total of_both (tt, (refl, tt))

pub both_are : (rows : TableRows) → KeepsOneSide (map alone of_base) (map alone of_ours) (map alone of_theirs) rows → (k : List (List ℕ))
    → value_under key_cmp rows k ≡ value_under key_cmp (map alone of_both) k
both_are rows keeps k =
    by_test (is_eq (key_cmp k (codes "1" ∷ [])))
    (λ t. rw t (rw t at (keeps.ours_alone k (rw t refl))))
    (λ f. rw f (rw f at (keeps.theirs_alone k (rw f refl))))
