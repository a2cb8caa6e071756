use Rattle.std.proofs.Common.{rules, ◌≡◌, ◌≢◌, List, ℕ, [], length, sym, ap, ◌∙◌, subst, true≢false}
use Rattle.eob_lists.specs.Join.{Rising}
use Rattle.eob_lists.proofs.RisingLemmas.{shown_join}
use Rattle.line_words.specs.Words.{words}
use Rattle.line_words.proofs.WordLemmas.{has_word, no_bytes, words_nil}
use Rattle.walk_lines.specs.Commands.{Join, bytes_cmp}
use Rattle.walk_lines.specs.Answers.{shown_table}
use Rattle.walk_lines.proofs.TableLemmas.{no_slash, not_rising, rising_refs, says_tables, words_left}
use Rattle.walk_lines.proofs.line.joins.answer_join.Goals as goal

pub returns-then-not-is_empty : goal.returns-then-not-is_empty
returns-then-not-is_empty g c =
    let last = c.in_ok-right-in-Some.words.now in
    let some : last ≢ [] = grind rules in
    words_left c.args.words.now c.in_ok-left.words.now c.in-Some.words.now last (shown_table c.in_ok-left.left.items) (shown_table c.in_ok-right-in-Some.right.items)
    (record { left_said = c.in_ok-left.ensures.0; left_whole = c.in_ok-left.ensures.2; slash = c.in-Some.ensures; right_said = c.in_ok-right-in-Some.ensures.0; right_whole = c.in_ok-right-in-Some.ensures.2 })
    (λ e. some (has_word last c.in_ok-right-in-Some.ensures.1 e))

pub outer_join-requires-clause-left : goal.outer_join-requires-clause-left
outer_join-requires-clause-left g c =
    rising_refs c.in_ok-left.left.items (subst (λ l. Rising bytes_cmp (shown_table l)) c.deref.ensures.value (c.are_rising.ensures.0 c.if-are_rising.true).0)

pub outer_join-requires-clause-right : goal.outer_join-requires-clause-right
outer_join-requires-clause-right g c =
    rising_refs c.in_ok-right-in-Some.right.items (subst (λ l. Rising bytes_cmp (shown_table l)) c.deref-in-Some.ensures.value (c.are_rising.ensures.0 c.if-are_rising.true).1)

pub returns-then-are_rising : goal.returns-then-are_rising
returns-then-are_rising g c =
    let last = c.in_ok-right-in-Some.words.now in
    let left = c.in_ok-left.left.items in
    let right = c.in_ok-right-in-Some.right.items in
    let zero : length last ≡ 0 = grind rules in
    let r = c.are_rising.ensures.0 c.if-are_rising.true in (
      Join (shown_table left) (shown_table right),
      says_tables c.args.words.now c.in_ok-left.words.now c.in-Some.words.now last (shown_table left) (shown_table right)
          (record { left_said = c.in_ok-left.ensures.0; left_whole = c.in_ok-left.ensures.2; slash = c.in-Some.ensures; right_said = c.in_ok-right-in-Some.ensures.0; right_whole = c.in_ok-right-in-Some.ensures.2 })
          (ap words (no_bytes last zero) ∙ words_nil)
          (subst (λ l. Rising bytes_cmp (shown_table l)) c.deref.ensures.value r.0)
          (subst (λ l. Rising bytes_cmp (shown_table l)) c.deref-in-Some.ensures.value r.1),
      shown_join bytes_cmp (List ℕ) (List ℕ) left right c.in_ok-outer_join-in-Some.field-0.items c.in_ok-outer_join-in-Some.ensures.join,
    )

pub returns-in-Some : goal.returns-in-Some
returns-in-Some g c =
    let left = c.in_ok-left.left.items in
    let right = c.in_ok-right-in-Some.right.items in
    not_rising c.args.words.now c.in_ok-left.words.now c.in-Some.words.now c.in_ok-right-in-Some.words.now (shown_table left) (shown_table right)
    (record { left_said = c.in_ok-left.ensures.0; left_whole = c.in_ok-left.ensures.2; slash = c.in-Some.ensures; right_said = c.in_ok-right-in-Some.ensures.0; right_whole = c.in_ok-right-in-Some.ensures.2 })
    (λ r. true≢false
    (sym
    (c.are_rising.ensures.1 (
      subst (λ l. Rising bytes_cmp (shown_table l)) (sym c.deref.ensures.value) r.0,
      subst (λ l. Rising bytes_cmp (shown_table l)) (sym c.deref-in-Some.ensures.value) r.1,
    ))
    ∙ c.if-are_rising.false))

pub returns : goal.returns
returns g c =
    no_slash c.args.words.now c.in_ok-left.words.now (shown_table c.in_ok-left.left.items) c.in_ok-left.ensures.0 c.in_ok-left.ensures.2 c.in-None.ensures
