use Rattle.std.proofs.Common.{◌≡◌, ◌≢◌, ◌∷◌, ◌++◌, [], length, map, rules, sym, ap, ◌∙◌, subst}
use Rattle.std.proofs.lemmas.List.{map-append}
use Rattle.line_words.specs.Words.{words}
use Rattle.walk_lines.specs.Answers.{SaysFirst, shown}
use Rattle.line_words.proofs.WordLemmas.{has_word, words_nil, no_bytes}
use Rattle.walk_lines.proofs.ItemLemmas.{says_more, says_all, says_none}
use Rattle.walk_lines.proofs.line.walks.parse_items.Goals as goal

pub returns-in-None : goal.returns-in-None
returns-in-None g c =
    let l = c.loop-rest in
    let rest = l.rest.now in
    let some : rest ≢ [] = grind rules in
    says_none c.args.bytes.now (map shown l.items.items) rest l.invariant.said c.in-None.ensures.item (λ e. some (has_word rest l.invariant.ahead e))

pub loop-rest-preserved : goal.loop-rest-preserved
loop-rest-preserved g c =
    let l = c.loop-rest in
    let i = c.in-Some.ensures.item in
    let grew : c.push.new.self.items ≡ l.items.items ++ c.in-Some.item ∷ [] = search rules in
    let more = says_more (words c.args.bytes.now) (map shown l.items.items) (shown c.in-Some.item) (words l.rest.now) (words c.in-Some.after.now) l.invariant.said i.0 i.1 in
    record {
      ahead = c.in-Some.ensures.ahead;
      said = subst (λ m. SaysFirst (words c.args.bytes.now) m (words c.in-Some.after.now)) (sym (ap (map shown) grew ∙ map-append shown l.items.items (c.in-Some.item ∷ []))) more;
    }

pub returns : goal.returns
returns g c =
    let l = c.loop-rest in
    let zero : length l.rest.now ≡ 0 = grind rules in
    says_all c.args.bytes.now (map shown l.items.items) (words l.rest.now) l.invariant.said (ap words (no_bytes l.rest.now zero) ∙ words_nil)
