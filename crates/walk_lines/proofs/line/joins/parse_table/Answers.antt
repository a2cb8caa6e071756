use Rattle.std.proofs.Common.{◌≡◌, ◌∷◌, ◌++◌, [], rules, sym, ap, ◌∙◌, subst}
use Rattle.std.proofs.lemmas.List.{map-append}
use Rattle.line_words.specs.Words.{words}
use Rattle.walk_lines.specs.Answers.{HasEntryAhead, SaysTable, shown_entry, shown_table}
use Rattle.walk_lines.proofs.TableLemmas.{no_entry, table_more}
use Rattle.walk_lines.proofs.line.joins.parse_table.Goals as goal

pub loop-entry-preserved : goal.loop-entry-preserved
loop-entry-preserved g c =
    let l = c.loop-entry in
    let i = c.in-Some.ensures.entry in
    let grew : c.push.new.self.items ≡ l.table.items ++ c.in-Some.entry ∷ [] = search rules in
    let more = table_more (words c.args.bytes.now) (shown_table l.table.items) (shown_entry c.in-Some.entry) (words l.rest.now) (words c.in-Some.after.now) l.invariant.said i.0 i.1 in
    record {
      ahead = c.in-Some.ensures.ahead;
      said = subst (λ m. SaysTable (words c.args.bytes.now) m (words c.in-Some.after.now)) (sym (ap shown_table grew ∙ map-append shown_entry l.table.items (c.in-Some.entry ∷ []))) more;
    }

pub returns : goal.returns
returns g c =
    let l = c.loop-entry in (
      l.invariant.said,
      l.invariant.ahead,
      no_entry l.rest.now (λ parts. HasEntryAhead l.rest.now (shown_entry parts.0) parts.1.now) c.split_entry_word.result c.split_entry_word.ensures.entry c.in_default.not-Some,
    )
