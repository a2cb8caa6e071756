-- Why `lookup` gives no answer, by what its steps say.
use Rattle.std.proofs.Common.{◌≡◌, ◌∙◌, ◌++◌, ◌⊎◌, ℕ, List, [], ◌∷◌, Option, append_assoc, append-nil, inl, inr, option_map, refl, subst, sym}
use Rattle.std.specs.Map.{lookup}
use Rattle.eob_joins.proofs.TableLemmas.{by_test}
use Rattle.keyed_faults.specs.declared.fault.Fault.{Fault}
use Rattle.keyed_faults.specs.declared.fault.Reason.{Reason}
use Rattle.keyed_requests.specs.declared.request.Layout.{Layout}
use Rattle.keyed_columns.specs.Keys.{AreJoinColumns}
use Rattle.keyed_columns.specs.declared.columns.JoinColumns.{JoinColumns}
use Rattle.keyed_columns.specs.declared.content.Content.TheVariants.{Rows}
use Rattle.keyed_files.specs.Explained.{ExplainsRows}
use Rattle.keyed_files.specs.Opening.{first_header, next_header}
use Rattle.keyed_files.specs.Reading.{HasGiven, last_record}
use Rattle.keyed_files.specs.declared.opened.Opened.{Opened}
use Rattle.keyed_files.specs.declared.opened.Stream.{Stream}
use Rattle.keyed_files.specs.declared.opened.Two.{Two}
use Rattle.keyed_files.specs.declared.source.Source.{Source}
use Rattle.keyed_jobs.specs.Unread.{ExplainsUnread}
use Rattle.keyed_commands.specs.LookupAnswers.{held_rows, key_eq}
use Rattle.keyed_commands.specs.Unanswered.{OpensFile}
use Rattle.keyed_commands.specs.UnansweredLookup.{ExplainsFound, ExplainsLeft, ExplainsLookup, GoesOn, line_under}
use Rattle.keyed_commands.specs.declared.commands.lookup.Found.{Found}
use Rattle.keyed_commands.proofs.UnansweredLemmas.{among-one, apart-among}

-- the rows that are held have under a key the line that is kept with it
pub line-held : (entries : List (List (List ℕ) × Found)) (key : List (List ℕ))
    → line_under (held_rows entries) key ≡ option_map (λ found. found.line) (lookup (key_eq key) entries)
line-held [] key = refl
line-held (entry ∷ entries) key = by_test (key_eq key entry.0) (λ t. rw t refl) (λ e. rw e (line-held entries key))

module _ {R : Type 0} (rem : R → Option (List ℕ)) where
  pub goes-none : (source : Source R) → GoesOn rem source source
  goes-none source = record {
    rule = (refl, refl);
    gives = λ d c text given has. ([], subst (λ l. HasGiven d c rem text l source) (sym (append-nil given)) has);
  }

  pub goes-and : (source mid now : Source R) → GoesOn rem source mid → GoesOn rem mid now → GoesOn rem source now
  goes-and source mid now before after = record {
    rule = (after.rule.0 ∙ before.rule.0, after.rule.1 ∙ before.rule.1);
    gives = λ d c text given has.
        let first = before.gives d c text given has in
        let next = after.gives d c text (given ++ first.0) first.1 in
        (first.0 ++ next.0, subst (λ l. HasGiven d c rem text l now) (append_assoc given first.0 next.0) next.1);
  }

  -- why the rows after some are not read is why those of the whole table are not
  pub rows-after : (source mid : Source R) (told : Reason) → GoesOn rem source mid → ExplainsRows rem mid told → ExplainsRows rem source told
  rows-after source mid told before why = record {
    now = why.now;
    rule = (why.rule.0 ∙ before.rule.0, why.rule.1 ∙ before.rule.1);
    row = why.row;
    comes = λ of d c text given has.
        let first = before.gives d c text given has in
        let next = why.comes of d c text (given ++ first.0) first.1 in
        (first.0 ++ next.0, subst (λ l. HasGiven d c rem text (l ++ last_record why.now ∷ []) why.now) (append_assoc given first.0 next.0) next.1);
  }

  pub left-after : (old mid : Opened R) (fault : Fault) → mid.file ≡ old.file → GoesOn rem old.source.value mid.source.value → ExplainsLeft rem mid fault → ExplainsLeft rem old fault
  left-after old mid fault named before (inl output) = inl output
  left-after old mid fault named before (inr (inl apart)) = inr (inl (apart.0, inl (among-one mid.file fault.file apart.1 ∙ named)))
  left-after old mid fault named before (inr (inr of_row)) = inr (inr (of_row.0 ∙ named, rows-after old.source.value mid.source.value fault.reason before of_row.1))

  -- both tables are opened, and one of them is not read
  pub lookup-unread : (layout : Layout) (left right : Stream R) (fault : Fault) (sides : Two R) (columns : JoinColumns)
      → OpensFile rem rem layout.form Rows left sides.first → OpensFile rem rem layout.form Rows right sides.next
      → AreJoinColumns layout.key (first_header sides) (next_header sides) columns
      → (((fault.file ≡ sides.first.file) × ExplainsUnread rem columns.left sides.first.source.value fault.reason)
      ⊎ ((fault.file ≡ sides.next.file) × ExplainsFound rem columns.right sides.next.source.value fault.reason)) → ExplainsLookup rem layout left right fault
  lookup-unread layout left right fault sides columns first next are why = inr (sides, first, next, inr (inr (columns, are, why)))

  -- the left one is not read to its end
  pub lookup-unanswered : (layout : Layout) (left right : Stream R) (fault : Fault) (sides : Two R) (columns : JoinColumns)
      → OpensFile rem rem layout.form Rows left sides.first → OpensFile rem rem layout.form Rows right sides.next
      → AreJoinColumns layout.key (first_header sides) (next_header sides) columns → ExplainsLeft rem sides.first fault → ExplainsLookup rem layout left right fault
  lookup-unanswered layout left right fault sides columns first next are (inl output) = inr (sides, first, next, inr (inl output))
  lookup-unanswered layout left right fault sides columns first next are (inr (inl apart)) =
      inr (sides, first, next, inl (apart-among sides.first.file (sides.next.file ∷ []) fault apart))
  lookup-unanswered layout left right fault sides columns first next are (inr (inr of_row)) =
      lookup-unread layout left right fault sides columns first next are (inl (of_row.0, inr of_row.1))
