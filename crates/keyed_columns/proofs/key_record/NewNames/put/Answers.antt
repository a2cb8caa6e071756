use Rattle.keyed_columns.proofs.ColumnLemmas.{once-more}
use Rattle.keyed_columns.proofs.key_record.NewNames.put.Goals as goal

pub returns-clause-once : goal.returns-clause-once
returns-clause-once c = λ h.
    once-more c.args.self.now _ c.args.name.now h c.in_ok-add.ensures.names (c.in_ok-add.ensures.behind c.if-not-branch.false) c.in_ok-push.ensures.pushed
