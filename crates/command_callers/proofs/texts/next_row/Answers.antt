use Rattle.command_callers.proofs.texts.next_row.Goals as goal

pub returns-then-branch : goal.returns-then-branch
returns-then-branch g c d m text before h = (rw c.if-branch.true at c.in_ok-read_row.ensures) d m text before h

pub returns-else-branch : goal.returns-else-branch
returns-else-branch g c d m text before h = (rw c.if-branch.false at c.in_ok-read_row.ensures) d m text before h
