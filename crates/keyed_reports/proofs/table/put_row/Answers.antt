use Rattle.keyed_reports.proofs.table.put_row.Goals as goal

pub returns-in_ok-put_both-in-Both : goal.returns-in_ok-put_both-in-Both
returns-in_ok-put_both-in-Both c = let put = c.in_ok-put_both-in-Both.ensures in (put.0, rw c.in-Both.is put.1, put.2.0)
