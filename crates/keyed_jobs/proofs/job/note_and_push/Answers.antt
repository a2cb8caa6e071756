use Rattle.keyed_tables.specs.Arranged.{noted}
use Rattle.keyed_jobs.proofs.NotedLemmas.{note-one}
use Rattle.keyed_jobs.proofs.job.note_and_push.Goals as goal

pub returns-clause-noted : goal.returns-clause-noted
returns-clause-noted c = note-one c.args.row.key (noted c.args.order.now) (noted c.note.new.self) c.in_ok-note.ensures
