use Rattle.keyed_sqlite.proofs.TableLemmas.{put_under}
use Rattle.keyed_sqlite.proofs.text.put_row.Goals as goal

pub returns : goal.returns
returns c width is t = put_under _ _ _ width c.in_ok-put_row.ensures is t
