use Rattle.std.proofs.Common.{refl}
use Rattle.keyed_files.proofs.ReadingLemmas.{gone-known, opened-known}
use Rattle.keyed_files.proofs.source.Source.open.Goals as goal

pub returns-clause-opened : goal.returns-clause-opened
returns-clause-opened g c =
    opened-known g.R.Read.remaining c.args.form c.args.content _ _ _ _ c.in_ok-source.ensures.ok refl c.in_ok-reader.ensures.begun _ c.in_ok-has_first.ensures.gives
    c.next_of.ensures c.in_ok-header.ensures.names c.in_ok-header.ensures.spelled_names c.in_ok-header.ensures.spelled

pub returns-clause-gone : goal.returns-clause-gone
returns-clause-gone g c = λ changes.
    gone-known g.R.Read.remaining c.args.form _ _ _ _ c.in_ok-source.ensures.ok c.in_ok-reader.ensures.begun _ c.in_ok-has_first.ensures.gives
    c.next_of.ensures (c.in_ok-header.ensures.gone changes)
