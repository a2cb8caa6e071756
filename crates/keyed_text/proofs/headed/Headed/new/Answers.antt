use Rattle.std.proofs.Common.{◌∙◌, ◌++◌, ap}
use Rattle.std.proofs.KnownBytes.{Keeps-trans}
use Rattle.keyed_text.proofs.HeadLemmas.{noted-more, style-told, unread-keeps}
use Rattle.keyed_text.proofs.headed.Headed.new.Goals as goal

pub loop-init : goal.loop-init
loop-init g c =
    let begun = c.unread-headed.ensures in
    let headed = c.unread-headed.result in record {
      goes_on = begun.goes_on;
      unread = begun.passed;
      kept = unread-keeps g.R.Read.remaining headed c.args.reader begun.same begun.goes_on begun.none begun.passed;
      skipped = λ none. c.new-notes.ensures.skipped ∙ none;
      noted = λ none rest. rw begun.none (c.new-notes.ensures.style rest);
    }

pub read_more-requires-clause-goes_on : goal.read_more-requires-clause-goes_on
read_more-requires-clause-goes_on g c = c.loop.invariant.goes_on

pub read_more-requires-clause-unread : goal.read_more-requires-clause-unread
read_more-requires-clause-unread g c = c.loop.invariant.unread

pub loop-preserved : goal.loop-preserved
loop-preserved g c =
    let held = c.loop.invariant in
    let read = c.in_ok-read_more.ensures in record {
      goes_on = c.tells.ensures.goes_on c.if-tells.false;
      unread = read.passed;
      kept = Keeps-trans _ _ _ held.kept read.kept;
      skipped = λ none. (read.noted.2 (held.skipped none)).skipped;
      noted = λ none. noted-more c.args.marks c.loop.notes c.read_more.new.notes c.loop.headed.head.items c.read_more.new.self.head.items read.noted.0 read.noted.1
          (read.noted.2 (held.skipped none)) (held.noted none);
    }

pub returns-then-tells-clause-left : goal.returns-then-tells-clause-left
returns-then-tells-clause-left g c = Keeps-trans _ _ _ c.loop.invariant.kept c.in_ok-read_more.ensures.kept

pub returns-then-tells-clause-style : goal.returns-then-tells-clause-style
returns-then-tells-clause-style g c = λ none.
    let held = c.loop.invariant in
    let read = c.in_ok-read_more.ensures in
    rw c.style-style.ensures (style-told g.R.Read.remaining c.args.marks c.read_more.new.notes c.read_more.new.self read.passed
    (noted-more c.args.marks c.loop.notes c.read_more.new.notes c.loop.headed.head.items c.read_more.new.self.head.items read.noted.0 read.noted.1
    (read.noted.2 (held.skipped none)) (held.noted none)) (c.tells.ensures.told c.if-tells.true))
