use Rattle.std.proofs.Common.{◌≡◌, ◌++◌, [], ℕ, List, take, rules, refl, sym, ap, subst, ◌∙◌, append-nil}
use Rattle.std.specs.Prelude.{IfErr}
use Rattle.std.specs.Io.KnownBytes.{Appends, Consumes, IsAtEnd}
use Rattle.std.proofs.KnownBytes.{Appends-nil, Appends-trans, Consumes-nil, Consumes-trans, Consumes-whole}
use Rattle.line_runs.specs.Lines.{lines}
use Rattle.line_runs.specs.Session.{AnswersFirst, Stopped}
use Rattle.line_runs.specs.Texts.{AnswersLines}
use Rattle.line_runs.proofs.SessionLemmas.{any_err, err_with, first_none, known_ahead, taken_first}
use Rattle.line_runs.proofs.session.Session.answer_all.Goals as goal

pub returns-then-count-eq0-clause-answers : goal.returns-then-count-eq0-clause-answers
returns-then-count-eq0-clause-answers g c =
    let (given, written, eaten, put, taken, none) = c.loop.invariant in
    let more = c.in_ok-end.ensures.answers given written taken in
    let at_end : IsAtEnd (g.R.Read.remaining c.read.new.self) = search rules in
    let nothing : take c.in_ok-count.count c.read.new.buf ≡ [] = ap (λ n. take n c.read.new.buf) c.if-count-eq0.true in
    let whole = subst (λ l. Consumes (g.R.Read.remaining c.args.reader.now) (g.R.Read.remaining c.read.new.self) l) (ap (λ l. given ++ l) nothing ∙ append-nil given) (Consumes-trans _ _ _ _ _ eaten c.in_ok-count.ensures.bytes.0) in
    Consumes-whole _ _ given
    (λ text. (answers : List ℕ) × Appends (g.W.Write.contents c.args.writer.now) (g.W.Write.contents c.end.new.writer) answers × AnswersLines g.N.Answerer.answers 0 (lines text) answers c.end.new.self.answers.any_bad)
    whole at_end (written ++ more.0, Appends-trans _ _ _ _ _ put more.1, more.2)

pub loop-preserved : goal.loop-preserved
loop-preserved g c =
    let (given, written, eaten, put, taken, none) = c.loop.invariant in
    let a = c.in_ok-answer_bytes.ensures.taken given written taken in
    let n = c.in_ok-count.count in
    (given ++ take n c.read.new.buf, written ++ a.0, Consumes-trans _ _ _ _ _ eaten c.in_ok-count.ensures.bytes.0, Appends-trans _ _ _ _ _ put a.1, a.2, c.in_ok-answer_bytes.ensures.none_left)

-- no answer is written before memory is there to read into
pub returns-in_err-memory-clause-stopped : goal.returns-in_err-memory-clause-stopped
returns-in_err-memory-clause-stopped g c =
    let A = g.N.Answerer.answers in
    let old = g.W.Write.contents c.args.writer.now in
    any_err _ _ (λ stop. known_ahead (g.R.Read.remaining c.args.reader.now) _ [] (λ text. Stopped old old (AnswersFirst A text) stop) (Consumes-nil _)
    (λ text. record { put = []; more = []; appended = Appends-nil _; answers = first_none A text; whole = λ n. refl }))

-- between two reads, the answers to the whole lines so far are written
pub returns-in_err-count-clause-stopped : goal.returns-in_err-count-clause-stopped
returns-in_err-count-clause-stopped g c =
    let A = g.N.Answerer.answers in
    let (given, written, eaten, put, taken, none) = c.loop.invariant in
    let s = c.loop.self in
    any_err _ _ (λ stop. known_ahead _ _ given (λ text. Stopped (g.W.Write.contents c.args.writer.now) (g.W.Write.contents c.loop.writer) (AnswersFirst A text) stop) eaten
    (λ later. record {
      put = written;
      more = [];
      appended = put;
      answers = subst (λ u. AnswersFirst A (given ++ later) written u) none (taken_first A given written s.unfinished.items s.answers.unwritten.items s.answers.lines s.answers.any_bad taken later);
      whole = λ n. refl;
    }))

pub returns-clause-stopped : goal.returns-clause-stopped
returns-clause-stopped g c =
    let A = g.N.Answerer.answers in
    let (given, written, eaten, put, taken, none) = c.loop.invariant in
    let s = c.loop.self in
    known_ahead _ _ given (λ text. Stopped (g.W.Write.contents c.args.writer.now) (g.W.Write.contents c.loop.writer) (AnswersFirst A text) _) eaten
    (λ later. record {
      put = written;
      more = [];
      appended = put;
      answers = subst (λ u. AnswersFirst A (given ++ later) written u) none (taken_first A given written s.unfinished.items s.answers.unwritten.items s.answers.lines s.answers.any_bad taken later);
      whole = λ n. refl;
    })

-- and some more where a call stopped the run
pub returns-in_err-answer_bytes-clause-stopped : goal.returns-in_err-answer_bytes-clause-stopped
returns-in_err-answer_bytes-clause-stopped g c =
    let A = g.N.Answerer.answers in
    let (given, written, eaten, put, taken, none) = c.loop.invariant in
    let read = take c.in_ok-count.count c.read.new.buf in
    let old = g.W.Write.contents c.args.writer.now in
    let new = g.W.Write.contents c.answer_bytes.new.writer in
    let stopped = c.in_err-answer_bytes.ensures.stopped given written taken in
    let same : IfErr c.from_residual-in_err-answer_bytes.result (λ stop. stop ≡ c.in_err-answer_bytes.field-0.0) = search rules in
    err_with _ _ _ same (λ stop e. known_ahead _ _ (given ++ read) (λ text. Stopped old new (AnswersFirst A text) stop) (Consumes-trans _ _ _ _ _ eaten c.in_ok-count.ensures.bytes.0)
    (λ later. record {
      put = written ++ stopped.put;
      more = stopped.more;
      appended = Appends-trans _ _ _ _ _ put stopped.appended;
      answers = stopped.answers later;
      whole = λ n. stopped.whole (sym e ∙ n);
    }))

pub returns-in_err-end-clause-stopped : goal.returns-in_err-end-clause-stopped
returns-in_err-end-clause-stopped g c =
    let A = g.N.Answerer.answers in
    let (given, written, eaten, put, taken, none) = c.loop.invariant in
    let old = g.W.Write.contents c.args.writer.now in
    let new = g.W.Write.contents c.end.new.writer in
    let stopped = c.in_err-end.ensures.stopped given written taken in
    let same : IfErr c.from_residual-in_err-end.result (λ stop. stop ≡ c.in_err-end.field-0.0) = search rules in
    let at_end : IsAtEnd (g.R.Read.remaining c.read.new.self) = search rules in
    let nothing : take c.in_ok-count.count c.read.new.buf ≡ [] = ap (λ n. take n c.read.new.buf) c.if-count-eq0.true in
    let whole = subst (λ l. Consumes (g.R.Read.remaining c.args.reader.now) (g.R.Read.remaining c.read.new.self) l) (ap (λ l. given ++ l) nothing ∙ append-nil given) (Consumes-trans _ _ _ _ _ eaten c.in_ok-count.ensures.bytes.0) in
    err_with _ _ _ same (λ stop e. Consumes-whole _ _ given (λ text. Stopped old new (AnswersFirst A text) stop) whole at_end
    (record {
      put = written ++ stopped.put;
      more = stopped.more;
      appended = Appends-trans _ _ _ _ _ put stopped.appended;
      answers = stopped.answers;
      whole = λ n. stopped.whole (sym e ∙ n);
    }))
