use Rattle.std.proofs.Common.{rules, ◌≡◌, ◌++◌, [], append-nil, refl, sym, subst}
use Rattle.std.specs.Prelude.{IfErr}
use Rattle.std.proofs.KnownBytes.{Appends-kept, Appends-nil}
use Rattle.line_runs.specs.declared.session.Stop.TheVariants.{Io}
use Rattle.line_runs.specs.Lines.{lines}
use Rattle.line_runs.specs.Session.{AnswersFirst, StopsAtEnd}
use Rattle.line_runs.specs.Texts.{AnswersLines}
use Rattle.line_runs.proofs.SessionLemmas.{any_err, err_with, first_moved, first_put, first_whole, taken_first}
use Rattle.line_runs.proofs.session.Session.end.Goals as goal

pub returns-in_err-take_last-clause-stopped : goal.returns-in_err-take_last-clause-stopped
returns-in_err-take_last-clause-stopped g c =
    let A = g.N.Answerer.answers in
    let s = c.args.self.now in
    any_err (StopsAtEnd A c.args.self.now (g.W.Write.contents c.args.writer.now) _) _ (λ stop given written t.
    let first = taken_first A given written s.unfinished.items s.answers.unwritten.items s.answers.lines s.answers.any_bad t [] in record {
      put = [];
      more = [];
      appended = Appends-nil _;
      answers = first_put A given written [] (subst (λ l. AnswersFirst A l written []) (append-nil given) (subst (λ u. AnswersFirst A (given ++ []) written u) c.requires first));
      whole = λ n. refl;
    })

pub returns-in_err-write_answers-clause-stopped : goal.returns-in_err-write_answers-clause-stopped
returns-in_err-write_answers-clause-stopped g c =
    let A = g.N.Answerer.answers in
    let w = c.in_err-write_answers.ensures.stopped in
    let io : IfErr c.from_residual-in_err-write_answers.result (λ stop. stop ≡ Io) = search rules in
    err_with _ (StopsAtEnd A c.args.self.now (g.W.Write.contents c.args.writer.now) _) _ io (λ stop e given written t. record {
      put = w.1.0;
      more = w.1.1;
      appended = w.1.2;
      answers = first_moved A given written w.1.0 w.1.1 (subst (λ u. AnswersFirst A given written u) w.1.3 (first_whole A given written _ _ (c.in_ok-take_last.ensures.answers given written t)));
      whole = λ n. absurd (cc (n, e));
    })

pub returns-in_err-flush-clause-stopped : goal.returns-in_err-flush-clause-stopped
returns-in_err-flush-clause-stopped g c =
    let A = g.N.Answerer.answers in
    let put = c.take_last.new.self.answers.unwritten.items in
    any_err (StopsAtEnd A c.args.self.now (g.W.Write.contents c.args.writer.now) _) _ (λ stop given written t. record {
      put = put;
      more = [];
      appended = Appends-kept _ _ _ _ c.in_ok-write_answers.ensures.written c.flush.ensures.bytes;
      answers = first_put A given written put (first_whole A given written put _ (c.in_ok-take_last.ensures.answers given written t));
      whole = λ n. refl;
    })

pub returns-clause-answers : goal.returns-clause-answers
returns-clause-answers g c given written t =
    let more = c.take_last.new.self.answers.unwritten.items in (
      more,
      Appends-kept _ _ _ _ c.in_ok-write_answers.ensures.written c.in_ok-flush.ensures.bytes,
      subst (λ b. AnswersLines g.N.Answerer.answers 0 (lines given) (written ++ more) b) (sym c.in_ok-write_answers.ensures.same) (c.in_ok-take_last.ensures.answers given written t),
    )
