use Rattle.std.proofs.Common.{List, OnOk, subst, sym}
use Rattle.airimp_lines.specs.declared.requests.Request.{Request}
use Rattle.seat_desk.specs.FlightsDesk.{IsPut}
use Rattle.seat_replies.specs.Answering.{AreAnswerable}
use Rattle.seat_replies.specs.RunDesk.{IsAnswer}
use Rattle.seat_run.proofs.Asked.{managed}
use Rattle.seat_run.proofs.replies.put_session.Goals as goal

pub put_answers-requires : goal.put_answers-requires
put_answers-requires c = record {
  lines =
      subst (λ (l : List Request). AreAnswerable c.args.flights.now l c.args.journal.now c.args.receipts.now)
      (sym (managed c.args.scripts.now c.args.session c.if-session-eq0.true)) c.requires.lines;
}

pub returns-then-session-eq0 : goal.returns-then-session-eq0
returns-then-session-eq0 c =
    subst (λ (l : List Request).
    OnOk c.put_answers.result
    (IsPut (IsAnswer c.args.flights.now l c.args.journal.now) 0 c.args.receipts.now c.args.text.now.items c.put_answers.new.text.items))
    (managed c.args.scripts.now c.args.session c.if-session-eq0.true) c.put_answers.ensures
