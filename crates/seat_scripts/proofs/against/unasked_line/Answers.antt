use Rattle.std.proofs.Common.{◌+◌, ℕ, Some, subst, sym, take}
use Rattle.std.specs.Prelude.{slice_get}
use Rattle.seat_replies.specs.VeryRequest.{Agree}
use Rattle.seat_scripts.proofs.Comparing.{AgreeSoFar, agree_end, agree_other, agree_own, differ_end, differ_here, untold}
use Rattle.seat_scripts.proofs.against.unasked_line.Goals as goal
use Rattle.seat_scripts.proofs.against.unasked_line.Goals.{then-entry-session+else-not-is_asked, else-entry-session}

pub returns-then-not-is_asked-clause-differ : goal.returns-then-not-is_asked-clause-differ
returns-then-not-is_asked-clause-differ c =
    differ_here c.args.flights.now c.args.session c.args.requests.now c.args.lines.now c.loop-entry.calls c.loop-entry.entry-index c.entry-item.result c.loop-entry-test.true c.entry-item.is c.loop-entry.invariant
    c.if-entry-session.true (untold c.is_asked.result (Agree c.args.flights.now (slice_get c.args.requests.now c.loop-entry.calls) (Some c.entry-item.result.work)) c.if-not-is_asked.true c.is_asked.ensures.1)

pub loop-entry-preserved : goal.loop-entry-preserved
loop-entry-preserved c =
    let so_far : ℕ → Type 0 = λ n. AgreeSoFar c.args.flights.now c.args.session c.args.requests.now n (take (c.loop-entry.entry-index + 1) c.args.lines.now) in
    elim c.if-entry-session.branch [
      | then-entry-session+else-not-is_asked w ↦ subst so_far (sym w.calls-is)
          (agree_own c.args.flights.now c.args.session c.args.requests.now c.args.lines.now c.loop-entry.calls c.loop-entry.entry-index c.entry-item.result c.loop-entry-test.true c.entry-item.is c.loop-entry.invariant
          w.if-entry-session.true (w.is_asked.ensures.0 w.if-not-is_asked.false))
      | else-entry-session w ↦ subst so_far (sym w.calls-is)
          (agree_other c.args.flights.now c.args.session c.args.requests.now c.args.lines.now c.loop-entry.calls c.loop-entry.entry-index c.entry-item.result c.loop-entry-test.true c.entry-item.is c.loop-entry.invariant
          w.if-entry-session.false)
    ]

pub returns-then-calls-requests-clause-differ : goal.returns-then-calls-requests-clause-differ
returns-then-calls-requests-clause-differ c =
    differ_end c.args.flights.now c.args.session c.args.requests.now c.args.lines.now c.loop-entry.calls c.loop-entry.entry-index c.loop-entry-test.false c.loop-entry.invariant c.if-calls-requests.true

pub returns-clause-same : goal.returns-clause-same
returns-clause-same c =
    agree_end c.args.flights.now c.args.session c.args.requests.now c.args.lines.now c.loop-entry.calls c.loop-entry.entry-index c.loop-entry-test.false c.loop-entry.invariant c.if-calls-requests.false
