-- The answers to the sessions so far are written.
use Rattle.std.proofs.Common.{[], take}
use Rattle.seat_desk.specs.FlightsDesk.{IsPut}
use Rattle.seat_replies.specs.Going.{behind}
use Rattle.seat_replies.specs.RunDesk.{AreSessions}
use Rattle.seat_run.proofs.replies.replies.Given as goal

abbrev pub invariant-loop-session : goal.invariant-loop-session
invariant-loop-session l = IsPut (AreSessions l.flights l.scripts l.journal) 0 (take l.session (behind l.past.calls l.receipts)) [] l.text.items
