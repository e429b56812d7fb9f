-- The answers so far are written.
use Rattle.std.proofs.Common.{take}
use Rattle.seat_desk.specs.FlightsDesk.{IsPut}
use Rattle.seat_replies.specs.RunDesk.{IsAnswer}
use Rattle.seat_run.proofs.replies.put_answers.Given as goal

abbrev pub invariant-loop-place : goal.invariant-loop-place
invariant-loop-place l = IsPut (IsAnswer l.flights l.requests l.journal) 0 (take l.place l.receipts) l.initial.text.items l.text.items
