-- The advices so far are written.
use Rattle.std.proofs.Common.{take}
use Rattle.seat_desk.specs.FlightsDesk.{IsPut}
use Rattle.seat_replies.specs.RunDesk.{IsAdviceLine, at_any}
use Rattle.seat_replies.proofs.replies.put_advices.Given as goal

abbrev pub invariant-loop-advice : goal.invariant-loop-advice
invariant-loop-advice l = IsPut (at_any (IsAdviceLine l.flights l.journal l.entry)) 0 (take l.advice-index l.advice-items) l.initial.text.items l.text.items
