-- The legs so far are written.
use Rattle.std.proofs.Common.{take}
use Rattle.seat_desk.specs.FlightsDesk.{IsLegText, IsPut}
use Rattle.seat_reports.proofs.flights.put_legs.Given as goal

abbrev pub invariant-loop-leg : goal.invariant-loop-leg
invariant-loop-leg l = IsPut IsLegText 0 (take l.leg-index l.legs) l.initial.text.items l.text.items
