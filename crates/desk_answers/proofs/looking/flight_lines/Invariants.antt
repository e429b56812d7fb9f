-- The flights of the day so far are written.
use Rattle.std.proofs.Common.{[], take}
use Rattle.seat_desk.specs.FlightsDesk.{IsPut}
use Rattle.desk_answers.proofs.Days.{IsNumbered}
use Rattle.desk_answers.proofs.looking.flight_lines.Given as goal

abbrev pub invariant-loop-index : goal.invariant-loop-index
invariant-loop-index g l = IsPut (IsNumbered l.flights (g.S.Seats.ladders l.seats) (g.S.Seats.state l.seats) (g.S.Seats.count l.seats) l.look) 0 (take l.index-index l.numbers) [] l.text.items
