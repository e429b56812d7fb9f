-- The lines so far are told.
use Rattle.std.proofs.Common.{[], take}
use Rattle.seat_desk.specs.FlightsDesk.{IsPut}
use Rattle.seat_replies.specs.RunDesk.{at_any}
use Rattle.desk_hall.specs.Telling.{IsTurn}
use Rattle.desk_hall.proofs.telling.told_of.Given as goal

abbrev pub invariant-loop-turn : goal.invariant-loop-turn
invariant-loop-turn g l = IsPut (at_any (IsTurn l.flights l.serving.grid l.serving.journal l.session)) 0 (take l.turn-index l.turns) [] l.text.items
