-- Those so far of whom the part tells.
use Rattle.std.proofs.Common.{drop}
use Rattle.carry_parts.proofs.ToldTurns.{IsToldTo}
use Rattle.carry_parts.proofs.telling.told.Given as goal

abbrev pub invariant-loop-booking : goal.invariant-loop-booking
invariant-loop-booking l = IsToldTo l.part l.olds l.news l.live (drop l.booking-index l.live) l.numbered l.rest l.all.items
