use Rattle.std.proofs.Common.{take}
use Rattle.ssim_flights.specs.Timetables.{ArePlanned}
use Rattle.ssim_flights.proofs.timetable.plan_legs.Given as goal

abbrev pub invariant-loop-leg : goal.invariant-loop-leg
invariant-loop-leg l = ArePlanned l.initial.planned_legs.items l.planned_legs.items (take l.leg-index l.legs)
