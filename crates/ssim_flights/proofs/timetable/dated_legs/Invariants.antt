use Rattle.std.proofs.Common.{◌≡◌, take, map}
use Rattle.ssim_flights.specs.Timetables.{planned_on, IsInRound}
use Rattle.ssim_flights.proofs.timetable.dated_legs.Given as goal

abbrev pub invariant-loop-planned : goal.invariant-loop-planned
invariant-loop-planned l = (l.dated ≡ map (planned_on l.row) (take l.planned-index l.legs)) × IsInRound l.row l.at.many l.at
