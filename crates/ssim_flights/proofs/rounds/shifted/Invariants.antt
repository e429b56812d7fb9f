use Rattle.std.proofs.Common.{◌≡◌, length}
use Rattle.ssim_flights.specs.Timetables.{AreShifted}
use Rattle.ssim_flights.proofs.rounds.shifted.Given as goal

abbrev pub invariant-loop-j : goal.invariant-loop-j
invariant-loop-j l = AreShifted l.after l.days l.j l.shifted_days × (length l.shifted_days ≡ 14)
