-- What became of those so far.
use Rattle.std.proofs.Common.{drop}
use Rattle.carry_reports.proofs.FateTurns.{IsSoFar}
use Rattle.carry_reports.proofs.fating.fates.Given as goal

abbrev pub invariant-loop-booking : goal.invariant-loop-booking
invariant-loop-booking l = IsSoFar l.carried l.live (drop l.booking-index l.live) l.all.items l.rest
