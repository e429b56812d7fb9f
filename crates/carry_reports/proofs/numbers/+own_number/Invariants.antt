use Rattle.std.proofs.Common.{length}
use Rattle.carry_reports.proofs.numbers.+own_number.Given as goal

abbrev pub decreases-own_number : goal.decreases-own_number
decreases-own_number l = length l.counts.now
