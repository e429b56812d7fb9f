use Rattle.std.proofs.Common.{length}
use Rattle.seat_scripts.proofs.scripts.+read_from.Given as goal

abbrev pub decreases-read_from : goal.decreases-read_from
decreases-read_from g l = length l.scripts.now
