use Rattle.std.proofs.Common.{length}
use Rattle.seat_seal.proofs.rules.+are_scripts.Given as goal

abbrev pub decreases-are_scripts : goal.decreases-are_scripts
decreases-are_scripts l = length l.scripts.now
