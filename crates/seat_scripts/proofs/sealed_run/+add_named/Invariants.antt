use Rattle.std.proofs.Common.{length}
use Rattle.seat_scripts.proofs.sealed_run.+add_named.Given as goal

abbrev pub decreases-add_named : goal.decreases-add_named
decreases-add_named l = length l.imprints.now
