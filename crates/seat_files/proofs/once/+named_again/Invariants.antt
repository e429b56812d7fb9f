use Rattle.std.proofs.Common.{length}
use Rattle.seat_files.proofs.once.+named_again.Given as goal

abbrev pub decreases-named_again : goal.decreases-named_again
decreases-named_again l = length l.files.now
