use Rattle.std.proofs.Common.{length}
use Rattle.seat_host.proofs.settling.+confirm_all.Given as goal

abbrev pub decreases-confirm_all : goal.decreases-confirm_all
decreases-confirm_all g l = length l.sessions.now
