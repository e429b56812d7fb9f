use Rattle.std.proofs.Common.{length}
use Rattle.desk_pipes.proofs.mark.Ahead.+pass.Given as goal

abbrev pub decreases-pass : goal.decreases-pass
decreases-pass l = length l.piece.now
