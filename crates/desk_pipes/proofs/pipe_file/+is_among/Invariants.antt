-- Among fewer each time.
use Rattle.std.proofs.Common.{length}
use Rattle.desk_pipes.proofs.pipe_file.+is_among.Given as goal

abbrev pub decreases-is_among : goal.decreases-is_among
decreases-is_among l = length l.taken.now
