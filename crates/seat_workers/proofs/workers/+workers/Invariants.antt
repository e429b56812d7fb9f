use Rattle.std.proofs.Common.{◌+◌, ◌*◌, length}
use Rattle.seat_workers.proofs.workers.+workers.Given as goal

abbrev pub decreases-work_all : goal.decreases-work_all
decreases-work_all g l = 4 * length l.lists.now

abbrev pub decreases-side_by_side : goal.decreases-side_by_side
decreases-side_by_side g l = 4 * length l.later.now + 2

abbrev pub decreases-side_by_side-there : goal.decreases-side_by_side-there
decreases-side_by_side-there g l = 4 * length l.later.now + 1
