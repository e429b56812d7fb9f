use Rattle.std.proofs.Common.{length}
use Rattle.seat_handing.proofs.judging.+judge_all.Given as goal

abbrev pub decreases-judge_all : goal.decreases-judge_all
decreases-judge_all l = length l.knowns.now
