-- The letters are the same, and one more of them is delivered each time.
use Rattle.std.proofs.Common.{◌≡◌, ◌-◌, length}
use Rattle.desk_pipes.proofs.post.Post.deliver_all.Given as goal

abbrev pub invariant-loop-underway : goal.invariant-loop-underway
invariant-loop-underway g l = l.underway.letters ≡ l.initial.underway.letters

abbrev pub decreases-loop-underway : goal.decreases-loop-underway
decreases-loop-underway g l = length l.underway.letters - l.underway.delivered
