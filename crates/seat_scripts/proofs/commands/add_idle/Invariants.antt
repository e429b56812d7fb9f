-- The lists so far, with as many of nothing as are left, are all.
use Rattle.std.proofs.Common.{◌≡◌, ◌++◌, ◌-◌, length}
use Rattle.seat_replies.specs.Going.{idle}
use Rattle.seat_scripts.proofs.commands.add_idle.Given as goal

abbrev pub invariant-loop-alloc : goal.invariant-loop-alloc
invariant-loop-alloc l = l.lists.items ++ idle (l.sessions - length l.lists.items) ≡ l.initial.lists.items ++ idle (l.sessions - length l.initial.lists.items)

abbrev pub decreases-loop-alloc : goal.decreases-loop-alloc
decreases-loop-alloc l = l.sessions - length l.lists.items
