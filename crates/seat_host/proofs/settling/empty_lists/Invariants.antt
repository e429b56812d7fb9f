use Rattle.std.proofs.Common.{◌≡◌, length}
use Rattle.seat_host.proofs.settling.empty_lists.Given as goal

abbrev pub invariant-loop-number : goal.invariant-loop-number
invariant-loop-number l = length l.lists.items ≡ l._number
