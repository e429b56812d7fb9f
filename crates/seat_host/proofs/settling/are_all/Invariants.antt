use Rattle.std.proofs.Common.{◌≡◌}
use Rattle.seat_host.specs.Settling.{has_up_to}
use Rattle.seat_host.proofs.settling.are_all.Given as goal

abbrev pub invariant-loop-below : goal.invariant-loop-below
invariant-loop-below g l = l.all ≡ has_up_to l.below l.sessions
