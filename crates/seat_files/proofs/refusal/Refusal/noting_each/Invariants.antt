-- The fault stays.
use Rattle.std.proofs.Common.{◌≡◌}
use Rattle.seat_files.proofs.refusal.Refusal.noting_each.Given as goal

abbrev pub invariant-loop-input : goal.invariant-loop-input
invariant-loop-input l = l.refusal.fault ≡ l.fn.self.fault
