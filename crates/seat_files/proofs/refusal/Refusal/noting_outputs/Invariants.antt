-- The fault stays.
use Rattle.std.proofs.Common.{◌≡◌}
use Rattle.seat_files.proofs.refusal.Refusal.noting_outputs.Given as goal

abbrev pub invariant-loop-output : goal.invariant-loop-output
invariant-loop-output l = l.refusal.fault ≡ l.fn.self.fault
