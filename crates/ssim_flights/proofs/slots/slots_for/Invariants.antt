use Rattle.std.proofs.Common.{◌≤◌, ◌-◌, ◌*◌, length}
use Rattle.ssim_flights.specs.Slots.{AreSlotsOf}
use Rattle.ssim_flights.proofs.slots.slots_for.Given as goal

abbrev pub invariant-loop-n : goal.invariant-loop-n
invariant-loop-n l =
    (l.n ≤ length l.flights) × AreSlotsOf l.held l.flights l.n × (length l.held.entries.items ≤ 8 * (length l.flights - l.n))

abbrev pub decreases-loop-n : goal.decreases-loop-n
decreases-loop-n l = l.n
