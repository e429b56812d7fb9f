use Rattle.std.proofs.Common.{◌≡◌, ◌+◌, ◌-◌, ◌≤◌, length, Ok}
use Rattle.airline_base.specs.Reach.{reach}
use Rattle.ssim_records.specs.SetSteps.{next, fresh, IsCounted}
use Rattle.ssim_records.proofs.set_reading.read_records.Given as goal

abbrev pub invariant-loop-rest : goal.invariant-loop-rest
invariant-loop-rest l = record {
  reached : reach (next l.most) fresh l.bytes (l.nth - 1) ≡ Ok (l.reader, l.rest);
  from_one : 1 ≤ l.nth;
  below : l.nth + length l.rest ≤ length l.bytes + 1;
  counted : IsCounted l.most l.reader;
}

abbrev pub decreases-loop-rest : goal.decreases-loop-rest
decreases-loop-rest l = length l.rest
