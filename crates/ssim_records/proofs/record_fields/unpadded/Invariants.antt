use Rattle.std.proofs.Common.{◌≡◌, ◌==◌, drop, length}
use Rattle.std.specs.List.{prefix_len}
use Rattle.ssim_records.proofs.record_fields.unpadded.Given as goal

abbrev pub invariant-loop-rest : goal.invariant-loop-rest
invariant-loop-rest l = drop (prefix_len (λ c. c == 32) l.rest) l.rest ≡ drop (prefix_len (λ c. c == 32) l.text) l.text

abbrev pub decreases-loop-rest : goal.decreases-loop-rest
decreases-loop-rest l = length l.rest
