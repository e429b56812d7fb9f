use Rattle.std.proofs.Common.{◌≡◌, length}
use Rattle.std.proofs.Common.{◌+◌}
use Rattle.std.specs.List.{prefix_len}
use Rattle.seat_season.specs.Line.{texts}
use Rattle.seat_season.specs.Options.{is_option}
use Rattle.seat_season.proofs.line.options_ahead.Given as goal

abbrev pub invariant-loop-rest : goal.invariant-loop-rest
invariant-loop-rest l = (l.count + prefix_len is_option (texts l.rest) ≡ prefix_len is_option (texts l.words)) × (l.count + length l.rest ≡ length l.words)

abbrev pub decreases-loop-rest : goal.decreases-loop-rest
decreases-loop-rest l = length l.rest
