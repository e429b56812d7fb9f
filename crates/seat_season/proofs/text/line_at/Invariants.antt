use Rattle.std.proofs.Common.{◌≡◌, length}
use Rattle.std.proofs.Common.{◌+◌, ◌≤◌, take}
use Rattle.seat_season.specs.Text.{line_ends}
use Rattle.seat_season.proofs.text.line_at.Given as goal

abbrev pub invariant-loop-rest : goal.invariant-loop-rest
invariant-loop-rest l = (l.line + line_ends l.rest ≡ 1 + line_ends (take l.place l.text)) × (l.line + length l.rest ≤ 65537)

abbrev pub decreases-loop-rest : goal.decreases-loop-rest
decreases-loop-rest l = length l.rest
