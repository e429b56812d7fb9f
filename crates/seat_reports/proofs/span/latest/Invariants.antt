use Rattle.std.proofs.Common.{◌≡◌, length}
use Rattle.seat_reports.specs.Span.{latest}
use Rattle.seat_reports.proofs.span.latest.Given as goal

abbrev pub invariant-loop-rest : goal.invariant-loop-rest
invariant-loop-rest l = latest l.carrier l.day l.rest ≡ latest l.carrier l.fn.first l.legs

abbrev pub decreases-loop-rest : goal.decreases-loop-rest
decreases-loop-rest l = length l.rest
