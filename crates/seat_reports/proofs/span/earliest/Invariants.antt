use Rattle.std.proofs.Common.{◌≡◌, length}
use Rattle.seat_reports.specs.Span.{earliest}
use Rattle.seat_reports.proofs.span.earliest.Given as goal

abbrev pub invariant-loop-rest : goal.invariant-loop-rest
invariant-loop-rest l = earliest l.day l.rest ≡ earliest l.fn.first l.legs

abbrev pub decreases-loop-rest : goal.decreases-loop-rest
decreases-loop-rest l = length l.rest
