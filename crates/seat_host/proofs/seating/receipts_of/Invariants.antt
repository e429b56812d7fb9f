use Rattle.std.proofs.Common.{take}
use Rattle.seat_rules.specs.Histories.{of_session}
use Rattle.seat_host.specs.Sessions.{KeepsLines}
use Rattle.seat_host.proofs.seating.receipts_of.Given as goal

abbrev pub invariant-loop-line : goal.invariant-loop-line
invariant-loop-line l = KeepsLines l.receipts (of_session l.session (take l.line-index l.lines))
