-- The orders so far are answered.
use Rattle.seat_core.specs.Balances.{grid_of}
use Rattle.seat_reports.proofs.Answering.{IsAnsweredTo}
use Rattle.seat_reports.proofs.ladder.put_replies.Given as goal

abbrev pub invariant-loop-order : goal.invariant-loop-order
invariant-loop-order l = IsAnsweredTo (grid_of l.initial.balance) l.orders l.order-index l.initial.text.items l.text.items l.balance
