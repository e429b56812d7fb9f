-- What is left to read goes on from the orders so far.
use Rattle.std.proofs.Common.{◌≡◌, ℕ, ◌+◌, ◌≤◌, List, [], length}
use Rattle.std.specs.List.{All}
use Rattle.seat_journal.specs.declared.entry.Work.{Work}
use Rattle.seat_reports.specs.LadderDesk.{orders_after}
use Rattle.seat_reports.specs.Lines.{lines_of}
use Rattle.seat_reports.specs.Orders.{IsOrder}
use Rattle.seat_reports.proofs.orders.read_orders.Given as goal

-- reading these lines from line 2 is reading the rest after these orders
pub record IsReadTo (texts : List (List ℕ)) (orders : List Work) (rest : List (List ℕ)) : Type 0 where
  pub same : orders_after 2 [] texts ≡ orders_after (length orders + 2) orders rest
  pub each : All IsOrder orders
  pub few : length orders ≤ 999999

abbrev pub invariant-loop-rest : goal.invariant-loop-rest
invariant-loop-rest l = IsReadTo (lines_of l.initial.rest) l.orders.items (lines_of l.rest)

abbrev pub decreases-loop-rest : goal.decreases-loop-rest
decreases-loop-rest l = length l.rest
