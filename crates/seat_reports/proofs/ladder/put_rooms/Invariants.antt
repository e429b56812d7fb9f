-- The rooms so far are written.
use Rattle.std.proofs.Common.{◌≡◌, ◌++◌, List, take}
use Rattle.std.specs.List.{flat_map}
use Rattle.seat_journal.specs.declared.entry.Entry.{Entry}
use Rattle.seat_rules.specs.Journal.{replay}
use Rattle.seat_core.specs.Balances.{grid_of, Leave}
use Rattle.seat_reports.specs.LadderDesk.{room_text}
use Rattle.seat_reports.proofs.ladder.put_rooms.Given as goal

abbrev pub invariant-loop-step : goal.invariant-loop-step
invariant-loop-step l =
    (past : List Entry) → Leave past l.balance
    → l.text.items ≡ l.initial.text.items ++ flat_map (room_text (replay (grid_of l.balance) past)) (take l.step-index l.steps)
