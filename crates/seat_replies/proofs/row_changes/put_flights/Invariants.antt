-- What was put, and what is left to put.
use Rattle.std.proofs.Common.{◌≡◌, ◌++◌, drop}
use Rattle.seat_replies.proofs.DayLegs.{on_numbers}
use Rattle.seat_replies.proofs.row_changes.put_flights.Given as goal

abbrev pub invariant-loop-number : goal.invariant-loop-number
invariant-loop-number l =
    l.all.items ++ on_numbers l.row l.flights (drop l.number-index l.numbers) ≡ l.initial.all.items ++ on_numbers l.row l.flights l.numbers
