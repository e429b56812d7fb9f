-- What was read and what is left give the scripts of the whole.
use Rattle.std.proofs.Common.{◌≡◌, ◌-◌, length}
use Rattle.seat_seal.specs.Reading.{items_in, script_line_at, scripts_at}
use Rattle.seat_seal.proofs.reading.scripts_at.Given as goal

abbrev pub invariant-loop : goal.invariant-loop
invariant-loop l = record {
  counted : length l.scripts ≡ l.counter;
  kept : items_in script_line_at (8 - l.counter) l.scripts l.rest ≡ scripts_at l.bytes;
}
