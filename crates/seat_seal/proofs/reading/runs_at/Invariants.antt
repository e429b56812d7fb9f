-- What was read and what is left give the runs of the whole.
use Rattle.std.proofs.Common.{◌≡◌, ◌-◌, length}
use Rattle.seat_seal.specs.Reading.{items_in, run_at, runs_at}
use Rattle.seat_seal.specs.Text.{most_runs}
use Rattle.seat_seal.proofs.reading.runs_at.Given as goal

abbrev pub invariant-loop : goal.invariant-loop
invariant-loop l = record {
  counted : length l.runs ≡ l.counter;
  kept : items_in run_at (most_runs - l.counter) l.runs l.rest ≡ runs_at l.bytes;
}
