-- Reading a segment line from left to right, with the first fault that is met.
use Rattle.std.specs.Prelude.{ℕ, ◌&&◌, nat_le, List, length, Result, Ok}
use Rattle.airline_base.specs.Names.{is_airline, is_station, is_code}
use Rattle.airimp_lines.specs.declared.fault.LineFault.{LineFault}
use Rattle.airimp_lines.specs.declared.fault.LineFault.TheVariants as faults
use Rattle.airimp_lines.specs.declared.segment.Undated.{Undated}
use Rattle.airline_base.specs.Chains.{◌>>=◌, want, check}
use Rattle.airline_base.specs.Fields.{fixed_at, byte_at, numeral_at}
use Rattle.airimp_lines.specs.Fields.{letters_at, day_at, is_tail}

-- the pair, the code, the seats and the tail
unfoldable pub asked_at : List ℕ → Result (List ℕ × List ℕ × List ℕ × ℕ) LineFault
asked_at bytes = do
  pair ← want faults.Pair (byte_at 32 bytes)
  board ← want faults.Pair (fixed_at 3 is_station pair)
  off ← want faults.Pair (fixed_at 3 is_station board.1)
  action ← want faults.Code (byte_at 32 off.1)
  code ← want faults.Code (fixed_at 2 is_code action)
  seats ← want faults.Seats (numeral_at 3 code.1)
  _ ← check faults.Tail (is_tail seats.1)
  Ok (board.0, off.0, code.0, seats.0)

-- the whole line
unfoldable pub undated_at : List ℕ → Result Undated LineFault
undated_at line = do
  _ ← check faults.Length (nat_le 20 (length line) && nat_le (length line) 69)
  airline ← want faults.Airline (fixed_at 2 is_airline line)
  number ← want faults.Number (numeral_at 4 airline.1)
  letters ← want faults.Class (letters_at number.1)
  day ← want faults.Day (day_at letters.1)
  asked ← asked_at day.1
  Ok (record {
    airline = airline.0;
    number = number.0;
    suffix = letters.0.0;
    class = letters.0.1;
    day = day.0.0;
    month = day.0.1;
    board = asked.0;
    off = asked.1;
    code = asked.2;
    seats = asked.3;
  })
