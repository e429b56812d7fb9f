-- What a row says of a booking in one of the two seasons.
use Rattle.std.specs.Prelude.{ℕ, Option, Some, None}
use Rattle.ssim_flights.specs.declared.flight.Wanted.{Wanted}
use Rattle.seat_tables.specs.declared.cell.Cell.{Cell}
use Rattle.seat_tables.specs.declared.cell.Cell.TheVariants.{Number, Date, Stop, Letter, Flight, Nothing}
use Rattle.carry_tables.specs.declared.sides.Side.{Side}

-- ---- the name of its place; of one that the flights don't have nothing is known

abbrev pub designator_in : Option Wanted → Cell
designator_in None = Nothing
designator_in (Some name) = Flight name.airline name.number name.suffix

abbrev pub day_in : Option Wanted → Cell
day_in None = Nothing
day_in (Some name) = Date name.day

abbrev pub board_in : Option Wanted → Cell
board_in None = Nothing
board_in (Some name) = Stop name.board

abbrev pub off_in : Option Wanted → Cell
off_in None = Nothing
off_in (Some name) = Stop name.off

-- ---- a booking

-- its number, the name of its place, its class, whether it holds or waits, and its seats
abbrev pub side_of : ℕ → Option Wanted → ℕ → Cell → ℕ → Side
side_of n name letter status seats = record {
  number = Number n;
  designator = designator_in name;
  class = Letter letter;
  day = day_in name;
  board = board_in name;
  off = off_in name;
  status = status;
  seats = Number seats;
}

-- one that has no place
abbrev pub no_side : Side
no_side = record {
  number = Nothing;
  designator = Nothing;
  class = Nothing;
  day = Nothing;
  board = Nothing;
  off = Nothing;
  status = Nothing;
  seats = Nothing;
}
