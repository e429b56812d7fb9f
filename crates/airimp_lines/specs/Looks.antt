-- What a look names: a class of a flight on a day between two stations, or a day and two stations alone.
use Rattle.std.specs.Prelude.{◌≡◌, ◌≤◌, ℕ, ◌==◌, if◌then◌else◌, IsTrue, List, length, Option, Some, None}
use Rattle.airline_base.specs.Names.{is_airline, is_station}
use Rattle.airline_base.specs.Fields.{◌>>=◌, byte_at, fixed_at, numeral_at}
use Rattle.airimp_lines.specs.Fields.{day_at, in_month, letters_at}
use Rattle.airimp_lines.specs.Grammar.{IsNextDate}
use Rattle.airimp_lines.specs.declared.look.Look.{Look}
use Rattle.airimp_lines.specs.declared.look.UndatedLook.{UndatedLook}

-- a day that some year has
pub record IsSomeDay (day month : ℕ) : Type 0 where
  pub low : 1 ≤ month
  pub high : month ≤ 12
  pub there : IsTrue (in_month day month)

-- DDMMM, a blank, board and off point, and nothing behind
unfoldable pub pair_look_at : List ℕ → Option UndatedLook
pair_look_at bytes = do
  day ← day_at bytes
  pair ← byte_at 32 day.1
  board ← fixed_at 3 is_station pair
  off ← fixed_at 3 is_station board.1
  if length off.1 == 0
      then Some (record { flight = None; day = day.0.0; month = day.0.1; board = board.0; off = off.0 })
      else None

-- airline, number, suffix and class ahead of that
unfoldable pub class_look_at : List ℕ → Option UndatedLook
class_look_at bytes = do
  airline ← fixed_at 2 is_airline bytes
  number ← numeral_at 4 airline.1
  letters ← letters_at number.1
  pair ← pair_look_at letters.1
  Some (record pair {
    flight = Some (record {
      airline = airline.0;
      number = number.0;
      suffix = letters.0.0;
      class = letters.0.1;
    });
  })

abbrev pub first_of : Option UndatedLook → Option UndatedLook → Option UndatedLook
first_of None other = other
first_of (Some look) other = Some look

-- what begins with a day names no flight
abbrev pub look_at : List ℕ → Option UndatedLook
look_at bytes = first_of (pair_look_at bytes) (class_look_at bytes)

-- the look without its year
abbrev pub undated_of : ℕ → ℕ → Look → UndatedLook
undated_of day month look =
    record { flight = look.flight; day = day; month = month; board = look.board; off = look.off }

-- the text names this look for that day of reference
pub record NamesLook (today : ℕ) (text : List ℕ) (look : Look) : Type 0 where
  pub day : ℕ
  pub month : ℕ
  pub date : IsNextDate today day month look.day
  pub named : look_at text ≡ Some (undated_of day month look)
