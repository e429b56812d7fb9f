-- What a look at the seats that are left is answered.
use Rattle.std.specs.Prelude.{◌≡◌, ℕ, ◌==◌, Bool, true, false, List, [], ◌∷◌, ◌++◌, length, codes, decimal, Option, Some, None}
use Rattle.std.specs.List.{flat_map}
use Rattle.airline_base.specs.Days.{IsDateText}
use Rattle.airline_base.specs.Fields.{suffix_text}
use Rattle.airline_base.specs.declared.place.Place.{Place}
use Rattle.airimp_lines.specs.declared.look.FlightClass.{FlightClass}
use Rattle.airimp_lines.specs.declared.look.Look.{Look}
use Rattle.ssim_flights.specs.Places.{place_wanted}
use Rattle.ssim_flights.specs.declared.flight.Flight.{Flight as Flown}
use Rattle.ssim_flights.specs.declared.flight.Wanted.{Wanted}
use Rattle.seat_journal.specs.declared.entry.Entry.{Entry}
use Rattle.seat_desk.specs.FlightsDesk.{designator_text, IsText}
use Rattle.seat_nesting.specs.Nesting.{Ladders, ladder_at}
use Rattle.seat_nesting.specs.declared.ladder.Step.{Step}
use Rattle.seat_rules.specs.Journal.{replay}
use Rattle.seat_rules.specs.Sequential.{State, room_left}

-- the flight, the day and the two stations that are looked at
abbrev pub wanted_at : FlightClass → Look → Wanted
wanted_at flight look = record {
  airline = flight.airline;
  number = flight.number;
  suffix = flight.suffix;
  day = look.day;
  board = look.board;
  off = look.off;
}

-- the class and the seats that are left on a place; - where no flight serves what is looked at
abbrev pub left_text : State → Option Place → ℕ → List ℕ
left_text state (Some place) class = (class ∷ []) ++ decimal (room_left state place class)
left_text state None class = codes "-"

-- airline, number and suffix
abbrev pub flight_text : FlightClass → List ℕ
flight_text flight = flight.airline ++ decimal flight.number ++ suffix_text flight.suffix

-- LOOK, how many lines were seen, the flight, the day and the stations
pub record IsAhead (count : ℕ) (look : Look) (flight text : List ℕ) : Type 0 where
  pub day : List ℕ
  pub is_day : IsDateText look.day day
  pub written : text ≡ codes "LOOK " ++ decimal count ++ codes " " ++ flight ++ codes " " ++ day ++ codes " "
      ++ look.board ++ look.off

-- and then the seats that are left in a class where so many lines leave this
pub record IsLookLine (flights : List Flown) (state : State) (count : ℕ) (flight : FlightClass) (look : Look)
    (text : List ℕ) : Type 0 where
  pub ahead : List ℕ
  pub is_ahead : IsAhead count look (flight_text flight) ahead
  pub written : text ≡ ahead ++ codes " "
      ++ left_text state (place_wanted flights (wanted_at flight look)) flight.class ++ codes "\n"

-- ---- each flight of a day

-- the day and the two stations that are looked at, on this flight
abbrev pub wanted_on : Flown → Look → Wanted
wanted_on flight look = record {
  airline = flight.airline;
  number = flight.number;
  suffix = flight.suffix;
  day = look.day;
  board = look.board;
  off = look.off;
}

-- a blank, a class and the seats that are left in it on a place
abbrev pub class_text : State → Place → Step → List ℕ
class_text state place step = codes " " ++ (step.class ∷ []) ++ decimal (room_left state place step.class)

-- those of each class that the place's first leg has, in the order of its ladder
abbrev pub classes_text : Ladders → State → Place → List ℕ
classes_text grid state place = flat_map (class_text state place) (ladder_at grid place.flight place.from)

-- the line of a place of a flight
pub record IsPlaceLine (grid : Ladders) (state : State) (count : ℕ) (look : Look) (flight : Flown) (place : Place)
    (text : List ℕ) : Type 0 where
  pub ahead : List ℕ
  pub is_ahead : IsAhead count look (designator_text flight) ahead
  pub written : text ≡ ahead ++ classes_text grid state place ++ codes "\n"

-- none where it is another flight's place
abbrev pub IsOwnLine : Ladders → State → ℕ → Look → Flown → Place → Bool → List ℕ → Type 0
IsOwnLine grid state count look flight place true text = IsPlaceLine grid state count look flight place text
IsOwnLine grid state count look flight place false text = text ≡ []

abbrev pub IsFoundLine : Ladders → State → ℕ → Look → ℕ → Flown → Option Place → List ℕ → Type 0
IsFoundLine grid state count look i flight (Some place) text =
    IsOwnLine grid state count look flight place (place.flight == i) text
IsFoundLine grid state count look i flight None text = text ≡ []

-- the line of flight i: a request for what is looked at on it is answered from a place of its own
abbrev pub IsFlightLine : List Flown → Ladders → State → ℕ → Look → ℕ → Flown → List ℕ → Type 0
IsFlightLine flights grid state count look i flight text =
    IsFoundLine grid state count look i flight (place_wanted flights (wanted_on flight look)) text

-- of no flight
pub record IsNoneLine (count : ℕ) (look : Look) (text : List ℕ) : Type 0 where
  pub ahead : List ℕ
  pub is_ahead : IsAhead count look (codes "-") ahead
  pub written : text ≡ ahead ++ codes " -\n"

-- the lines, or where there are none that of no flight
abbrev pub IsSaidOf : ℕ → Look → List ℕ → List ℕ → Type 0
IsSaidOf count look [] text = IsNoneLine count look text
IsSaidOf count look (c ∷ lines) text = text ≡ c ∷ lines

-- the lines of all flights, counted from 0
pub record IsDayLook (flights : List Flown) (grid : Ladders) (state : State) (count : ℕ) (look : Look) (text : List ℕ)
    : Type 0 where
  pub lines : List ℕ
  pub are_lines : IsText (IsFlightLine flights grid state count look) 0 flights lines
  pub said : IsSaidOf count look lines text

-- ---- the whole

-- a class of a flight is looked at, or each class of each flight of a day, where so many lines leave this
abbrev pub IsSeen : List Flown → Ladders → State → ℕ → Option FlightClass → Look → List ℕ → Type 0
IsSeen flights grid state count (Some flight) look text = IsLookLine flights state count flight look text
IsSeen flights grid state count None look text = IsDayLook flights grid state count look text

-- after the lines of a journal
abbrev pub IsLooked : List Flown → Ladders → List Entry → Look → List ℕ → Type 0
IsLooked flights grid journal look text =
    IsSeen flights grid (replay grid journal) (length journal) look.flight look text
