-- The table of rooms: a row for each class of each place that is kept and that a request finds.
use Rattle.std.specs.Prelude.{ℕ, List, [], ◌∷◌, codes, drop}
use Rattle.airline_base.specs.declared.place.Place.{Place}
use Rattle.ssim_flights.specs.declared.flight.DatedLeg.{DatedLeg}
use Rattle.ssim_flights.specs.declared.flight.Flight.{Flight as Flown}
use Rattle.seat_journal.specs.declared.entry.Entry.{Entry}
use Rattle.seat_nesting.specs.Nesting.{Ladders, ladder_at}
use Rattle.seat_nesting.specs.declared.ladder.Step.{Step}
use Rattle.seat_rules.specs.Journal.{replay}
use Rattle.seat_rules.specs.Sequential.{State, room_left}
use Rattle.seat_questions.specs.Rooms.{is_shown, place_of, run_of}
use Rattle.seat_questions.specs.declared.rooms.RoomsOf.{RoomsOf}
use Rattle.seat_tables.specs.Rows.{rows_from}
use Rattle.seat_tables.specs.declared.cell.Cell.{Cell}
use Rattle.seat_tables.specs.declared.cell.Cell.TheVariants.{Number, Date, Stop, Letter, Flight}
use Rattle.table_questions.specs.Tables.{kept_rows}

abbrev pub room_names : List (List ℕ)
room_names =
    codes "flight" ∷ codes "designator" ∷ codes "day" ∷ codes "board" ∷ codes "off" ∷ codes "class" ∷ codes "room" ∷ []

-- a class of the place's first leg, and its room on the place
abbrev pub room_row : State → Flown → Place → DatedLeg → Step → List Cell
room_row s flight place run step =
    Number place.flight ∷ Flight flight.airline flight.number flight.suffix ∷ Date run.day ∷ Stop run.board ∷ Stop run.off
    ∷ Letter step.class ∷ Number (room_left s place step.class) ∷ []

abbrev pub class_rooms : State → Flown → Place → DatedLeg → ℕ → Step → List (List Cell)
class_rooms s flight place run k step = room_row s flight place run step ∷ []

-- in the order of the ladder
abbrev pub place_rooms : List Flown → RoomsOf → State → Flown → Place → DatedLeg → List (List Cell)
place_rooms flights asked s flight place run =
    kept_rows (is_shown flights asked flight place run)
    (rows_from (class_rooms s flight place run) 0 (ladder_at s.grid place.flight place.from))

-- the place that ends with this leg
abbrev pub last_rooms : List Flown → RoomsOf → State → ℕ → Flown → ℕ → DatedLeg → ℕ → DatedLeg → List (List Cell)
last_rooms flights asked s i flight from first to last =
    place_rooms flights asked s flight (place_of i from to) (run_of first last)

-- the places that begin with this leg
abbrev pub first_rooms : List Flown → RoomsOf → State → ℕ → Flown → ℕ → DatedLeg → List (List Cell)
first_rooms flights asked s i flight from first =
    rows_from (last_rooms flights asked s i flight from first) from (drop from flight.legs)

abbrev pub flight_rooms : List Flown → RoomsOf → State → ℕ → Flown → List (List Cell)
flight_rooms flights asked s i flight = rows_from (first_rooms flights asked s i flight) 0 flight.legs

-- by flight, first leg and last leg, counted from 0
abbrev pub room_rows : RoomsOf → List Flown → Ladders → List Entry → List (List Cell)
room_rows asked flights grid journal = rows_from (flight_rooms flights asked (replay grid journal)) 0 flights
