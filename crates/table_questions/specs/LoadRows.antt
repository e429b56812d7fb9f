-- The table of loads: a row for each class of each leg that is kept, from the highest down.
use Rattle.std.specs.Prelude.{ℕ, ◌+◌, List, [], ◌∷◌, codes, drop}
use Rattle.ssim_flights.specs.declared.flight.DatedLeg.{DatedLeg}
use Rattle.ssim_flights.specs.declared.flight.Flight.{Flight as Flown}
use Rattle.seat_journal.specs.declared.entry.Entry.{Entry}
use Rattle.seat_nesting.specs.Nesting.{Ladders, Steps, held_from, ladder_at}
use Rattle.seat_nesting.specs.declared.ladder.Step.{Step}
use Rattle.seat_rules.specs.Bookings.{held, waiting}
use Rattle.seat_rules.specs.Journal.{replay}
use Rattle.seat_rules.specs.Sequential.{State, room_left}
use Rattle.seat_questions.specs.Why.{one_leg}
use Rattle.seat_lists.specs.Picking.{keeps_flight}
use Rattle.seat_loads.specs.Legs.{is_kept, share}
use Rattle.seat_loads.specs.declared.loads.LoadsOf.{LoadsOf}
use Rattle.seat_tables.specs.Rows.{rows_from}
use Rattle.seat_tables.specs.declared.cell.Cell.{Cell}
use Rattle.seat_tables.specs.declared.cell.Cell.TheVariants.{Number, Date, Stop, Letter, Flight}
use Rattle.table_questions.specs.Tables.{kept_rows}

abbrev pub load_names : List (List ℕ)
load_names =
    codes "flight" ∷ codes "designator" ∷ codes "day" ∷ codes "board" ∷ codes "off" ∷ codes "rank" ∷ codes "class"
    ∷ codes "limit" ∷ codes "held" ∷ codes "share" ∷ codes "room" ∷ codes "waiting" ∷ codes "may_wait" ∷ []

-- a class of a leg by its rank: its limit, the seats that are held in it and those below, what part of the limit that is, its room on this
-- leg alone, and the seats that wait in it of those that may
abbrev pub load_row : State → ℕ → Flown → ℕ → DatedLeg → ℕ → ℕ → Step → List Cell
load_row s i flight j leg rank seats step =
    Number i ∷ Flight flight.airline flight.number flight.suffix ∷ Date leg.day ∷ Stop leg.board ∷ Stop leg.off
    ∷ Number rank ∷ Letter step.class ∷ Number step.limit ∷ Number seats ∷ Number (share seats step.limit)
    ∷ Number (room_left s (one_leg i j) step.class) ∷ Number (waiting s.bookings i j step.class) ∷ Number step.wait ∷ []

-- the class behind so many higher ones
abbrev pub class_rows : State → ℕ → Flown → ℕ → DatedLeg → ℕ → Step → List (List Cell)
class_rows s i flight j leg k step =
    load_row s i flight j leg (k + 1) (held_from (held s.bookings i j) (drop k (ladder_at s.grid i j))) step ∷ []

abbrev pub leg_rows : LoadsOf → State → ℕ → Flown → ℕ → DatedLeg → List (List Cell)
leg_rows asked s i flight j leg =
    kept_rows (is_kept asked leg) (rows_from (class_rows s i flight j leg) 0 (ladder_at s.grid i j))

abbrev pub flight_rows : LoadsOf → State → ℕ → Flown → List (List Cell)
flight_rows asked s i flight =
    kept_rows (keeps_flight asked.flight flight) (rows_from (leg_rows asked s i flight) 0 flight.legs)

-- by flight and leg, counted from 0
abbrev pub load_rows : LoadsOf → List Flown → Ladders → List Entry → List (List Cell)
load_rows asked flights grid journal = rows_from (flight_rows asked (replay grid journal)) 0 flights
