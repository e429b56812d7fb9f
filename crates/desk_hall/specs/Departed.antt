-- What a host closes by itself behind a day of the manager's: each leg that departed before it, and has a class open still.
use Rattle.std.specs.Prelude.{◌≡◌, ℕ, ◌+◌, ◌&&◌, nat_lt, Bool, true, false, if◌then◌else◌, List, [], ◌∷◌, ◌++◌, map, Option, None, All}
use Rattle.desk_hall.specs.Halls.{Hallful}
use Rattle.desk_hall.specs.Planning.{control_asked}
use Rattle.desk_hall.specs.declared.turn.Turn.{Turn}
use Rattle.desk_hall.specs.declared.turn.Turn.TheVariants.{Stands}
use Rattle.seat_journal.specs.declared.entry.Control.{Control}
use Rattle.seat_journal.specs.declared.entry.Control.TheVariants.{ToSale}
use Rattle.seat_journal.specs.declared.entry.Entry.{Entry}
use Rattle.seat_nesting.specs.Nesting.{Ladders, Steps, ladder_at}
use Rattle.seat_replies.specs.Changes.{IsOnLeg}
use Rattle.seat_rules.specs.Journal.{replay}
use Rattle.seat_serving.specs.Answering.{behind}
use Rattle.ssim_flights.specs.declared.flight.DatedLeg.{DatedLeg}
use Rattle.ssim_flights.specs.declared.flight.Flight.{Flight as Flown}

-- the manager gave a day: it is told where it stands on the one that holds
abbrev pub gives_day : Turn → Bool
gives_day (Stands day epoch) = true
gives_day turn = false

-- and nothing else was heard
abbrev pub is_day_given : List Turn → Bool
is_day_given [] = false
is_day_given (turn ∷ []) = gives_day turn
is_day_given (turn ∷ more ∷ turns) = false

-- a class of these steps is open
abbrev pub has_open : Steps → Bool
has_open [] = false
has_open (s ∷ steps) = if s.closed then has_open steps else true

-- all that a leg has is closed
abbrev pub closing : ℕ → ℕ → Control
closing flight leg = ToSale (record { flight = flight; leg = leg; class = None; closed = true })

-- it departed before this day, and has a class open by these limits
abbrev pub is_left_open : Ladders → ℕ → ℕ → ℕ → DatedLeg → Bool
is_left_open limits today flight leg l = nat_lt l.day today && has_open (ladder_at limits flight leg)

-- a closing for each such leg of flight n, from this leg on
abbrev pub closings_on : Ladders → ℕ → ℕ → ℕ → List DatedLeg → List Control
closings_on limits today flight leg [] = []
closings_on limits today flight leg (l ∷ legs) =
    (if is_left_open limits today flight leg l then closing flight leg ∷ [] else []) ++ closings_on limits today flight (leg + 1) legs

-- and of each flight, from flight n on
abbrev pub closings_from : Ladders → ℕ → ℕ → List Flown → List Control
closings_from limits today n [] = []
closings_from limits today n (f ∷ flights) = closings_on limits today n 0 f.legs ++ closings_from limits today (n + 1) flights

-- each of these is set on a leg of the flights
pub record AreOnLegs (flights : List Flown) (controls : List Control) : Type 0 where
  pub each : All (IsOnLeg flights) controls

-- before the day of the host, by the limits after all the lines that are there
abbrev pub closings : {D : Type 0} → Hallful D → List Control
closings hall = closings_from (replay hall.serving.grid hall.serving.journal).grid hall.today 0 hall.flights

-- ---- a law

-- the limits behind the lines that these make
abbrev pub limits_behind : Ladders → List Entry → List Control → Ladders
limits_behind grid journal controls = (replay grid (behind grid journal (map control_asked controls))).grid

-- behind the lines that the closings make none is left to be made
abbrev pub ClosingsCloseAll : Type 0
ClosingsCloseAll = (grid : Ladders) (journal : List Entry) (today : ℕ) (flights : List Flown)
    → closings_from (limits_behind grid journal (closings_from (replay grid journal).grid today 0 flights)) today 0 flights ≡ []
