-- Texts of parts, the names of flights and legs, and the dated flights of a data set.
use Rattle.std.specs.Prelude.{◌≡◌, ◌≤◌, ℕ, ◌+◌, List, [], ◌∷◌, ◌++◌, length, decimal, codes, Option, Some, None}
use Rattle.airline_base.specs.Days.{IsDateText}
use Rattle.airline_base.specs.Fields.{suffix_text}
use Rattle.ssim_records.specs.SetText.{IsDataSet}
use Rattle.ssim_records.specs.declared.set.DataSet.{DataSet}
use Rattle.ssim_flights.specs.Flown.{dated_flights, first_fault}
use Rattle.ssim_flights.specs.Itineraries.{itineraries}
use Rattle.ssim_flights.specs.Schedules.{plan_of}
use Rattle.ssim_flights.specs.declared.fault.FlightFault.{FlightFault}
use Rattle.ssim_flights.specs.declared.fault.FlightKind.{FlightKind}
use Rattle.ssim_flights.specs.declared.fault.FlightKind.TheVariants as flight_kinds
use Rattle.ssim_flights.specs.declared.flight.DatedLeg.{DatedLeg}
use Rattle.ssim_flights.specs.declared.flight.Flight.{Flight as Flown}
use Rattle.seat_desk.specs.CheckDesk.{IsRefusedSet, most_set_bytes, most_records}
use Rattle.seat_desk.specs.declared.fault.DeskFault.{DeskFault}
use Rattle.seat_desk.specs.declared.fault.DeskFault.TheVariants.{Set, Flight, Memory}

-- the text is a part for each of these, in order, of which the first has the number n
abbrev pub IsText : {A : Type 0} → (ℕ → A → List ℕ → Type 0) → ℕ → List A → List ℕ → Type 0
IsText {A} IsPart n [] text = text ≡ []
IsText {A} IsPart n (x ∷ xs) text =
    (part rest : List ℕ) × IsPart n x part × (text ≡ part ++ rest) × IsText IsPart (n + 1) xs rest

-- such a text is written behind what was there
pub record IsPut {A : Type 0} (IsPart : ℕ → A → List ℕ → Type 0) (n : ℕ) (xs : List A) (old new : List ℕ) : Type 0 where
  pub part : List ℕ
  pub is_text : IsText IsPart n xs part
  pub written : new ≡ old ++ part

-- the airline, the number without leading zeros, and the suffix
abbrev pub designator_text : Flown → List ℕ
designator_text flight = flight.airline ++ decimal flight.number ++ suffix_text flight.suffix

-- INDEX and DESIGNATOR
abbrev pub head_text : ℕ → Flown → List ℕ
head_text index flight = decimal index ++ codes " " ++ designator_text flight

-- a blank and BOARD/DAY/OFF
abbrev pub IsLegText : ℕ → DatedLeg → List ℕ → Type 0
IsLegText n leg text = (day : List ℕ) × IsDateText leg.day day
    × (text ≡ codes " " ++ leg.board ++ codes "/" ++ day ++ codes "/" ++ leg.off)

-- ---- the flights of a data set

-- the most dated flights
abbrev pub most_flights : ℕ
most_flights = 100_000

-- the dated flights of a data set on these days, and the first fault of its itineraries
abbrev pub set_flights : DataSet → ℕ → ℕ → List Flown
set_flights set first days = dated_flights (plan_of set.carrier first days most_flights) (itineraries set.legs)

abbrev pub flights_fault : DataSet → ℕ → ℕ → Option FlightFault
flights_fault set first days = first_fault (plan_of set.carrier first days most_flights) (itineraries set.legs)

-- the bytes are a data set whose itineraries have no fault on these days, and these are its dated flights
pub record IsSchedule (bytes : List ℕ) (first days : ℕ) (flights : List Flown) : Type 0 where
  pub set : DataSet
  pub is_set : IsDataSet most_records bytes set
  pub right : flights_fault set first days ≡ None
  pub are_flights : flights ≡ set_flights set first days

-- the bytes are a data set with this fault
pub record HasFlightFault (bytes : List ℕ) (first days : ℕ) (fault : FlightFault) : Type 0 where
  pub set : DataSet
  pub is_set : IsDataSet most_records bytes set
  pub wrong : flights_fault set first days ≡ Some fault

-- the fault is the first: of the bytes, which are no data set, or of the itineraries
abbrev pub IsRefusedSchedule : ℕ → ℕ → DeskFault → List ℕ → Type 0
IsRefusedSchedule first days (Set fault) bytes = IsRefusedSet (Set fault) bytes
IsRefusedSchedule first days (Flight fault) bytes = HasFlightFault bytes first days fault
IsRefusedSchedule first days _ bytes = ⊥

-- the desk's fault for one of the expansion
abbrev pub expansion_fault_of : FlightKind → FlightFault → DeskFault
expansion_fault_of flight_kinds.Memory fault = Memory
expansion_fault_of _ fault = Flight fault

abbrev pub expansion_fault : FlightFault → DeskFault
expansion_fault fault = expansion_fault_of fault.kind fault

-- and there are no flights
abbrev pub HasNoSchedule : ℕ → ℕ → List ℕ → Type 0
HasNoSchedule first days bytes = (flights : List Flown) → IsSchedule bytes first days flights → ⊥

-- the bytes are not too large, but they are refused
pub record IsUnscheduled (first days : ℕ) (fault : DeskFault) (bytes : List ℕ) : Type 0 where
  pub within : length bytes ≤ most_set_bytes
  pub refused : IsRefusedSchedule first days fault bytes
  pub none : HasNoSchedule first days bytes
