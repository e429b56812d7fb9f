-- What `loads` writes: a line for each leg that is kept, and one of sums.
use Rattle.std.specs.Prelude.{◌≡◌, ℕ, Bool, true, false, List, [], ◌∷◌, ◌++◌, Option}
use Rattle.ssim_flights.specs.declared.flight.DatedLeg.{DatedLeg}
use Rattle.ssim_flights.specs.declared.flight.Flight.{Flight as Flown}
use Rattle.seat_rules.specs.Sequential.{State}
use Rattle.seat_desk.specs.FlightsDesk.{IsLegText, IsText, head_text}
use Rattle.seat_questions.specs.Rooms.{bars_text}
use Rattle.seat_questions.specs.Why.{one_leg}
use Rattle.seat_questions.specs.declared.rooms.Bars.{Bars}
use Rattle.seat_lists.specs.Picking.{keeps_flight}
use Rattle.seat_loads.specs.Legs.{is_kept, standing_text}
use Rattle.seat_loads.specs.Sums.{AreSums, sums_text}
use Rattle.seat_loads.specs.declared.loads.LoadsOf.{LoadsOf}
use Rattle.seat_loads.specs.declared.sums.Sums.{Sums}

-- INDEX DESIGNATOR BOARD/DAY/OFF, and how the leg stands, and its bars below where they are asked for
pub record IsLegLine (bars : Option Bars) (s : State) (i : ℕ) (flight : Flown) (j : ℕ) (leg : DatedLeg) (text : List ℕ) : Type 0 where
  pub way : List ℕ
  pub is_way : IsLegText 0 leg way
  pub written : text ≡ (head_text i flight ++ way ++ standing_text s i j ++ 10 ∷ []) ++ bars_text bars s (one_leg i j)

abbrev pub IsLegPartBy : Bool → Option Bars → State → ℕ → Flown → ℕ → DatedLeg → List ℕ → Type 0
IsLegPartBy true bars s i flight j leg text = IsLegLine bars s i flight j leg text
IsLegPartBy false bars s i flight j leg text = text ≡ []

-- the line of a leg, where it is kept
abbrev pub IsLegPart : LoadsOf → State → ℕ → Flown → ℕ → DatedLeg → List ℕ → Type 0
IsLegPart asked s i flight j leg text = IsLegPartBy (is_kept asked leg) asked.bars s i flight j leg text

-- such a text is written behind what was there
pub record IsPutBehind (IsPart : List ℕ → Type 0) (old new : List ℕ) : Type 0 where
  pub part : List ℕ
  pub is_part : IsPart part
  pub written : new ≡ old ++ part

abbrev pub IsFlightPartBy : Bool → LoadsOf → State → ℕ → Flown → List ℕ → Type 0
IsFlightPartBy true asked s i flight text = IsText (IsLegPart asked s i flight) 0 flight.legs text
IsFlightPartBy false asked s i flight text = text ≡ []

-- the legs of a flight, where it is kept
abbrev pub IsFlightPart : LoadsOf → State → ℕ → Flown → List ℕ → Type 0
IsFlightPart asked s i flight text = IsFlightPartBy (keeps_flight asked.flight flight) asked s i flight text

-- those of all flights, flights and legs counted from 0, and the sums
pub record IsLoadsText (asked : LoadsOf) (s : State) (flights : List Flown) (text : List ℕ) : Type 0 where
  pub lines : List ℕ
  pub are_lines : IsText (IsFlightPart asked s) 0 flights lines
  pub sums : Sums
  pub are_sums : AreSums asked s flights sums
  pub written : text ≡ lines ++ sums_text sums
