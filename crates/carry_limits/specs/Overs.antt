-- The legs on which those who are carried hold more than there is.
use Rattle.std.specs.Prelude.{◌≡◌, ℕ, min, nat_lt, List, [], ◌∷◌, ◌++◌, codes, decimal, if◌then◌else◌}
use Rattle.ssim_flights.specs.declared.flight.DatedLeg.{DatedLeg}
use Rattle.ssim_flights.specs.declared.flight.Flight.{Flight as Flown}
use Rattle.seat_nesting.specs.Nesting.{Ladders, held_from, ladder_at}
use Rattle.seat_carrying.specs.Lifting.{top_of}
use Rattle.limit_changes.specs.Legs.{each_from, named_leg}
use Rattle.limit_changes.specs.Lines.{IsLegName}
use Rattle.limit_changes.specs.declared.legs.NamedLeg.{NamedLeg}
use Rattle.carry_limits.specs.ByFlight.{Lists}
use Rattle.carry_limits.specs.Lifting.{held_on}
use Rattle.carry_limits.specs.declared.counting.Over.{Over}

-- the seats that are held on a leg in the classes of its ladder
abbrev pub all_held : Ladders → Lists → NamedLeg → ℕ
all_held file lists leg = held_from (held_on lists leg.flight leg.leg) (ladder_at file leg.flight leg.leg)

-- the limit of its highest rank
abbrev pub seats_at : Ladders → NamedLeg → ℕ
seats_at file leg = top_of (ladder_at file leg.flight leg.leg)

-- seats are counted up to here
abbrev pub most_counted : ℕ
most_counted = 4294967295

-- a leg on which more is held than its highest rank has
abbrev pub over_on : Ladders → Lists → NamedLeg → List Over
over_on file lists leg =
    (if nat_lt (seats_at file leg) (all_held file lists leg)
    then record { leg = leg; held = min most_counted (all_held file lists leg); seats = seats_at file leg } ∷ []
    else [])

abbrev pub leg_over : Ladders → Lists → ℕ → Flown → ℕ → DatedLeg → List Over
leg_over file lists i flight j run = over_on file lists (named_leg i flight j run)

abbrev pub flight_overs : Ladders → Lists → ℕ → Flown → List Over
flight_overs file lists i flight = each_from (leg_over file lists i flight) 0 flight.legs

-- all of them, in the order of flight and leg
abbrev pub overs : Ladders → Lists → List Flown → List Over
overs file lists flights = each_from (flight_overs file lists) 0 flights

-- ---- how they read

-- behind the leg: what is held, and what there is
abbrev pub over_text : Over → List ℕ
over_text over = codes " held " ++ decimal over.held ++ codes " of " ++ decimal over.seats ++ 10 ∷ []

pub record IsOverLine (over : Over) (line : List ℕ) : Type 0 where
  pub name : List ℕ
  pub is_name : IsLegName over.leg name
  pub written : line ≡ codes "OVER " ++ name ++ over_text over
