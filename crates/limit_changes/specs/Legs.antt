-- The legs that are asked for, each with what names it; and those of them that their own names do not find, of which no row can be written.
use Rattle.std.specs.Prelude.{ℕ, ◌+◌, ◌&&◌, Bool, true, false, not, List, [], ◌∷◌, ◌++◌, if◌then◌else◌}
use Rattle.ssim_flights.specs.declared.flight.DatedLeg.{DatedLeg}
use Rattle.ssim_flights.specs.declared.flight.Flight.{Flight as Flown}
use Rattle.seat_questions.specs.Rooms.{is_found, keeps_day, keeps_pair}
use Rattle.seat_questions.specs.Why.{one_leg}
use Rattle.seat_lists.specs.Picking.{keeps_flight}
use Rattle.limit_changes.specs.declared.legs.LegsAsked.{LegsAsked}
use Rattle.limit_changes.specs.declared.legs.NamedLeg.{NamedLeg}

-- the lists of all items, which are counted from n
abbrev pub each_from : {A B : Type 0} → (ℕ → A → List B) → ℕ → List A → List B
each_from part n [] = []
each_from part n (x ∷ xs) = part n x ++ each_from part (n + 1) xs

-- leg j of flight i
abbrev pub named_leg : ℕ → Flown → ℕ → DatedLeg → NamedLeg
named_leg i flight j leg = record {
  flight = i;
  leg = j;
  name = record { airline = flight.airline; number = flight.number; suffix = flight.suffix };
  run = leg;
}

-- the leg is asked for, on a flight that is
abbrev pub is_kept : LegsAsked → DatedLeg → Bool
is_kept asked leg = keeps_day asked.day leg.day && keeps_pair asked.pair leg

-- a row with the flight, the day and the pair of leg j of flight i is one for this very leg, and not for another
abbrev pub is_named : List Flown → ℕ → Flown → ℕ → DatedLeg → Bool
is_named flights i flight j leg = is_found flights flight (one_leg i j) leg

-- as it is to be
abbrev pub is_so : Bool → Bool → Bool
is_so true is = is
is_so false is = not is

-- the leg is asked for, and its own name finds it, or does not
abbrev pub is_chosen : Bool → List Flown → LegsAsked → ℕ → Flown → ℕ → DatedLeg → Bool
is_chosen named flights asked i flight j leg = is_kept asked leg && is_so named (is_named flights i flight j leg)

-- such a leg
abbrev pub kept_leg : Bool → List Flown → LegsAsked → ℕ → Flown → ℕ → DatedLeg → List NamedLeg
kept_leg named flights asked i flight j leg = (if is_chosen named flights asked i flight j leg then named_leg i flight j leg ∷ [] else [])

-- those of a flight, where it is asked for
abbrev pub kept_on : Bool → List Flown → LegsAsked → ℕ → Flown → List NamedLeg
kept_on named flights asked i flight =
    (if keeps_flight asked.flight flight then each_from (kept_leg named flights asked i flight) 0 flight.legs else [])

-- those of all flights, by whether their own names find them
abbrev pub legs_by : Bool → List Flown → LegsAsked → List Flown → List NamedLeg
legs_by named flights asked all = each_from (kept_on named flights asked) 0 all

-- the legs that are asked for and that rows can name
abbrev pub kept_legs : LegsAsked → List Flown → List NamedLeg
kept_legs asked flights = legs_by true flights asked flights

-- and those that no row names
abbrev pub unnamed_legs : LegsAsked → List Flown → List NamedLeg
unnamed_legs asked flights = legs_by false flights asked flights

-- ---- all legs

abbrev pub named_alone : ℕ → Flown → ℕ → DatedLeg → List NamedLeg
named_alone i flight j leg = named_leg i flight j leg ∷ []

-- those of flight i
abbrev pub legs_on : ℕ → Flown → List NamedLeg
legs_on i flight = each_from (named_alone i flight) 0 flight.legs

-- each leg of each flight, whatever its own name finds
abbrev pub every_leg : List Flown → List NamedLeg
every_leg flights = each_from legs_on 0 flights
