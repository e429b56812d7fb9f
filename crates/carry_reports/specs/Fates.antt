-- What became of live bookings that were carried to another inventory.
use Rattle.std.specs.Prelude.{ℕ, ◌+◌, ◌-◌, ◌==◌, nat_lt, nat_le, Bool, true, not, ◌||◌, if◌then◌else◌, List, [], ◌∷◌, drop, take, length, slice_get, Option, Some, None}
use Rattle.airline_base.specs.declared.place.Place.{Place}
use Rattle.ssim_flights.specs.declared.flight.DatedLeg.{DatedLeg}
use Rattle.ssim_flights.specs.Places.{same_wanted}
use Rattle.ssim_flights.specs.declared.flight.Flight.{Flight as Flown}
use Rattle.ssim_flights.specs.declared.flight.Wanted.{Wanted}
use Rattle.seat_rules.specs.Flights.{bookings_on}
use Rattle.seat_rules.specs.Inventory.{state_now}
use Rattle.seat_rules.specs.declared.booking.Booking.{Booking}
use Rattle.seat_rules.specs.declared.booking.Status.{Status}
use Rattle.seat_rules.specs.declared.booking.Status.TheVariants as statuses
use Rattle.carry_order.specs.declared.numbering.Numbered.{Numbered}
use Rattle.seat_moving.specs.Moving.{name_of, target}
use Rattle.seat_moving.specs.declared.target.Target.{Target}
use Rattle.seat_moving.specs.declared.target.Target.TheVariants as targets
use Rattle.season_changes.specs.Differing.{same_legs, times_differ}
use Rattle.carry_reports.specs.declared.fating.Asked.{Asked as AskedFor}
use Rattle.carry_reports.specs.declared.fating.Carried.{Carried}
use Rattle.carry_reports.specs.declared.fating.Fate.{Fate}
use Rattle.carry_reports.specs.declared.fating.Fate.TheVariants.{Departed, Unserved, Unsold, Asked}
use Rattle.carry_reports.specs.declared.fating.Fated.{Fated}
use Rattle.carry_reports.specs.declared.fating.Outcome.{Outcome}
use Rattle.carry_reports.specs.declared.fating.Outcome.TheVariants as outcomes

-- ---- legs

abbrev pub legs_by : Option Flown → List DatedLeg
legs_by None = []
legs_by (Some flight) = flight.legs

-- from one leg to before another; none where there are not so many
abbrev pub legs_between : ℕ → ℕ → List DatedLeg → List DatedLeg
legs_between from end legs = (if nat_le end from || nat_lt (length legs) end then [] else take (end - from) (drop from legs))

-- the legs of a place; none where the flights have no such place
abbrev pub legs_at : List Flown → Place → List DatedLeg
legs_at flights p = legs_between p.from (p.to + 1) (legs_by (slice_get flights p.flight))

-- other legs, or a leg that departs at another time
abbrev pub are_other_legs : List DatedLeg → List DatedLeg → Bool
are_other_legs legs others = not (same_legs legs others) || times_differ legs others

abbrev pub has_changed : Carried → Place → Place → Bool
has_changed c old new = are_other_legs (legs_at c.olds.now old) (legs_at c.news.now new)

-- ---- names

abbrev pub is_other_name : Option Wanted → Option Wanted → Bool
is_other_name None new = true
is_other_name (Some old) None = true
is_other_name (Some old) (Some new) = not (same_wanted old new)

-- passengers call the new place otherwise than the old one
abbrev pub is_elsewhere : Carried → Place → Place → Bool
is_elsewhere c old new = is_other_name (name_of c.olds.now old) (name_of c.news.now new)

-- ---- what it is in the new inventory

abbrev pub outcome_of : Status → Outcome
outcome_of statuses.Held = outcomes.Held
outcome_of statuses.Waiting = outcomes.Waiting

-- what the booking of this number is among these
abbrev pub outcome_in : ℕ → List Booking → Outcome
outcome_in number [] = outcomes.Refused
outcome_in number (b ∷ bookings) = (if b.number == number then outcome_of b.status else outcome_in number bookings)

-- ---- what became of it

-- who was not asked for departed, or its flight is no more, or has its class no more
abbrev pub unasked : Target → Fate
unasked targets.Departed = Departed
unasked targets.Lost = Unserved
unasked (targets.Onto p) = Unsold

abbrev pub unasked_fate : Carried → Booking → Fate
unasked_fate c b = unasked (target c.olds.now c.new.now c.today b.place)

-- who was asked for is what the booking of its line is
abbrev pub asked_fate : Carried → Booking → Numbered → Fate
asked_fate c b n = Asked (record {
  line = n.line;
  place = n.owned.booking.place;
  class = n.owned.booking.class;
  elsewhere = is_elsewhere c b.place n.owned.booking.place;
  changed = is_elsewhere c b.place n.owned.booking.place || (not (n.owned.booking.class == b.class) || has_changed c b.place n.owned.booking.place);
  outcome = outcome_in n.line (bookings_on n.owned.booking.place.flight (state_now c.after.now).bookings);
})

abbrev pub fate_by : Carried → Booking → Option Numbered → Fate
fate_by c b None = unasked_fate c b
fate_by c b (Some n) = asked_fate c b n

-- the next of those that were asked for, where it is this booking, and those behind it
abbrev pub next_of : Booking → List Numbered → Option Numbered × List Numbered
next_of b [] = (None, [])
next_of b (n ∷ rest) = (if n.owned.booking.number == b.number then (Some n, rest) else (None, n ∷ rest))

-- of one live booking after the other, and those that were asked for, both in order of number
abbrev pub fates_from : Carried → List Numbered → List Booking → List Fated
fates_from c rest [] = []
fates_from c rest (b ∷ live) = record { booking = b; fate = fate_by c b (next_of b rest).0 } ∷ fates_from c (next_of b rest).1 live

-- what became of each live booking
abbrev pub fates : Carried → List Booking → List Fated
fates c live = fates_from c c.asked.now live
