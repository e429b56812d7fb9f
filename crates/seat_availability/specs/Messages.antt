-- The segments of a horizon, and what a partner is told of each.
use Rattle.std.specs.Prelude.{◌≡◌, ℕ, ◌+◌, ◌==◌, ◌&&◌, min, Bool, true, false, List, [], ◌∷◌, ◌++◌, drop, map, None, if◌then◌else◌}
use Rattle.std.specs.List.{AllByRecursion}
use Rattle.airline_base.specs.declared.place.Place.{Place}
use Rattle.ssim_flights.specs.declared.flight.DatedLeg.{DatedLeg}
use Rattle.ssim_flights.specs.declared.flight.Flight.{Flight as Flown}
use Rattle.seat_nesting.specs.Nesting.{HasLadders, Ladders, ladder_at}
use Rattle.seat_nesting.specs.declared.ladder.Step.{Step}
use Rattle.seat_rules.specs.Bookings.{same_place}
use Rattle.seat_rules.specs.Sequential.{State, room_left}
use Rattle.seat_questions.specs.Rooms.{is_shown, none_closed, place_of, run_of}
use Rattle.seat_questions.specs.declared.rooms.RoomsOf.{RoomsOf}
use Rattle.seat_lists.specs.Picking.{keeps_flight}
use Rattle.seat_availability.specs.Partners.{threshold_of}
use Rattle.seat_availability.specs.Statuses.{is_operated, status_at}
use Rattle.seat_availability.specs.declared.segments.Asked.{Asked}
use Rattle.seat_availability.specs.declared.segments.Message.{Message}
use Rattle.seat_availability.specs.declared.segments.Segment.{Segment}
use Rattle.seat_availability.specs.declared.statuses.Status.{Status}
use Rattle.seat_availability.specs.declared.statuses.Status.TheVariants.{Open, ListOpen, Closed, NotOperated}

-- ---- segments

-- the lists of all items, which are counted from n
abbrev pub each_from : {A B : Type 0} → (ℕ → A → List B) → ℕ → List A → List B
each_from part n [] = []
each_from part n (x ∷ xs) = part n x ++ each_from part (n + 1) xs

-- a class of a place of the flight
abbrev pub segment_in : Flown → Place → DatedLeg → ℕ → Segment
segment_in flight place run class = record {
  place = place;
  name = record { airline = flight.airline; number = flight.number; suffix = flight.suffix };
  run = run;
  class = class;
}

abbrev pub segment_of : Flown → Place → DatedLeg → Step → Segment
segment_of flight place run step = segment_in flight place run step.class

-- the places of this day that a request finds
abbrev pub rooms_asked : Asked → RoomsOf
rooms_asked asked = record { day = asked.day; pair = None; bars = None }

-- each class that the place's first leg has in the limits; none of a place that is not asked for, or that no request finds
abbrev pub segments_of_run : List Flown → Asked → Ladders → Flown → Place → DatedLeg → List Segment
segments_of_run flights asked grid flight place run =
    (if is_shown flights (rooms_asked asked) flight place run then map (segment_of flight place run) (ladder_at grid place.flight place.from) else [])

-- those of the place that ends with this leg
abbrev pub segments_to : List Flown → Asked → Ladders → ℕ → Flown → ℕ → DatedLeg → ℕ → DatedLeg → List Segment
segments_to flights asked grid i flight from first to last =
    segments_of_run flights asked grid flight (place_of i from to) (run_of first last)

-- those of the places that begin with this leg
abbrev pub segments_from : List Flown → Asked → Ladders → ℕ → Flown → ℕ → DatedLeg → List Segment
segments_from flights asked grid i flight from first =
    each_from (segments_to flights asked grid i flight from first) from (drop from flight.legs)

-- those of the places of a flight, by first leg and then by last leg
abbrev pub segments_of_legs : List Flown → Asked → Ladders → ℕ → Flown → List Segment
segments_of_legs flights asked grid i flight = each_from (segments_from flights asked grid i flight) 0 flight.legs

-- where the flight is asked for
abbrev pub segments_of_flight : List Flown → Asked → Ladders → ℕ → Flown → List Segment
segments_of_flight flights asked grid i flight =
    (if keeps_flight asked.flight flight then segments_of_legs flights asked grid i flight else [])

-- those of all flights
abbrev pub segments : List Flown → Asked → Ladders → List Segment
segments flights asked grid = each_from (segments_of_flight flights asked grid) 0 flights

-- ---- messages

-- the seats for sale, of which nine stand for more; 0 where they are not told
abbrev pub seats_told : Bool → Status → ℕ → ℕ
seats_told numeric Open room = (if numeric then min room 9 else 0)
seats_told numeric ListOpen room = 0
seats_told numeric Closed room = 0
seats_told numeric NotOperated room = 0

-- with so much room
abbrev pub message_at : Asked → State → Segment → ℕ → Message
message_at asked s segment room =
    let status = status_at s segment.place segment.class (threshold_of asked.partner.now segment.class) room in
    record { segment = segment; status = status; seats = seats_told asked.numeric status room }

-- with the room that the inventory has on the place
abbrev pub message_of : Asked → State → Segment → Message
message_of asked s segment = message_at asked s segment (room_left s segment.place segment.class)

-- a message for each segment
abbrev pub messages : Asked → List Flown → Ladders → State → List Message
messages asked flights grid s = map (message_of asked s) (segments flights asked grid)

-- ---- what is closed

-- where seats are authorised on each leg, a class that is closed on any of them is told as closed, and its list with it
abbrev pub ClosedIsTold : Type 0
ClosedIsTold = (asked : Asked) (s : State) (segment : Segment) → is_operated s.grid segment.place ≡ true
    → none_closed s.grid segment.place segment.class ≡ false → (message_of asked s segment).status ≡ Closed

-- ---- each once

abbrev pub same_segment : Segment → Segment → Bool
same_segment a b = same_place a.place b.place && (a.class == b.class)

-- no segment stands twice
abbrev pub AreApart : List Segment → Type 0
AreApart [] = Unit {0}
AreApart (k ∷ ks) = AllByRecursion (λ x. same_segment k x ≡ false) ks × AreApart ks

abbrev pub SegmentsStandOnce : Type 0
SegmentsStandOnce = (flights : List Flown) (asked : Asked) (grid : Ladders) → HasLadders grid → AreApart (segments flights asked grid)
