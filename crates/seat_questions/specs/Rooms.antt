-- What `rooms` writes: one line for each place of a flight, with the seats that are left on it in each class.
use Rattle.std.specs.Prelude.{◌≡◌, ◌≢◌, ℕ, zero, suc, ◌-◌, ◌*◌, ◌/◌, ◌%◌, ◌==◌, ◌&&◌, nat_eq, nat_le, Bool, true, false, not, if◌then◌else◌, List, [], ◌∷◌, ◌++◌, drop, decimal, codes, Option, Some, None}
use Rattle.std.specs.List.{flat_map}
use Rattle.std.specs.Cmp.Lexicographic.{pointwise}
use Rattle.airline_base.specs.declared.place.Place.{Place}
use Rattle.ssim_flights.specs.declared.flight.DatedLeg.{DatedLeg}
use Rattle.ssim_flights.specs.declared.flight.Flight.{Flight as Flown}
use Rattle.ssim_flights.specs.declared.flight.Wanted.{Wanted}
use Rattle.ssim_flights.specs.Places.{place_wanted}
use Rattle.seat_nesting.specs.Nesting.{ByClass, Ladders, Steps, each_leg, held_from, ladder_at}
use Rattle.seat_nesting.specs.declared.ladder.Step.{Step}
use Rattle.seat_journal.specs.Text.{IsJournalText}
use Rattle.seat_rules.specs.Bookings.{held, same_place}
use Rattle.seat_rules.specs.Journal.{replay}
use Rattle.seat_rules.specs.Sequential.{State, room_left}
use Rattle.seat_desk.specs.After.{HoldsAfter}
use Rattle.seat_desk.specs.FlightsDesk.{IsLegText, IsText, head_text}
use Rattle.seat_questions.specs.declared.rooms.RoomsOf.{RoomsOf}
use Rattle.seat_questions.specs.declared.rooms.Bars.{Bars}
use Rattle.seat_questions.specs.declared.rooms.Bars.TheVariants.{Plain, Blocks}
use Rattle.seat_questions.specs.declared.rooms.CityPair.{CityPair}

-- ---- places

-- the legs `from` to `to` of flight i
abbrev pub place_of : ℕ → ℕ → ℕ → Place
place_of i from to = record { flight = i; from = from; to = to }

-- a run of legs as one leg: the board point, the day and the time of the first, the off point of the last
abbrev pub run_of : DatedLeg → DatedLeg → DatedLeg
run_of first last = record { board = first.board; off = last.off; day = first.day; time = first.time }

-- each day is kept, or the one that is asked for
abbrev pub keeps_day : Option ℕ → ℕ → Bool
keeps_day None day = true
keeps_day (Some asked) day = day == asked

-- each city pair is kept, or the one that is asked for
abbrev pub keeps_pair : Option CityPair → DatedLeg → Bool
keeps_pair None run = true
keeps_pair (Some pair) run = pointwise nat_eq run.board pair.board && pointwise nat_eq run.off pair.off

abbrev pub keeps : RoomsOf → DatedLeg → Bool
keeps asked run = keeps_day asked.day run.day && keeps_pair asked.pair run

-- what a request names that is for this run of the flight's legs: its designator, the day and the two stations
abbrev pub wanted_of : Flown → DatedLeg → Wanted
wanted_of flight run = record {
  airline = flight.airline;
  number = flight.number;
  suffix = flight.suffix;
  day = run.day;
  board = run.board;
  off = run.off;
}

abbrev pub is_place : Place → Option Place → Bool
is_place place None = false
is_place place (Some other) = same_place other place

-- such a request is answered from this very place, and from none ahead of it
abbrev pub is_found : List Flown → Flown → Place → DatedLeg → Bool
is_found flights flight place run = is_place place (place_wanted flights (wanted_of flight run))

-- the place is kept, and a request finds it
abbrev pub is_shown : List Flown → RoomsOf → Flown → Place → DatedLeg → Bool
is_shown flights asked flight place run = keeps asked run && is_found flights flight place run

-- ---- rooms

-- the class is not closed on a leg with these steps; it may be missing there
abbrev pub is_unclosed : Steps → ℕ → Bool
is_unclosed [] class = true
is_unclosed (s ∷ lower) class = (if s.class == class then not s.closed else is_unclosed lower class)

-- on each leg of the place
abbrev pub none_closed : Ladders → Place → ℕ → Bool
none_closed grid place class =
    each_leg (λ leg. is_unclosed (ladder_at grid place.flight leg) class) place.from (place.to - place.from)

-- C, where the class is closed on a leg of the place
abbrev pub closed_mark : Bool → List ℕ
closed_mark true = []
closed_mark false = codes "C"

-- behind such a mark there is no room
abbrev pub ClosedHasNoRoom : Type 0
ClosedHasNoRoom = (state : State) (place : Place) (class : ℕ) → none_closed state.grid place class ≡ false →
    room_left state place class ≡ 0

-- a blank, the class, its room on the place, and the mark where it is closed
abbrev pub room_text : State → Place → Step → List ℕ
room_text state place step =
    codes " " ++ (step.class ∷ []) ++ decimal (room_left state place step.class)
    ++ closed_mark (none_closed state.grid place step.class)

-- the room of each class that the place's first leg has, in the order of its ladder
abbrev pub rooms_text : State → Place → List ℕ
rooms_text state place = flat_map (room_text state place) (ladder_at state.grid place.flight place.from)

-- ROOM, and these
abbrev pub rooms_part : State → Place → List ℕ
rooms_part state place = codes " ROOM" ++ rooms_text state place

-- ---- bars

-- how many of the 20 characters of a bar stand for held seats
abbrev pub filled : ℕ → ℕ → ℕ
filled held limit = (if limit == 0 then 0 else held * 20 / limit)

-- at least half of a character's worth is left over
abbrev pub has_half : ℕ → ℕ → Bool
has_half held limit = (if limit == 0 then false else nat_le limit (held * 20 % limit * 2))

-- the same bytes n times
abbrev pub times : ℕ → List ℕ → List ℕ
times zero bytes = []
times (suc n) bytes = bytes ++ times n bytes

-- `#`, and `.` up to 20 characters
abbrev pub plain_bar : ℕ → List ℕ
plain_bar n = times n (codes "#") ++ times (20 - n) (codes ".")

-- in UTF-8 U+2588, the half block U+258C where half is left over, and U+00B7 up to 20 characters
abbrev pub block_bar : ℕ → Bool → List ℕ
block_bar n true = times n (226 ∷ 150 ∷ 136 ∷ []) ++ (226 ∷ 150 ∷ 140 ∷ []) ++ times (19 - n) (194 ∷ 183 ∷ [])
block_bar n false = times n (226 ∷ 150 ∷ 136 ∷ []) ++ times (20 - n) (194 ∷ 183 ∷ [])

abbrev pub bar : Bars → ℕ → Bool → List ℕ
bar Plain n half = plain_bar n
bar Blocks n half = block_bar n half

-- HELD/LIMIT behind a blank, and the end of the line
abbrev pub bar_share : ℕ → ℕ → List ℕ
bar_share held limit = codes " " ++ decimal held ++ codes "/" ++ decimal limit ++ 10 ∷ []

-- the class, its bar, and the seats that are held in it and those below it, of its limit
abbrev pub bar_line : Bars → ℕ → ℕ → ℕ → List ℕ
bar_line bars class held limit =
    (class ∷ []) ++ codes " " ++ bar bars (filled held limit) (has_half held limit) ++ bar_share held limit

-- such a line for each of these ranks, from the highest down
abbrev pub bar_lines : Bars → ByClass → Steps → List ℕ
bar_lines bars seats [] = []
bar_lines bars seats (s ∷ lower) =
    bar_line bars s.class (held_from seats (s ∷ lower)) s.limit ++ bar_lines bars seats lower

-- those of one leg
abbrev pub leg_bars : Bars → State → ℕ → ℕ → List ℕ
leg_bars bars state i leg = bar_lines bars (held state.bookings i leg) (ladder_at state.grid i leg)

-- those of a place, where it is one leg
abbrev pub place_bars : Bars → State → Place → List ℕ
place_bars bars state place = (if place.from == place.to then leg_bars bars state place.flight place.from else [])

-- and where they are asked for
abbrev pub bars_text : Option Bars → State → Place → List ℕ
bars_text None state place = []
bars_text (Some bars) state place = place_bars bars state place

-- ---- lines

-- INDEX DESIGNATOR BOARD/DAY/OFF ROOM and the rooms, and the bars below
abbrev pub IsPlaceText : Option Bars → State → Flown → Place → DatedLeg → List ℕ → Type 0
IsPlaceText bars state flight place run text = (way : List ℕ) × IsLegText 0 run way
    × (text ≡ (head_text place.flight flight ++ way ++ rooms_part state place ++ 10 ∷ []) ++ bars_text bars state place)

-- where the place is shown
abbrev pub IsPlaceTextBy : Bool → Option Bars → State → Flown → Place → DatedLeg → List ℕ → Type 0
IsPlaceTextBy true bars state flight place run text = IsPlaceText bars state flight place run text
IsPlaceTextBy false bars state flight place run text = text ≡ []

abbrev pub IsRunText : List Flown → RoomsOf → State → Flown → Place → DatedLeg → List ℕ → Type 0
IsRunText flights asked state flight place run text =
    IsPlaceTextBy (is_shown flights asked flight place run) asked.bars state flight place run text

-- the place that ends with this leg
abbrev pub IsLastPart : List Flown → RoomsOf → State → ℕ → Flown → ℕ → DatedLeg → ℕ → DatedLeg → List ℕ → Type 0
IsLastPart flights asked state i flight from first to last text =
    IsRunText flights asked state flight (place_of i from to) (run_of first last) text

-- the places that begin with this leg
abbrev pub IsFirstPart : List Flown → RoomsOf → State → ℕ → Flown → ℕ → DatedLeg → List ℕ → Type 0
IsFirstPart flights asked state i flight from first text =
    IsText (IsLastPart flights asked state i flight from first) from (drop from flight.legs) text

-- the places of a flight, by first leg and then by last leg
abbrev pub IsFlightPart : List Flown → RoomsOf → State → ℕ → Flown → List ℕ → Type 0
IsFlightPart flights asked state i flight text = IsText (IsFirstPart flights asked state i flight) 0 flight.legs text

-- those of all flights, flights and legs counted from 0
abbrev pub IsRoomsText : RoomsOf → State → List Flown → List ℕ → Type 0
IsRoomsText asked state flights text = IsText (IsFlightPart flights asked state) 0 flights text

-- a text with such a property is written behind what was there
pub record IsAdded (IsPart : List ℕ → Type 0) (old new : List ℕ) : Type 0 where
  pub part : List ℕ
  pub is_part : IsPart part
  pub written : new ≡ old ++ part

-- ---- the answer

-- behind a journal without lines they are those of the limits themselves
abbrev pub OpeningRoomsAreOfNoLines : Type 0
OpeningRoomsAreOfNoLines = (asked : RoomsOf) (flights : List Flown) (grid : Ladders) (journal text : List ℕ)
    → IsJournalText journal [] → HoldsAfter (λ entries. IsRoomsText asked (replay grid entries) flights text) grid journal →
    IsRoomsText asked (replay grid []) flights text

-- a request that names what the place has is answered from this very place, and the text is its line, with its rooms
pub record IsAnsweredHere (flights : List Flown) (bars : Option Bars) (state : State) (flight : Flown) (place : Place)
    (run : DatedLeg) (text : List ℕ) : Type 0 where
  pub found : place_wanted flights (wanted_of flight run) ≡ Some place
  pub line : IsPlaceText bars state flight place run text

-- so it is with each place of which anything is written
abbrev pub WrittenPlacesAreFound : Type 0
WrittenPlacesAreFound = (flights : List Flown) (asked : RoomsOf) (state : State) (flight : Flown) (place : Place)
    (run : DatedLeg) (text : List ℕ) → IsRunText flights asked state flight place run text → text ≢ [] →
    IsAnsweredHere flights asked.bars state flight place run text

-- and each place that is kept and that such a request finds is written
abbrev pub FoundPlacesAreWritten : Type 0
FoundPlacesAreWritten = (flights : List Flown) (asked : RoomsOf) (state : State) (flight : Flown) (place : Place)
    (run : DatedLeg) (text : List ℕ) → IsRunText flights asked state flight place run text
    → keeps asked run ≡ true → place_wanted flights (wanted_of flight run) ≡ Some place →
    IsPlaceText asked.bars state flight place run text
