-- One flight alone: its bookings, the pass over its waiting list, and its part of a journal.
use Rattle.std.specs.Prelude.{◌≡◌, ◌==◌, ◌&&◌, ℕ, ◌+◌, Bool, true, false, List, [], ◌∷◌, ◌++◌, filter, length, map, take, Option, Some, None, option_map, count_by, if◌then◌else◌}
use Rattle.std.specs.List.{AllByRecursion}
use Rattle.airline_base.specs.declared.place.Place.{Place}
use Rattle.seat_nesting.specs.Nesting.{Ladders, legs_of, room}
use Rattle.seat_rules.specs.declared.booking.Booking.{Booking}
use Rattle.seat_journal.specs.declared.entry.Advice.{Advice}
use Rattle.seat_journal.specs.declared.entry.Entry.{Entry}
use Rattle.seat_journal.specs.declared.entry.Work.{Work}
use Rattle.seat_journal.specs.declared.entry.Work.TheVariants.{Seats, Limit, Sale}
use Rattle.seat_rules.specs.Bookings.{held}
use Rattle.seat_rules.specs.Sequential.{Passed, pass, may_confirm, confirmed, advice_of, room_left}
use Rattle.seat_rules.specs.Journal.{replay, calls_of, next_line, IsLegal}

-- the two grids have the same ladders on the flight
abbrev pub AgreeOn : ℕ → Ladders → Ladders → Type 0
AgreeOn flight g h = legs_of g flight ≡ legs_of h flight

-- no waiting booking of `among` on another flight fits in the book
abbrev pub NoneElseFits : ℕ → Ladders → List Booking → List Booking → Type 0
NoneElseFits flight grid book among =
    AllByRecursion (λ b. (b.place.flight == flight) ≡ false → may_confirm grid book b ≡ false) among

-- the bookings on the flight, in order
abbrev pub bookings_on : ℕ → List Booking → List Booking
bookings_on flight bookings = filter (λ b. b.place.flight == flight) bookings

-- the pass that looks at the waiting bookings of the flight alone
abbrev pub pass_on : ℕ → Ladders → List Booking → List Advice → List Booking → Passed
pass_on flight grid done told [] = record { bookings = done; advices = told }
pass_on flight grid done told (b ∷ bs) =
    (if (b.place.flight == flight) && may_confirm grid (done ++ b ∷ bs) b
    then pass_on flight grid (done ++ confirmed b ∷ []) (told ++ advice_of b ∷ []) bs
    else pass_on flight grid (done ++ b ∷ []) told bs)

-- where none of another flight fits, a pass needs to look at the flight alone, and at its own ladders
abbrev pub PassOfFlight : Type 0
PassOfFlight = (flight : ℕ) (g h : Ladders) (bookings : List Booking) → AgreeOn flight g h
    → NoneElseFits flight g bookings bookings
    → pass g [] [] bookings ≡ pass_on flight h [] [] bookings

-- the room of a place rests on the ladders and the bookings of its flight alone
abbrev pub RoomOfFlight : Type 0
RoomOfFlight = (g h : Ladders) (bookings : List Booking) (place : Place) (class : ℕ) → AgreeOn place.flight g h
    → room g (held bookings) place class ≡ room h (held (bookings_on place.flight bookings)) place class

-- the place that a line asks for, if it asks for one
abbrev pub place_of : Work → Option Place
place_of (Seats c) = c.place
place_of (Limit c) = None
place_of (Sale c) = None

-- the flight of a line: that of its place, or of the leg on which it sets something
abbrev pub flight_of : Work → Option ℕ
flight_of (Seats c) = option_map (λ p. p.flight) c.place
flight_of (Limit c) = Some c.flight
flight_of (Sale c) = Some c.flight

abbrev pub is_flight : ℕ → Option ℕ → Bool
is_flight flight None = false
is_flight flight (Some f) = f == flight

-- the line is on the flight
abbrev pub is_on : ℕ → Work → Bool
is_on flight work = is_flight flight (flight_of work)

-- the lines on the flight
abbrev pub lines_on : ℕ → List Entry → ℕ
lines_on flight lines = count_by (λ e. is_on flight e.work) lines

-- the number of line n of the journal among those of the flight
abbrev pub number_on : ℕ → List Entry → ℕ → ℕ
number_on flight journal n = lines_on flight (take n journal)

-- the advices, their bookings numbered anew
abbrev pub advices_anew : (ℕ → ℕ) → List Advice → List Advice
advices_anew anew [] = []
advices_anew anew (a ∷ advices) = record a { number = anew a.number } ∷ advices_anew anew advices

-- the line as the next one after these, its bookings numbered anew
abbrev pub line_anew : (ℕ → ℕ) → List Entry → Entry → Entry
line_anew anew past e = record e {
  number = length past + 1;
  call = calls_of past e.session + 1;
  advices = advices_anew anew e.advices;
}

-- these lines of the part, and after them those of the journal that are on the flight, each counted anew
abbrev pub part_after : (ℕ → ℕ) → ℕ → List Entry → List Entry → List Entry
part_after anew flight part [] = part
part_after anew flight part (e ∷ es) =
    (if is_on flight e.work
    then part_after anew flight (part ++ line_anew anew part e ∷ []) es
    else part_after anew flight part es)

-- the lines on the flight, changes of its limits among them, in order, with line numbers, calls and booking numbers counted anew from 1
abbrev pub part_of : ℕ → List Entry → List Entry
part_of flight journal = part_after (number_on flight journal) flight [] journal

-- a flight's part of a legal history is a legal history, over each grid with the same ladders on the flight
abbrev pub PartIsLegal : Type 0
PartIsLegal = (g h : Ladders) (journal : List Entry) (flight : ℕ) → AgreeOn flight g h → IsLegal g journal
    → IsLegal h (part_of flight journal)

-- a line on the flight is answered by the part as by the whole
abbrev pub LineOfPart : Type 0
LineOfPart = (g h : Ladders) (past : List Entry) (e : Entry) (flight : ℕ) → AgreeOn flight g h
    → IsLegal g (past ++ e ∷ []) → is_on flight e.work ≡ true →
    let part = part_of flight past in
    let line = next_line h part e.session (calls_of part e.session + 1) e.work in
    (line.reply ≡ e.reply) × (line.released ≡ e.released)
    × (line.advices ≡ advices_anew (number_on flight (past ++ e ∷ [])) e.advices)

-- these lines of the part, and after them the one that this line's work makes, if it is on the flight
abbrev pub followed : Ladders → ℕ → List Entry → Entry → List Entry
followed grid flight part e =
    (if is_on flight e.work then part ++ next_line grid part e.session (calls_of part e.session + 1) e.work ∷ []
    else part)

-- these lines of the part, and after them those that the flight's lines make when they are carried out alone
abbrev pub alone : Ladders → ℕ → List Entry → List Entry → List Entry
alone grid flight part [] = part
alone grid flight part (e ∷ es) =
    (if is_on flight e.work
    then alone grid flight (part ++ next_line grid part e.session (calls_of part e.session + 1) e.work ∷ []) es
    else alone grid flight part es)

-- the part is had by carrying out the flight's lines alone
abbrev pub PartIsAlone : Type 0
PartIsAlone = (g h : Ladders) (journal : List Entry) (flight : ℕ) → AgreeOn flight g h → IsLegal g journal
    → part_of flight journal ≡ alone h flight [] journal

-- and grows with the journal, by the lines that its own lines make
abbrev pub PartGrows : Type 0
PartGrows = (g h : Ladders) (past more : List Entry) (flight : ℕ) → AgreeOn flight g h → IsLegal g (past ++ more)
    → part_of flight (past ++ more) ≡ alone h flight (part_of flight past) more

-- and it leaves the flight's limits as the whole leaves them
abbrev pub PartLeavesLimits : Type 0
PartLeavesLimits = (g h : Ladders) (journal : List Entry) (flight : ℕ) → AgreeOn flight g h → IsLegal g journal
    → AgreeOn flight (replay g journal).grid (replay h (part_of flight journal)).grid

-- and leaves each place on the flight the room that the whole leaves
abbrev pub PartLeavesRoom : Type 0
PartLeavesRoom = (g h : Ladders) (journal : List Entry) (place : Place) (class : ℕ) → AgreeOn place.flight g h
    → IsLegal g journal
    → room_left (replay h (part_of place.flight journal)) place class ≡ room_left (replay g journal) place class

-- the booking under a new number
abbrev pub renumbered : (ℕ → ℕ) → Booking → Booking
renumbered anew b = record b { number = anew b.number }

-- the part leaves the bookings of the flight, each under the number of its line in the part
abbrev pub PartLeavesBookings : Type 0
PartLeavesBookings = (g h : Ladders) (journal : List Entry) (flight : ℕ) → AgreeOn flight g h → IsLegal g journal
    → (replay h (part_of flight journal)).bookings
    ≡ map (renumbered (number_on flight journal)) (bookings_on flight (replay g journal).bookings)
