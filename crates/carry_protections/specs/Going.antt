-- Where live bookings go, where rows say of some of them.
use Rattle.std.specs.Prelude.{◌==◌, ℕ, List, [], ◌∷◌, flat_map, option_to_list, Option, Some, None, if◌then◌else◌}
use Rattle.airline_base.specs.declared.place.Place.{Place}
use Rattle.ssim_flights.specs.declared.flight.Flight.{Flight as Flown}
use Rattle.seat_journal.specs.declared.entry.Entry.{Entry}
use Rattle.seat_rules.specs.Bookings.{same_place}
use Rattle.seat_rules.specs.declared.booking.Booking.{Booking}
use Rattle.seat_carrying.specs.declared.owned.Owned.{Owned}
use Rattle.seat_moving.specs.Moving.{moved_to, session_of, target}
use Rattle.seat_moving.specs.declared.target.Target.{Target}
use Rattle.seat_moving.specs.declared.target.Target.TheVariants.{Departed, Lost, Onto}
use Rattle.carry_protections.specs.declared.course.Course.{Course}
use Rattle.carry_protections.specs.declared.row.ClassPair.{ClassPair}

-- the class onto which one goes: another where a pair says so, and else itself
abbrev pub class_onto : List ClassPair → ℕ → ℕ
class_onto [] class = class
class_onto (p ∷ pairs) class = (if p.old == class then p.new else class_onto pairs class)

-- a booking on the place of a course, in the class onto which its own goes
abbrev pub protected : Course → Booking → Booking
protected c b = record b { place = c.to; class = class_onto c.classes b.class }

abbrev pub course_for : List Course → Place → Option Course
course_for [] p = None
course_for (c ∷ courses) p = (if same_place c.from p then Some c else course_for courses p)

-- who departed before today goes nowhere, whatever a row says
abbrev pub goes_by : ℕ → Booking → Course → Target → Option Owned
goes_by session b c Departed = None
goes_by session b c Lost = Some (record { session = session; booking = protected c b })
goes_by session b c (Onto p) = Some (record { session = session; booking = protected c b })

abbrev pub goes_under : ℕ → Booking → Option Course → Target → Option Owned
goes_under session b None t = moved_to session b t
goes_under session b (Some c) t = goes_by session b c t

-- a booking where it goes: by the row of its place, or onto the place of the new flights that has the name of its own
abbrev pub goes : List Course → List Entry → List Flown → List Flown → ℕ → Booking → Option Owned
goes courses journal old new today b = goes_under (session_of journal b) b (course_for courses b.place) (target old new today b.place)

-- those that go anywhere, in their order
abbrev pub moved_under : List Course → List Entry → List Flown → List Flown → ℕ → List Booking → List Owned
moved_under courses journal old new today bookings = flat_map (λ b. option_to_list (goes courses journal old new today b)) bookings
