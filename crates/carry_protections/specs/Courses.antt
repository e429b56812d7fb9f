-- Where the bookings of places go, by the rows of a text.
use Rattle.std.specs.Prelude.{◌==◌, ◌||◌, ◌+◌, ℕ, Bool, false, List, [], ◌∷◌, ◌++◌, Option, Some, None, Result, Ok, Err, if◌then◌else◌}
use Rattle.std.specs.List.{list_all}
use Rattle.std.specs.Str.Lines.{lines}
use Rattle.airline_base.specs.declared.place.Place.{Place}
use Rattle.ssim_flights.specs.Places.{place_wanted}
use Rattle.ssim_flights.specs.declared.flight.Flight.{Flight as Flown}
use Rattle.seat_rules.specs.Bookings.{same_place}
use Rattle.carry_protections.specs.Rows.{classes_from, heading_at}
use Rattle.carry_protections.specs.declared.course.Course.{Course}
use Rattle.carry_protections.specs.declared.course.CourseFault.{CourseFault}
use Rattle.carry_protections.specs.declared.course.CourseKind.{CourseKind}
use Rattle.carry_protections.specs.declared.course.CourseKind.TheVariants as kinds
use Rattle.carry_protections.specs.declared.row.ClassPair.{ClassPair}
use Rattle.carry_protections.specs.declared.row.Heading.{Heading}

-- nothing but blanks
abbrev pub is_blank : List ℕ → Bool
is_blank text = list_all (λ c. c == 32) text

-- ---- why a row is refused

-- by itself, and not for what becomes of a booking
abbrev pub IsOwn : CourseKind → Type 0
IsOwn kinds.Form = Unit {0}
IsOwn kinds.Source = Unit {0}
IsOwn kinds.Again = Unit {0}
IsOwn kinds.Target = Unit {0}
IsOwn kinds.Memory = Unit {0}
IsOwn kinds.Unsold = ⊥
IsOwn kinds.Twice = ⊥

-- ---- the places of a row

abbrev pub has_course : List Course → Place → Bool
has_course [] p = false
has_course (c ∷ courses) p = same_place c.from p || has_course courses p

abbrev pub onto : Place → Option Place → Result (Place × Place) CourseKind
onto from None = Err kinds.Target
onto from (Some to) = Ok (from, to)

abbrev pub from_there : List Course → Option Place → Option Place → Result (Place × Place) CourseKind
from_there ahead None to = Err kinds.Source
from_there ahead (Some from) to = (if has_course ahead from then Err kinds.Again else onto from to)

-- the place of the old flights, of which no row ahead is, and that of the new ones
abbrev pub places_by : List Flown → List Flown → List Course → Heading → Result (Place × Place) CourseKind
places_by olds news ahead h = from_there ahead (place_wanted olds h.from) (place_wanted news h.to)

-- ---- a row

abbrev pub course_with : ℕ → List ClassPair → Result (Place × Place) CourseKind → Result Course CourseKind
course_with line classes (Err kind) = Err kind
course_with line classes (Ok places) = Ok (record { line = line; from = places.0; to = places.1; classes = classes })

abbrev pub with_classes : ℕ → Result (Place × Place) CourseKind → Option (List ClassPair) → Result Course CourseKind
with_classes line places None = Err kinds.Form
with_classes line places (Some classes) = course_with line classes places

abbrev pub with_heading : List Flown → List Flown → List Course → ℕ → Option (Heading × List ℕ) → Result Course CourseKind
with_heading olds news ahead line None = Err kinds.Form
with_heading olds news ahead line (Some h) = with_classes line (places_by olds news ahead h.0) (classes_from [] h.1)

-- the course of the row of a line behind these, or its first fault
abbrev pub course_at : List Flown → List Flown → List Course → ℕ → List ℕ → Result Course CourseKind
course_at olds news ahead line text = with_heading olds news ahead line (heading_at text)

-- ---- a text

abbrev pub one_more : List Course → Result Course CourseKind → Result (List Course) CourseKind
one_more ahead (Err kind) = Err kind
one_more ahead (Ok course) = Ok (ahead ++ course ∷ [])

-- the courses ahead of a line and its own; a blank line has none
abbrev pub with_line : List Flown → List Flown → ℕ → List ℕ → List Course → Result (List Course) CourseKind
with_line olds news line text ahead =
    (if is_blank text then Ok ahead else one_more ahead (course_at olds news ahead line text))

abbrev pub behind_line : ℕ → (List Course → Result (List Course) CourseFault) → Result (List Course) CourseKind → Result (List Course) CourseFault
behind_line line more (Err kind) = Err (record { line = line; kind = kind })
behind_line line more (Ok all) = more all

-- the courses of these lines behind those ahead, or the first line that is refused, and why
abbrev pub courses_from : List Flown → List Flown → List Course → ℕ → List (List ℕ) → Result (List Course) CourseFault
courses_from olds news ahead line [] = Ok ahead
courses_from olds news ahead line (text ∷ texts) =
    behind_line line (λ all. courses_from olds news all (line + 1) texts) (with_line olds news line text ahead)

-- the courses of a text, whose lines count from 1
abbrev pub courses_in : List Flown → List Flown → List ℕ → Result (List Course) CourseFault
courses_in olds news bytes = courses_from olds news [] 1 (lines bytes)
