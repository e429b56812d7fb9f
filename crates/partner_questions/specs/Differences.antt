-- In what a partner's list and the live bookings differ.
use Rattle.std.specs.Prelude.{◌==◌, ◌&&◌, ◌-◌, ℕ, Bool, false, nat_eq, is_some, List, ◌++◌, length, option_map, option_to_list, Option, Some, None, if◌then◌else◌}
use Rattle.std.specs.List.{flat_map}
use Rattle.std.specs.Cmp.Lexicographic.{pointwise}
use Rattle.airimp_lines.specs.declared.requests.Request.{Request}
use Rattle.airimp_lines.specs.declared.segment.Segment.{Segment}
use Rattle.ssim_flights.specs.declared.flight.Flight.{Flight as Flown}
use Rattle.seat_journal.specs.declared.entry.Entry.{Entry}
use Rattle.seat_lists.specs.Named.{status_code}
use Rattle.seat_rules.specs.declared.booking.Booking.{Booking}
use Rattle.desk_telling.specs.Segments.{segment_of}
use Rattle.partner_lists.specs.Names.{last_named}
use Rattle.partner_lists.specs.Reading.{numbered_names, own_name}
use Rattle.partner_lists.specs.declared.name.Name.{Name}
use Rattle.partner_questions.specs.Here.{all_named, command_of, name_here}
use Rattle.partner_questions.specs.Touches.{touched}
use Rattle.partner_questions.specs.declared.difference.Difference.{Difference}
use Rattle.partner_questions.specs.declared.difference.Standing.{Standing}

-- a status and its seats, as theirs says and as it is here
abbrev pub standing_in : Segment → Standing
standing_in s = record { code = s.code; seats = s.seats }

abbrev pub standing_of : Booking → Standing
standing_of b = record { code = status_code b.status; seats = b.seats }

abbrev pub agrees : Standing → Option Standing → Bool
agrees theirs None = false
agrees theirs (Some here) = pointwise nat_eq theirs.code here.code && (theirs.seats == here.seats)

-- a line of theirs, where what is found here under its name has not the same status and seats
abbrev pub their_difference : Request → Option Standing → Option ℕ → Option Difference
their_difference r found line =
    if agrees (standing_in r.segment) found then None
    else Some (record {
      locator = r.locator;
      segment = Some r.segment;
      theirs = Some (standing_in r.segment);
      here = found;
      line = line;
    })

-- a line of theirs has the name of a booking, under which the booking is found here
abbrev pub is_number : ℕ → Option Booking → Bool
is_number number None = false
is_number number (Some b) = b.number == number

abbrev pub is_matched : Option ℕ → Option Booking → Booking → Bool
is_matched listed found b = is_some listed && is_number b.number found

-- a booking that no line of theirs has
abbrev pub our_difference : List Flown → Booking → Option ℕ → Option Booking → Option ℕ → Option Difference
our_difference flights b listed found line =
    if is_matched listed found b then None
    else Some (record {
      locator = b.locator;
      segment = segment_of flights (command_of b);
      theirs = None;
      here = Some (standing_of b);
      line = line;
    })

abbrev pub under : {V : Type 0} → (Name → Option V) → Option Name → Option V
under find None = None
under find (Some name) = find name

-- ---- all

-- that of a line of theirs, by what is found under its name
abbrev pub their_found : (Name → Option Booking) → (Name → Option ℕ) → Request → List Difference
their_found here lines r = option_to_list (their_difference r (option_map standing_of (here (own_name r))) (lines (own_name r)))

-- and that of a booking
abbrev pub our_found : List Flown → (Name → Option ℕ) → (Name → Option Booking) → (Name → Option ℕ) → Booking → List Difference
our_found flights listed here lines b =
    option_to_list (our_difference flights b (under listed (name_here flights b)) (under here (name_here flights b)) (under lines (name_here flights b)))

-- in the order of their lines
abbrev pub their_differences : List Flown → List Entry → List Booking → List Request → List Difference
their_differences flights journal ours theirs =
    flat_map (their_found (λ name. last_named name (all_named flights ours)) (λ name. last_named name (touched flights journal))) theirs

-- in order of number
abbrev pub our_differences : List Flown → List Entry → List Booking → List Request → List Difference
our_differences flights journal ours theirs =
    flat_map (our_found flights (λ name. last_named name (numbered_names theirs)) (λ name. last_named name (all_named flights ours))
    (λ name. last_named name (touched flights journal))) ours

abbrev pub differences : List Flown → List Entry → List Booking → List Request → List Difference
differences flights journal ours theirs =
    their_differences flights journal ours theirs ++ our_differences flights journal ours theirs

-- the lines of theirs that do not differ
abbrev pub same_lines : List Flown → List Entry → List Booking → List Request → ℕ
same_lines flights journal ours theirs = length theirs - length (their_differences flights journal ours theirs)
