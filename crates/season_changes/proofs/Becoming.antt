-- What becomes of one flight, and of one flight more.
use Rattle.std.proofs.Common.{arith, ◌≡◌, ℕ, ◌+◌, ◌≤◌, Bool, true, false, List, [], ◌∷◌, ◌++◌, length, drop, Option, Some, sym, ap, ◌∙◌, append_assoc}
use Rattle.std.specs.Prelude.{if◌then◌else◌, slice_get}
use Rattle.std.proofs.Math.ListN.{drop_of_length-le}
use Rattle.std.proofs.lemmas.List.{append-nil}
use Rattle.ssim_flights.specs.declared.flight.DatedLeg.{DatedLeg}
use Rattle.ssim_flights.specs.declared.flight.Flight.{Flight as Flown}
use Rattle.seat_nesting.specs.Nesting.{Ladders}
use Rattle.seat_rules.specs.declared.booking.Booking.{Booking}
use Rattle.std.specs.HashMap.{get}
use Rattle.seat_rules.specs.Bookings.{is_held, is_waiting}
use Rattle.season_changes.specs.Changes.{change_of, each_from, is_common, of_compared, of_name, of_new, of_new_by, of_new_on, of_old, of_old_by, of_old_on, what_added, what_becomes}
use Rattle.season_changes.specs.Naming.{name_on, number_from, same_name, AreNumbersOf, Numbers}
use Rattle.season_changes.specs.Seats.{seats_on}
use Rattle.season_changes.specs.declared.changes.Change.{Change}
use Rattle.season_changes.specs.declared.comparing.Comparison.{Comparison}
use Rattle.season_changes.specs.declared.differing.What.{What}
use Rattle.season_changes.specs.declared.differing.What.TheVariants.{Outside}
use Rattle.season_changes.specs.declared.naming.Name.{Name}
use Rattle.season_changes.proofs.Numbering.{drop_there}

-- ---- by its legs

pub old_none : (asked : Comparison) (grid : Ladders) (bookings : List Booking) (i : ℕ) (flight : Flown) (all : List Change)
    → flight.legs ≡ [] → all ≡ all ++ of_old asked grid bookings i flight
old_none asked grid bookings i flight all none =
    sym (append-nil all) ∙ ap (λ (legs : List DatedLeg). all ++ of_old_by legs asked grid bookings i flight) (sym none)

pub old_some : (asked : Comparison) (grid : Ladders) (bookings : List Booking) (i : ℕ) (flight : Flown) (leg : DatedLeg) (rest : List DatedLeg)
    (old new : List Change) → flight.legs ≡ leg ∷ rest → new ≡ old ++ of_old_on asked grid bookings i flight leg
    → new ≡ old ++ of_old asked grid bookings i flight
old_some asked grid bookings i flight leg rest old new some put =
    put ∙ ap (λ (legs : List DatedLeg). old ++ of_old_by legs asked grid bookings i flight) (sym some)

pub new_none : (asked : Comparison) (olds : List Flown) (flight : Flown) (all : List Change)
    → flight.legs ≡ [] → all ≡ all ++ of_new asked olds flight
new_none asked olds flight all none =
    sym (append-nil all) ∙ ap (λ (legs : List DatedLeg). all ++ of_new_by legs asked olds flight) (sym none)

pub new_some : (asked : Comparison) (olds : List Flown) (flight : Flown) (leg : DatedLeg) (rest : List DatedLeg)
    (old new : List Change) → flight.legs ≡ leg ∷ rest → new ≡ old ++ of_new_on asked olds flight leg
    → new ≡ old ++ of_new asked olds flight
new_some asked olds flight leg rest old new some put =
    put ∙ ap (λ (legs : List DatedLeg). old ++ of_new_by legs asked olds flight) (sym some)

-- ---- by its day

by_false : (t : Bool) (a b old new : List Change) → t ≡ false → new ≡ old ++ b → new ≡ old ++ (if t then a else b)
by_false t a b old new apart put = put ∙ ap (λ (c : Bool). old ++ (if c then a else b)) (sym apart)

by_true : (t : Bool) (a b old new : List Change) → t ≡ true → new ≡ old ++ a → new ≡ old ++ (if t then a else b)
by_true t a b old new inside put = put ∙ ap (λ (c : Bool). old ++ (if c then a else b)) (sym inside)

-- the number that an index gives is that of the first flight of the name
number_is : (numbers : Numbers) (flights : List Flown) (name : Name) (number : Option ℕ) → AreNumbersOf numbers 0 flights
    → number ≡ get same_name numbers name → number ≡ number_from 0 flights name
number_is numbers flights name number are found = found ∙ are.at name

pub old_outside : (asked : Comparison) (grid : Ladders) (bookings : List Booking) (i : ℕ) (flight : Flown) (leg : DatedLeg) (name : Name)
    (old new : List Change) → is_common asked leg.day ≡ false → name ≡ name_on flight leg → new ≡ old ++ change_of name 0 0 (Some Outside)
    → new ≡ old ++ of_old_on asked grid bookings i flight leg
unfolding of_old_on
old_outside asked grid bookings i flight leg name old new apart named put =
    by_false (is_common asked leg.day) (of_compared asked grid bookings i flight (name_on flight leg)) (change_of (name_on flight leg) 0 0 (Some Outside)) old new apart
    (put ∙ ap (λ (n : Name). old ++ change_of n 0 0 (Some Outside)) named)

pub old_inside : (asked : Comparison) (grid : Ladders) (bookings : List Booking) (i : ℕ) (flight : Flown) (leg : DatedLeg) (name : Name)
    (old new : List Change) → is_common asked leg.day ≡ true → name ≡ name_on flight leg → new ≡ old ++ of_compared asked grid bookings i flight name
    → new ≡ old ++ of_old_on asked grid bookings i flight leg
unfolding of_old_on
old_inside asked grid bookings i flight leg name old new within named put =
    by_true (is_common asked leg.day) (of_compared asked grid bookings i flight (name_on flight leg)) (change_of (name_on flight leg) 0 0 (Some Outside)) old new within
    (put ∙ ap (λ (n : Name). old ++ of_compared asked grid bookings i flight n) named)

pub old_compared : (asked : Comparison) (grid found : Ladders) (bookings : List Booking) (i : ℕ) (flight : Flown) (numbers : Numbers)
    (name : Name) (number : Option ℕ) (what : Option What) (held waiting : ℕ) (old new : List Change)
    → AreNumbersOf numbers 0 asked.flights.now → number ≡ get same_name numbers name → found ≡ grid
    → what ≡ what_becomes asked found i flight number → held ≡ seats_on is_held i bookings → waiting ≡ seats_on is_waiting i bookings
    → new ≡ old ++ change_of name held waiting what → new ≡ old ++ of_compared asked grid bookings i flight name
unfolding of_compared
old_compared asked grid found bookings i flight numbers name number what held waiting old new are at same becomes of_held of_waiting put =
    let fate : what ≡ what_becomes asked grid i flight (number_from 0 asked.flights.now name) =
    becomes ∙ ap (λ (g : Ladders). what_becomes asked g i flight number) same
    ∙ ap (what_becomes asked grid i flight) (number_is numbers asked.flights.now name number are at) in
    put
    ∙ ap (λ (n : ℕ). old ++ change_of name n waiting what) of_held
    ∙ ap (λ (n : ℕ). old ++ change_of name (seats_on is_held i bookings) n what) of_waiting
    ∙ ap (λ (w : Option What). old ++ change_of name (seats_on is_held i bookings) (seats_on is_waiting i bookings) w) fate

pub new_outside : (asked : Comparison) (olds : List Flown) (flight : Flown) (leg : DatedLeg) (name : Name)
    (old new : List Change) → is_common asked leg.day ≡ false → name ≡ name_on flight leg → new ≡ old ++ change_of name 0 0 (Some Outside)
    → new ≡ old ++ of_new_on asked olds flight leg
unfolding of_new_on
new_outside asked olds flight leg name old new apart named put =
    by_false (is_common asked leg.day) (of_name olds (name_on flight leg)) (change_of (name_on flight leg) 0 0 (Some Outside)) old new apart
    (put ∙ ap (λ (n : Name). old ++ change_of n 0 0 (Some Outside)) named)

pub new_inside : (asked : Comparison) (olds : List Flown) (flight : Flown) (leg : DatedLeg) (name : Name)
    (old new : List Change) → is_common asked leg.day ≡ true → name ≡ name_on flight leg → new ≡ old ++ of_name olds name
    → new ≡ old ++ of_new_on asked olds flight leg
unfolding of_new_on
new_inside asked olds flight leg name old new within named put =
    by_true (is_common asked leg.day) (of_name olds (name_on flight leg)) (change_of (name_on flight leg) 0 0 (Some Outside)) old new within
    (put ∙ ap (λ (n : Name). old ++ of_name olds n) named)

pub new_named : (olds : List Flown) (numbers : Numbers) (name : Name) (number : Option ℕ) (what : Option What) (old new : List Change)
    → AreNumbersOf numbers 0 olds → number ≡ get same_name numbers name → what ≡ what_added number → new ≡ old ++ change_of name 0 0 what
    → new ≡ old ++ of_name olds name
unfolding of_name
new_named olds numbers name number what old new are at becomes put =
    put ∙ ap (λ (w : Option What). old ++ change_of name 0 0 w) (becomes ∙ ap what_added (number_is numbers olds name number are at))

-- ---- one flight more

pub flight_more : (of : ℕ → Flown → List Change) (flights : List Flown) (i : ℕ) (flight : Flown) (mid new whole : List Change)
    → mid ++ each_from of i (drop i flights) ≡ whole → slice_get flights i ≡ Some flight → new ≡ mid ++ of i flight
    → new ++ each_from of (i + 1) (drop (i + 1) flights) ≡ whole
flight_more of flights i flight mid new whole so_far at put =
    ap (λ (l : List Change). l ++ each_from of (i + 1) (drop (i + 1) flights)) put
    ∙ append_assoc mid (of i flight) (each_from of (i + 1) (drop (i + 1) flights))
    ∙ ap (λ (l : List Flown). mid ++ each_from of i l) (sym (drop_there flights i flight at))
    ∙ so_far

pub flights_whole : (of : ℕ → Flown → List Change) (flights : List Flown) (i count : ℕ) (all whole : List Change)
    → all ++ each_from of i (drop i flights) ≡ whole → count ≡ length flights → count ≤ i → all ≡ whole
flights_whole of flights i count all whole so_far counted over =
    let past : length flights ≤ i = omega (arith, counted, over) in
    sym (append-nil all) ∙ ap (λ (l : List Flown). all ++ each_from of i l) (sym (drop_of_length-le flights past)) ∙ so_far
