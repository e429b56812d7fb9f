-- What is picked up, class by class and flight by flight.
use Rattle.std.proofs.Common.{◌≡◌, ◌==◌, ◌&&◌, ◌||◌, ℕ, suc, ◌+◌, ◌-◌, ◌<◌, ◌≤◌, Bool, true, false, List, [], ◌∷◌, ◌++◌, length, take, drop, get_or, Option, Some, None, refl, sym, ap, subst, ◌∙◌, arith, if◌then◌else◌, append_assoc}
use Rattle.std.specs.Prelude.{nat_lt}
use Rattle.std.specs.Char.{is_ascii_uppercase}
use Rattle.std.proofs.Math.ListN.{drop_of_length-le}
use Rattle.std.proofs.lemmas.Bool.Decides.{nat_tests}
use Rattle.std.proofs.lemmas.List.{append-nil, take-append-drop}
use Rattle.std.specs.List.{sum_by}
use Rattle.ssim_flights.proofs.Walks.{drop_step}
use Rattle.ssim_flights.specs.declared.flight.Flight.{Flight as Flown}
use Rattle.seat_journal.specs.declared.entry.Entry.{Entry}
use Rattle.seat_nesting.specs.Nesting.{Ladders}
use Rattle.seat_rules.specs.Bookings.{is_held}
use Rattle.seat_rules.specs.Flights.{bookings_on}
use Rattle.seat_rules.specs.Journal.{IsLegal, replay}
use Rattle.seat_rules.specs.declared.booking.Booking.{Booking}
use Rattle.seat_rules.proofs.Filters.{sum_kept}
use Rattle.seat_lists.specs.Picking.{keeps_flight}
use Rattle.seat_lists.specs.declared.picking.Designator.{Designator}
use Rattle.seat_pickup.specs.Counting.{AreCounts, count_at, spot}
use Rattle.seat_questions.specs.Why.{has_leg}
use Rattle.seat_pickup.specs.Moves.{cancelled_by, confirmed_by, held_in, holds, is_at, sold_by, sum_of}
use Rattle.seat_pickup.specs.Pickups.{AreMoves, moved_behind, of_class, of_classes, of_flight, of_flights, of_letters, with_any}
use Rattle.seat_pickup.specs.declared.moved.Moves.{Moves}
use Rattle.seat_pickup.specs.declared.moved.MoveSums.{MoveSums}
use Rattle.seat_pickup.specs.declared.classes.Pickup.{Pickup}
use Rattle.seat_pickup.specs.declared.split.Split.{Split}
use Rattle.seat_pickup.specs.declared.split.Split.TheVariants.{Classes, Legs}
use Rattle.seat_pickup.proofs.Balancing.{moves_balance}

-- each of these letters is that of a class
pub is_letter : (letter : ℕ) → 65 ≤ letter → letter ≤ 90 → is_ascii_uppercase letter ≡ true
is_letter letter from to = grind (arith, nat_tests, from, to)

same_class : (letter class : ℕ) (b : Bool) → b ≡ true → Some class ≡ (if b then Some letter else None) → class ≡ letter
same_class letter class true e is = cc
same_class letter class false e is = absurd cc

pub letter_added : (of : ℕ → Pickup) (letter class : ℕ) (old new : List Pickup) → 65 ≤ letter → letter ≤ 90
    → Some class ≡ (if is_ascii_uppercase letter then Some letter else None)
    → new ≡ old ++ with_any (of class) → new ≡ old ++ with_any (of letter)
letter_added of letter class old new from to is added =
    added ∙ ap (λ (n : ℕ). old ++ with_any (of n)) (same_class letter class (is_ascii_uppercase letter) (is_letter letter from to) is)

-- ---- what is held on a flight

none_if : (h : Bool) (n : ℕ) → (if h && false then n else 0) ≡ 0
none_if true n = refl
none_if false n = refl

-- a booking of another flight counts nowhere on it
away : (split : Split) (f k : ℕ) (b : Booking) → (b.place.flight == f) ≡ false → holds (is_at split) f k b ≡ 0
away Classes f k b off =
    ap (λ (t : Bool). if is_held b.status && (t && (b.class == k)) then b.seats else 0) off ∙ none_if (is_held b.status) b.seats
away Legs f k b off =
    ap (λ (t : Bool). if is_held b.status && (t && has_leg b.place (k - 65)) then b.seats else 0) off ∙ none_if (is_held b.status) b.seats

pub held_is : (split : Split) (bookings all : List Booking) (f k n : ℕ) → bookings ≡ bookings_on f all
    → n ≡ sum_by (holds (is_at split) f k) bookings → n ≡ held_in (is_at split) all f k
held_is split bookings all f k n own is =
    is ∙ ap (λ (l : List Booking). sum_by (holds (is_at split) f k) l) own
    ∙ sum_kept (λ (b : Booking). b.place.flight == f) (holds (is_at split) f k) (away split f k) all

-- the rows have the place of a class or leg of one of their flights
pub spot_within : (flights f k : ℕ) (of : ℕ → ℕ → ℕ) (row : List ℕ) → AreCounts flights of row → f < flights → 65 ≤ k → k ≤ 90
    → spot f k < length row
spot_within flights f k of row are inside from to = omega (arith, are.counted, inside, from, to)

pub same_sums : (a b : MoveSums) → a.before ≡ b.before → a.sold ≡ b.sold → a.cancelled ≡ b.cancelled → a.confirmed ≡ b.confirmed
    → a.held ≡ b.held → a ≡ b
same_sums a b e f g h k = λ i. record { before = e i; sold = f i; cancelled = g i; confirmed = h i; held = k i }

pub sums_are : (grid : Ladders) (journal : List Entry) (n : ℕ) (moves : Moves) (f k : ℕ) (sums : MoveSums)
    → IsLegal grid journal → AreMoves (drop n journal) moves → f < moves.flights → 65 ≤ k → k ≤ 90
    → sums.held ≡ held_in (is_at moves.split) (replay grid journal).bookings f k
    → sums.sold ≡ count_at moves.sold.items f k
    → sums.cancelled ≡ count_at moves.cancelled.items f k
    → sums.confirmed ≡ count_at moves.confirmed.items f k
    → sums.before ≡ (sums.held + sums.cancelled) - (sums.sold + sums.confirmed)
    → sums ≡ moved_behind grid journal n (is_at moves.split) f k
sums_are grid journal n moves f k sums legal are inside from to held sold cancelled confirmed before =
    same_sums sums (moved_behind grid journal n (is_at moves.split) f k) was sells cancels confirms held
  where
    sells : sums.sold ≡ sum_of (sold_by (is_at moves.split)) (drop n journal) f k
    sells = sold ∙ are.sold.each f k inside from to

    cancels : sums.cancelled ≡ sum_of (cancelled_by (is_at moves.split)) (drop n journal) f k
    cancels = cancelled ∙ are.cancelled.each f k inside from to

    confirms : sums.confirmed ≡ sum_of (confirmed_by (is_at moves.split)) (drop n journal) f k
    confirms = confirmed ∙ are.confirmed.each f k inside from to

    whole : take n journal ++ drop n journal ≡ journal
    whole = take-append-drop n journal

    was : sums.before ≡ held_in (is_at moves.split) (replay grid (take n journal)).bookings f k
    was =
        let law = moves_balance (is_at moves.split) grid (take n journal) (drop n journal) f k (subst (IsLegal grid) (sym whole) legal) in
        let now : held_in (is_at moves.split) (replay grid (take n journal ++ drop n journal)).bookings f k ≡ held_in (is_at moves.split) (replay grid journal).bookings f k =
        ap (λ (l : List Entry). held_in (is_at moves.split) (replay grid l).bookings f k) whole in
        omega (arith, law, now, before, held, sells, cancels, confirms)

-- ---- one class

name_is : (a b : Designator) → a.airline ≡ b.airline → a.number ≡ b.number → a.suffix ≡ b.suffix → a ≡ b
name_is a b e f g = λ i. record { airline = e i; number = f i; suffix = g i }

same_pickup : (p q : Pickup) → p.flight ≡ q.flight → p.name ≡ q.name → p.class ≡ q.class → p.before ≡ q.before → p.sold ≡ q.sold
    → p.cancelled ≡ q.cancelled → p.confirmed ≡ q.confirmed → p.held ≡ q.held → p ≡ q
same_pickup p q a b c d e f g h = λ i. record {
  flight = a i;
  name = b i;
  class = c i;
  before = d i;
  sold = e i;
  cancelled = f i;
  confirmed = g i;
  held = h i;
}

pub pickup_is : (grid : Ladders) (journal : List Entry) (n : ℕ) (split : Split) (i : ℕ) (flight : Flown) (class letter : ℕ) (sums : MoveSums) (p : Pickup)
    → split ≡ Classes → letter ≡ class → sums ≡ moved_behind grid journal n (is_at split) i letter
    → p.flight ≡ i → p.name.airline ≡ flight.airline → p.name.number ≡ flight.number → p.name.suffix ≡ flight.suffix → p.class ≡ class
    → p.before ≡ sums.before → p.sold ≡ sums.sold → p.cancelled ≡ sums.cancelled → p.confirmed ≡ sums.confirmed → p.held ≡ sums.held
    → p ≡ of_class (replay grid (take n journal)).bookings (drop n journal) (replay grid journal).bookings i flight class
pickup_is grid journal n split i flight class letter sums p by spelled is at airline number suffix of before sold cancelled confirmed held =
    same_pickup p (of_class (replay grid (take n journal)).bookings (drop n journal) (replay grid journal).bookings i flight class)
    at (name_is p.name (record { airline = flight.airline; number = flight.number; suffix = flight.suffix }) airline number suffix) of
    (before ∙ ap (λ (s : MoveSums). s.before) right) (sold ∙ ap (λ (s : MoveSums). s.sold) right) (cancelled ∙ ap (λ (s : MoveSums). s.cancelled) right)
    (confirmed ∙ ap (λ (s : MoveSums). s.confirmed) right) (held ∙ ap (λ (s : MoveSums). s.held) right)
  where
    right : sums ≡ moved_behind grid journal n (is_at Classes) i class
    right =
        is
        ∙ ap (λ (m : ℕ). moved_behind grid journal n (is_at split) i m) spelled
        ∙ ap (λ (s : Split). moved_behind grid journal n (is_at s) i class) by

pub class_left : (p : Pickup) (any : Bool) (all : List Pickup) → any ≡ (nat_lt 0 p.before || nat_lt 0 p.sold || nat_lt 0 p.confirmed)
    → any ≡ false → all ≡ all ++ with_any p
class_left p any all is none =
    sym (append-nil all) ∙ ap (λ (b : Bool). all ++ (if b then p ∷ [] else [])) (sym (sym is ∙ none))

pub class_kept : (p : Pickup) (any : Bool) (old new : List Pickup) → any ≡ (nat_lt 0 p.before || nat_lt 0 p.sold || nat_lt 0 p.confirmed)
    → any ≡ true → new ≡ old ++ p ∷ [] → new ≡ old ++ with_any p
class_kept p any old new is some put = put ∙ ap (λ (b : Bool). old ++ (if b then p ∷ [] else [])) (sym (sym is ∙ some))

-- ---- the classes of a flight

by_next : (of : ℕ → Pickup) (n class : ℕ) → of_classes of (suc n) class ≡ with_any (of class) ++ of_classes of n (class + 1)
by_next of n class = refl

pub class_more : (of : ℕ → Pickup) (i class : ℕ) (mid new whole : List Pickup) → mid ++ of_classes of (26 - i) (65 + i) ≡ whole
    → i < 26 → class ≡ 65 + i → new ≡ mid ++ with_any (of class) → new ++ of_classes of (26 - (i + 1)) (65 + (i + 1)) ≡ whole
class_more of i class mid new whole so_far inside is put =
    let n : ℕ = 26 - (i + 1) in
    let left : 26 - i ≡ suc n = omega (arith, inside) in
    let next : 65 + (i + 1) ≡ 65 + i + 1 = omega arith in
    let these : List Pickup = with_any (of (65 + i)) in
    let head : new ≡ mid ++ these = put ∙ ap (λ (k : ℕ). mid ++ with_any (of k)) is in
    let rest : of_classes of (26 - i) (65 + i) ≡ these ++ of_classes of n (65 + (i + 1)) =
    ap (λ (k : ℕ). of_classes of k (65 + i)) left ∙ by_next of n (65 + i) ∙ ap (λ (k : ℕ). these ++ of_classes of n k) (sym next) in
    ap (λ (l : List Pickup). l ++ of_classes of n (65 + (i + 1))) head
    ∙ append_assoc mid these (of_classes of n (65 + (i + 1)))
    ∙ ap (λ (l : List Pickup). mid ++ l) (sym rest)
    ∙ so_far

pub classes_whole : (of : ℕ → Pickup) (i : ℕ) (all whole : List Pickup) → all ++ of_classes of (26 - i) (65 + i) ≡ whole → 26 ≤ i
    → all ≡ whole
classes_whole of i all whole so_far over =
    let none : 26 - i ≡ 0 = omega (arith, over) in
    sym (append-nil all) ∙ ap (λ (k : ℕ). all ++ of_classes of k (65 + i)) (sym none) ∙ so_far

-- ---- flights

pub flight_left : (asked : Option Designator) (of : ℕ → Flown → ℕ → Pickup) (i : ℕ) (flight : Flown) (all : List Pickup)
    → keeps_flight asked flight ≡ false → all ≡ all ++ of_flight asked of i flight
flight_left asked of i flight all e =
    sym (append-nil all) ∙ ap (λ (b : Bool). all ++ (if b then of_letters (of i flight) else [])) (sym e)

pub flight_kept : (asked : Option Designator) (of : ℕ → Flown → ℕ → Pickup) (i : ℕ) (flight : Flown) (old new : List Pickup)
    → keeps_flight asked flight ≡ true → new ≡ old ++ of_letters (of i flight) → new ≡ old ++ of_flight asked of i flight
flight_kept asked of i flight old new e put = put ∙ ap (λ (b : Bool). old ++ (if b then of_letters (of i flight) else [])) (sym e)

pub flight_more : (asked : Option Designator) (of : ℕ → Flown → ℕ → Pickup) (flights : List Flown) (i : ℕ) (flight : Flown)
    (mid new whole : List Pickup) → mid ++ of_flights asked of i (drop i flights) ≡ whole → i < length flights → flight ≡ get_or flights i flight
    → new ≡ mid ++ of_flight asked of i flight → new ++ of_flights asked of (i + 1) (drop (i + 1) flights) ≡ whole
flight_more asked of flights i flight mid new whole so_far inside is put =
    let rest : drop i flights ≡ flight ∷ drop (i + 1) flights = drop_step flights i flight inside is in
    ap (λ (l : List Pickup). l ++ of_flights asked of (i + 1) (drop (i + 1) flights)) put
    ∙ append_assoc mid (of_flight asked of i flight) (of_flights asked of (i + 1) (drop (i + 1) flights))
    ∙ ap (λ (l : List Flown). mid ++ of_flights asked of i l) (sym rest)
    ∙ so_far

pub flights_whole : (asked : Option Designator) (of : ℕ → Flown → ℕ → Pickup) (flights : List Flown) (i count : ℕ) (all whole : List Pickup)
    → all ++ of_flights asked of i (drop i flights) ≡ whole → count ≡ length flights → count ≤ i → all ≡ whole
flights_whole asked of flights i count all whole so_far counted over =
    let past : length flights ≤ i = omega (arith, counted, over) in
    sym (append-nil all) ∙ ap (λ (l : List Flown). all ++ of_flights asked of i l) (sym (drop_of_length-le flights past)) ∙ so_far
