-- What is kept of a list, in order, and what holds of all of it.
use Rattle.std.proofs.Common.{◌≡◌, ◌≤◌, ◌<◌, ◌+◌, ℕ, Bool, true, false, cond, List, [], ◌∷◌, ◌++◌, filter, length, take, get_or, if◌then◌else◌, sym, ap, ◌∙◌, arith}
use Rattle.std.proofs.lemmas.List.{take_all}
use Rattle.std.proofs.lemmas.List.Elements.{All-filter, All-from_recursion, All-weaker, filter_more, filter_passes, recursion_from_All}
use Rattle.std.specs.List.{All, AllByRecursion}
use Rattle.ssim_flights.specs.declared.flight.Flight.{Flight as Flown}
use Rattle.seat_journal.specs.declared.entry.Change.{Change}
use Rattle.seat_rules.specs.Bookings.{Differs, IsApart}
use Rattle.seat_rules.specs.declared.booking.Booking.{Booking}
use Rattle.seat_carrying.specs.Owned.{bookings_of}
use Rattle.seat_carrying.specs.declared.owned.Owned.{Owned}
use Rattle.carry_lines.specs.declared.mark.Mark.{Mark}
use Rattle.carry_parts.specs.Parts.{has_flight, own_changes, own_marks, own_owned}
use Rattle.carry_parts.specs.declared.part.Part.{Part}

-- ---- one after the other

pub kept_more : {X : Type 0} (p : X → Bool) (xs all new : List X) (i : ℕ) (x : X) (t : Bool) → all ≡ filter p (take i xs) → i < length xs
    → x ≡ get_or xs i x → t ≡ p x → new ≡ all ++ (if t then x ∷ [] else []) → new ≡ filter p (take (i + 1) xs)
kept_more {X = X} p xs all new i x t so_far inside here is added =
    added ∙ ap (λ (l : List X). l ++ (if t then x ∷ [] else [])) so_far
    ∙ ap (λ (b : Bool). filter p (take i xs) ++ (if b then x ∷ [] else [])) is
    ∙ ap (λ (y : X). filter p (take i xs) ++ (if p y then y ∷ [] else [])) here
    ∙ sym (filter_more p xs i x inside)

pub kept_all : {X : Type 0} (p : X → Bool) (xs all : List X) (i : ℕ) → all ≡ filter p (take i xs) → ((i < length xs) → ⊥) → all ≡ filter p xs
kept_all p xs all i so_far past = so_far ∙ ap (filter p) (take_all i xs (omega (arith, past)))

-- ---- how many

few_left : {X : Type 0} (p : X → Bool) (xs : List X) → length (filter p xs) ≤ length xs
few_left p [] = omega arith
few_left p (x ∷ xs) = by (p x) (few_left p xs) where
  by : (b : Bool) → length (filter p xs) ≤ length xs → length (cond b (x ∷ filter p xs) (filter p xs)) ≤ length (x ∷ xs)
  by true h = omega (arith, h)
  by false h = omega (arith, h)

pub few_kept : {X : Type 0} (p : X → Bool) (xs all : List X) (i : ℕ) → all ≡ filter p (take i xs) → length xs ≤ i → length all ≤ length xs
few_kept p xs all i so_far past =
    let long : length all ≡ length (filter p xs) = ap length (so_far ∙ ap (filter p) (take_all i xs past)) in
    omega (arith, long, few_left p xs)

pub few_changes : (part : Part) (news : List Flown) (rows : List Change) → length (own_changes part news rows) ≤ length rows
few_changes part news rows = few_left (λ row. has_flight part news row.flight) rows

pub few_owned : (part : Part) (news : List Flown) (kept : List Owned) → length (own_owned part news kept) ≤ length kept
few_owned part news kept = few_left (λ o. has_flight part news o.booking.place.flight) kept

pub few_marks : (part : Part) (news : List Flown) (marks : List Mark) → length (own_marks part news marks) ≤ length marks
few_marks part news marks = few_left (λ m. has_flight part news m.flight) marks

-- ---- what holds of all

pub all_changes : (P : Change → Type 0) (part : Part) (news : List Flown) (rows : List Change) → All P rows → All P (own_changes part news rows)
all_changes P part news rows all = All-filter (λ row. has_flight part news row.flight) P rows all

pub all_owned : (P : Owned → Type 0) (part : Part) (news : List Flown) (kept : List Owned) → All P kept → All P (own_owned part news kept)
all_owned P part news kept all = All-filter (λ o. has_flight part news o.booking.place.flight) P kept all

pub all_marks : (P : Mark → Type 0) (part : Part) (news : List Flown) (marks : List Mark) → All P marks → All P (own_marks part news marks)
all_marks P part news marks all = All-filter (λ m. has_flight part news m.flight) P marks all

-- the same by recursion on the list
pub each_left : {X : Type 0} (P : X → Type 0) (p : X → Bool) (xs : List X) → AllByRecursion P xs → AllByRecursion P (filter p xs)
each_left P p xs all = recursion_from_All P (filter p xs) (All-filter p P xs (All-from_recursion P xs all))

pub each_passes : {X : Type 0} (P : X → Type 0) (p : X → Bool) → ((x : X) → p x ≡ true → P x) → (xs : List X) → AllByRecursion P (filter p xs)
each_passes P p says xs = recursion_from_All P (filter p xs) (All-weaker (λ x. p x ≡ true) P says (filter p xs) (filter_passes p xs))

-- ---- the bookings of those that are left

bookings_left : (P : Booking → Type 0) (p : Owned → Bool) (os : List Owned) → AllByRecursion P (bookings_of os)
    → AllByRecursion P (bookings_of (filter p os))
bookings_left P p [] all = tt
bookings_left P p (o ∷ os) all = by (p o) (bookings_left P p os all.1) where
  by : (b : Bool) → AllByRecursion P (bookings_of (filter p os)) → AllByRecursion P (bookings_of (cond b (o ∷ filter p os) (filter p os)))
  by true rest = (all.0, rest)
  by false rest = rest

pub each_booking : (P : Booking → Type 0) (part : Part) (news : List Flown) (kept : List Owned) → AllByRecursion P (bookings_of kept)
    → AllByRecursion P (bookings_of (own_owned part news kept))
each_booking P part news kept all = bookings_left P (λ o. has_flight part news o.booking.place.flight) kept all

apart_left : (p : Owned → Bool) (os : List Owned) → IsApart (bookings_of os) → IsApart (bookings_of (filter p os))
apart_left p [] apart = tt
apart_left p (o ∷ os) apart = by (p o) (apart_left p os apart.1) where
  by : (b : Bool) → IsApart (bookings_of (filter p os)) → IsApart (bookings_of (cond b (o ∷ filter p os) (filter p os)))
  by true rest = (bookings_left (Differs o.booking) p os apart.0, rest)
  by false rest = rest

pub stay_apart : (part : Part) (news : List Flown) (kept : List Owned) → IsApart (bookings_of kept)
    → IsApart (bookings_of (own_owned part news kept))
stay_apart part news kept apart = apart_left (λ o. has_flight part news o.booking.place.flight) kept apart
