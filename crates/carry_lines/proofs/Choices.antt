-- What can be asked for is what an agent's session may ask for.
use Rattle.std.proofs.Common.{◌≡◌, ◌↔◌, ◌&&◌, ◌≤◌, ◌<◌, ℕ, nat_le, nat_lt, Bool, true, false, IsTrue, List, [], ◌∷◌, length, filter, arith, refl}
use Rattle.std.proofs.lemmas.Bool.Decides.{nat_tests}
use Rattle.std.proofs.lemmas.List.Elements.{All-weaker, filter_passes}
use Rattle.std.specs.List.{All, AllByRecursion}
use Rattle.airline_base.proofs.Tests.{both_true}
use Rattle.airline_base.specs.declared.place.Place.{Place}
use Rattle.seat_nesting.specs.Nesting.{Fits, Ladders, legs_of}
use Rattle.seat_rules.specs.Bookings.{Differs, IsApart}
use Rattle.seat_rules.specs.declared.booking.Booking.{Booking}
use Rattle.seat_carrying.specs.Carrying.{sells}
use Rattle.seat_carrying.specs.Owned.{IsOwned, bookings_of}
use Rattle.seat_carrying.specs.declared.owned.Owned.{Owned}
use Rattle.carry_lines.specs.Carriable.{StaysApart, is_agent, is_carriable, is_party, is_there}

le_of : (m n : ℕ) → nat_le m n ≡ true → m ≤ n
le_of m n e = grind (arith, nat_tests)

lt_of : (m n : ℕ) → nat_lt m n ≡ true → m < n
lt_of m n e = grind (arith, nat_tests)

owned_of : (grid : Ladders) (o : Owned) → is_carriable grid o ≡ true → IsOwned grid o
owned_of grid o e =
    let first = both_true (is_agent o.session && is_party o.booking.seats && is_there grid o.booking.place) (sells grid o.booking.place o.booking.class) e in
    let second = both_true (is_agent o.session && is_party o.booking.seats) (is_there grid o.booking.place) first.0 in
    let third = both_true (is_agent o.session) (is_party o.booking.seats) second.0 in
    let agent = both_true (nat_le 1 o.session) (nat_le o.session 8) third.0 in
    let party = both_true (nat_le 1 o.booking.seats) (nat_le o.booking.seats 999) third.1 in
    let there = both_true (nat_le o.booking.place.from o.booking.place.to) (nat_lt o.booking.place.to (length (legs_of grid o.booking.place.flight))) second.1 in
    record {
      some = le_of 1 o.session agent.0;
      few = le_of o.session 8 agent.1;
      fits = (
        le_of 1 o.booking.seats party.0,
        le_of o.booking.seats 999 party.1,
        (
          le_of o.booking.place.from o.booking.place.to there.0,
          lt_of o.booking.place.to (length (legs_of grid o.booking.place.flight)) there.1,
        ),
      );
    }

pub all_owned : (grid : Ladders) (moved : List Owned) → All (IsOwned grid) (filter (is_carriable grid) moved)
all_owned grid moved =
    All-weaker (λ o. is_carriable grid o ≡ true) (IsOwned grid) (λ o e. owned_of grid o e) (filter (is_carriable grid) moved)
    (filter_passes (is_carriable grid) moved)

pub there_test : (b : Bool) (grid : Ladders) (place : Place) → (IsTrue b ↔ Fits grid place) → b ≡ is_there grid place
there_test b grid place e = grind (arith, nat_tests)

-- ---- those that are left are apart as all were

all_left : (p : Owned → Bool) (P : Booking → Type 0) (os : List Owned) → AllByRecursion P (bookings_of os)
    → AllByRecursion P (bookings_of (filter p os))
all_left p P [] all = tt
all_left p P (o ∷ os) all = cases (p o) refl (all_left p P os all.1) where
  cases : (t : Bool) → p o ≡ t → AllByRecursion P (bookings_of (filter p os)) → AllByRecursion P (bookings_of (filter p (o ∷ os)))
  cases true e rest = rw e (all.0, rest)
  cases false e rest = rw e rest

apart_left : (p : Owned → Bool) (os : List Owned) → IsApart (bookings_of os) → IsApart (bookings_of (filter p os))
apart_left p [] apart = tt
apart_left p (o ∷ os) apart = cases (p o) refl (apart_left p os apart.1) where
  cases : (t : Bool) → p o ≡ t → IsApart (bookings_of (filter p os)) → IsApart (bookings_of (filter p (o ∷ os)))
  cases true e rest = rw e (all_left p (Differs o.booking) os apart.0, rest)
  cases false e rest = rw e rest

pub stays_apart : (grid : Ladders) (moved : List Owned) → StaysApart moved (filter (is_carriable grid) moved)
stays_apart grid moved = record { each = λ apart. apart_left (is_carriable grid) moved apart }
