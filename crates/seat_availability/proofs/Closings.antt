-- A class that is closed on a leg of a place: no room is told, and nothing may wait.
use Rattle.std.proofs.Common.{◌≡◌, ◌==◌, ◌&&◌, ℕ, zero, suc, ◌+◌, ◌-◌, Bool, true, false, cond, if◌then◌else◌, not, nat_le, nat_lt, List, [], ◌∷◌, refl, ap, sym, ◌∙◌, arith}
use Rattle.std.proofs.lemmas.Bool.Decides.{nat_tests}
use Rattle.airline_base.specs.declared.place.Place.{Place}
use Rattle.seat_nesting.specs.Nesting.{ByClass, Ladders, Steps, Table, each_leg, ladder_at, may_wait, may_wait_on}
use Rattle.seat_nesting.specs.declared.ladder.Step.{Step}
use Rattle.seat_rules.specs.Bookings.{waiting}
use Rattle.seat_rules.specs.Sequential.{State, room_left}
use Rattle.seat_questions.specs.Rooms.{is_unclosed, none_closed}
use Rattle.seat_questions.proofs.Closings.{closed_has_no_room}
use Rattle.seat_availability.specs.Messages.{ClosedIsTold}
use Rattle.seat_availability.specs.Partners.{threshold_of}
use Rattle.seat_availability.specs.Statuses.{is_operated, status_of}
use Rattle.seat_availability.specs.declared.statuses.Status.{Status}
use Rattle.seat_availability.specs.declared.statuses.Status.TheVariants.{Closed}

-- nothing more may wait in a class that is closed on a leg
none_waits : (steps : Steps) (seats : ByClass) (class n : ℕ) → is_unclosed steps class ≡ false
    → may_wait_on steps seats class n ≡ false
none_waits [] seats class n e = refl
none_waits (s ∷ lower) seats class n e = of (s.class == class) s.closed (nat_le (seats class + n) s.wait) e (none_waits lower seats class n)
  where
    of : (b c may : Bool) → cond b (not c) (is_unclosed lower class) ≡ false
        → (is_unclosed lower class ≡ false → may_wait_on lower seats class n ≡ false)
        → cond b (not c && may) (may_wait_on lower seats class n) ≡ false
    of true true may e below = refl
    of true false may e below = absurd cc
    of false c may e below = below e

-- where a leg fails a test, it fails another that it passes only with the first
each_fails : (p q : ℕ → Bool) (from n : ℕ) → ((leg : ℕ) → p leg ≡ false → q leg ≡ false) → each_leg p from n ≡ false
    → each_leg q from n ≡ false
each_fails p q from zero fails e = fails from e
each_fails p q from (suc n) fails e =
    of (each_leg p from n) (p (from + suc n)) (each_leg q from n) (q (from + suc n)) e (each_fails p q from n fails) (fails (from + suc n))
  where
    of : (a b c d : Bool) → (a && b) ≡ false → (a ≡ false → c ≡ false) → (b ≡ false → d ≡ false) → (c && d) ≡ false
    of false b c d e before last = ap (λ (x : Bool). x && d) (before refl)
    of true false true d e before last = last refl
    of true false false d e before last = refl
    of true true c d e before last = absurd cc

-- none may wait on the place
no_list : (s : State) (place : Place) (class n : ℕ) → none_closed s.grid place class ≡ false
    → may_wait s.grid (waiting s.bookings) place class n ≡ false
no_list s place class n e = cases (nat_le place.from place.to)
  where
    waits : ℕ → Bool
    waits leg = may_wait_on (ladder_at s.grid place.flight leg) (waiting s.bookings place.flight leg) class n

    none : each_leg waits place.from (place.to - place.from) ≡ false
    none =
        each_fails (λ leg. is_unclosed (ladder_at s.grid place.flight leg) class) waits place.from (place.to - place.from)
        (λ leg shut. none_waits (ladder_at s.grid place.flight leg) (waiting s.bookings place.flight leg) class n shut) e

    cases : (b : Bool) → (b && each_leg waits place.from (place.to - place.from)) ≡ false
    cases true = none
    cases false = refl

pub closed_is_told : ClosedIsTold
closed_is_told asked s segment operated shut =
    let least : ℕ = threshold_of asked.partner.now segment.class in
    let room : room_left s segment.place segment.class ≡ 0 = closed_has_no_room s segment.place segment.class shut in
    let list : may_wait s.grid (waiting s.bookings) segment.place segment.class 1 ≡ false = no_list s segment.place segment.class 1 shut in
    let over : nat_lt least (room_left s segment.place segment.class) ≡ false = ap (nat_lt least) room ∙ none_under least in
    ap (λ (b : Bool). status_of b (nat_lt least (room_left s segment.place segment.class)) (may_wait s.grid (waiting s.bookings) segment.place segment.class 1)) operated
    ∙ ap (λ (b : Bool). status_of true b (may_wait s.grid (waiting s.bookings) segment.place segment.class 1)) over
    ∙ ap (λ (b : Bool). status_of true false b) list
  where
    none_under : (n : ℕ) → nat_lt n 0 ≡ false
    none_under n = grind (arith, nat_tests)
