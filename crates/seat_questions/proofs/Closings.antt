-- A class that is closed on a leg of a place: there is no room for it on the place.
use Rattle.std.proofs.Common.{◌≡◌, ◌==◌, ◌&&◌, ℕ, zero, suc, ◌+◌, ◌-◌, min, Bool, true, false, cond, if◌then◌else◌, not, nat_le, List, [], ◌∷◌, refl, arith}
use Rattle.airline_base.specs.declared.place.Place.{Place}
use Rattle.seat_nesting.specs.Nesting.{ByClass, Ladders, Steps, each_leg, is_open_on, ladder_at, least, room, room_on}
use Rattle.seat_nesting.specs.declared.ladder.Step.{Step}
use Rattle.seat_nesting.proofs.SaleChanges.{shut_room}
use Rattle.seat_rules.specs.Bookings.{held}
use Rattle.seat_questions.specs.Rooms.{ClosedHasNoRoom, is_unclosed, none_closed}

-- a class that is closed on a leg is not open there
pub closed_there : (steps : Steps) (class : ℕ) → is_unclosed steps class ≡ false → is_open_on steps class ≡ false
closed_there [] class e = refl
closed_there (s ∷ lower) class e = of (s.class == class) e (closed_there lower class)
  where
    of : (b : Bool) → cond b (not s.closed) (is_unclosed lower class) ≡ false
        → (is_unclosed lower class ≡ false → is_open_on lower class ≡ false)
        → cond b (not s.closed) (is_open_on lower class) ≡ false
    of true e below = e
    of false e below = below e

-- where a leg fails a test that legs with any seats pass, the least is none
least_none : (p : ℕ → Bool) (f : ℕ → ℕ) (from n : ℕ) → ((leg : ℕ) → p leg ≡ false → f leg ≡ 0) → each_leg p from n ≡ false
    → least f from n ≡ 0
least_none p f from zero none e = none from e
least_none p f from (suc n) none e = of (each_leg p from n) (p (from + suc n)) e (least_none p f from n none) (none (from + suc n))
  where
    of : (a b : Bool) → (a && b) ≡ false → (a ≡ false → least f from n ≡ 0) → (b ≡ false → f (from + suc n) ≡ 0)
        → min (least f from n) (f (from + suc n)) ≡ 0
    of false b e before last = omega (arith, before refl)
    of true false e before last = omega (arith, last refl)
    of true true e before last = absurd cc

pub closed_has_no_room : ClosedHasNoRoom
closed_has_no_room state place class e = cases (nat_le place.from place.to)
  where
    f : ℕ → ℕ
    f leg = room_on (ladder_at state.grid place.flight leg) (held state.bookings place.flight leg) class

    none : least f place.from (place.to - place.from) ≡ 0
    none =
        least_none (λ leg. is_unclosed (ladder_at state.grid place.flight leg) class) f place.from (place.to - place.from)
        (λ leg shut. shut_room (ladder_at state.grid place.flight leg) (held state.bookings place.flight leg) class (closed_there (ladder_at state.grid place.flight leg) class shut)) e

    cases : (b : Bool) → cond b (least f place.from (place.to - place.from)) 0 ≡ 0
    cases true = none
    cases false = refl
