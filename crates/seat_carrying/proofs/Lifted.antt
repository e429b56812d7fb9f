-- Lifted limits nest and have room; and who isn't held again found none.
use Rattle.std.proofs.Common.{◌≡◌, ◌==◌, ℕ, ◌≤◌, ◌<◌, min, max, Bool, true, false, nat_le, codes, List, [], ◌∷◌, None, arith, refl, ap, sym, subst}
use Rattle.std.proofs.lemmas.Bool.Decides.{nat_tests}
use Rattle.std.specs.List.{AllByRecursion}
use Rattle.airline_base.specs.declared.place.Place.{Place}
use Rattle.seat_journal.specs.declared.entry.Work.TheVariants.{Seats}
use Rattle.seat_nesting.specs.declared.ladder.Step.{Step}
use Rattle.seat_nesting.specs.Nesting.{IsNotRising, IsWithin, Steps, has_class, held_from}
use Rattle.seat_nesting.proofs.Rooms.{held_cons}
use Rattle.seat_rules.specs.declared.booking.Status.{Status}
use Rattle.seat_rules.specs.declared.booking.Status.TheVariants.{Held}
use Rattle.seat_rules.specs.Sequential.{State, answer, booking_for, room_left}
use Rattle.seat_carrying.specs.Carrying.{wait_of}
use Rattle.seat_carrying.specs.Laws.{LiftedHasRoom, WhoLosesFoundNoRoom}
use Rattle.seat_carrying.specs.Lifting.{IsNoLess, lifted_step, lifted}
use Rattle.seat_carrying.proofs.Asking.{ask_for}

-- the seats of a class count
held_lower : (seats : ℕ → ℕ) (s : Step) (lower : Steps) → held_from seats lower ≤ held_from seats (s ∷ lower)
held_lower seats s lower = omega (arith, held_cons seats s lower)

pub lifted_within : (top : ℕ) (seats waits : ℕ → ℕ) (steps : Steps) → held_from seats steps ≤ top
    → IsWithin (lifted top seats waits steps) seats
lifted_within top seats waits [] le = tt
lifted_within top seats waits (s ∷ lower) le =
    (omega (arith, le, held_as (s ∷ lower)), lifted_within top seats waits lower (omega (arith, le, held_lower seats s lower)))
  where
    held_as : (xs : Steps) → held_from seats (lifted top seats waits xs) ≡ held_from seats xs
    held_as [] = refl
    held_as (x ∷ xs) =
        omega (arith, held_cons seats x xs, held_cons seats (lifted_step top seats waits xs x) (lifted top seats waits xs), held_as xs)

-- no limit rises
under : (top : ℕ) (seats waits : ℕ → ℕ) (bound : ℕ) (steps : Steps) (limit : ℕ) → AllByRecursion (λ (t : Step). t.limit ≤ limit) steps
    → held_from seats steps ≤ bound
    → AllByRecursion (λ (t : Step). t.limit ≤ min top (max limit bound)) (lifted top seats waits steps)
under top seats waits bound [] limit all le = tt
under top seats waits bound (s ∷ lower) limit all le =
    (omega (arith, all.0, le), under top seats waits bound lower limit all.1 (omega (arith, le, held_lower seats s lower)))

pub lifted_falls : (top : ℕ) (seats waits : ℕ → ℕ) (steps : Steps) → IsNotRising steps → IsNotRising (lifted top seats waits steps)
lifted_falls top seats waits [] falls = tt
lifted_falls top seats waits (s ∷ lower) falls =
    (under top seats waits (held_from seats (s ∷ lower)) lower s.limit falls.0 (held_lower seats s lower), lifted_falls top seats waits lower falls.1)

pub lifted_waits : (top : ℕ) (seats waits : ℕ → ℕ) (steps : Steps) (class : ℕ) → waits class ≤ 999 → has_class steps class ≡ true
    → waits class ≤ wait_of (lifted top seats waits steps) class
lifted_waits top seats waits [] class few there = absurd cc
lifted_waits top seats waits (s ∷ lower) class few there = cases (s.class == class) refl (lifted_waits top seats waits lower class few) where
  cases : (t : Bool) → (s.class == class) ≡ t
      → (has_class lower class ≡ true → waits class ≤ wait_of (lifted top seats waits lower) class)
      → waits class ≤ wait_of (lifted top seats waits (s ∷ lower)) class
  cases true e rest = let is : s.class ≡ class = grind (arith, nat_tests) in rw e (omega (arith, few, ap waits is))
  cases false e rest =
      let other : (class == s.class) ≡ false = grind (arith, nat_tests) in
      let lower_has : has_class lower class ≡ true = rw other at there in
      rw e (rest lower_has)

lifted_no_less : (top : ℕ) (seats waits : ℕ → ℕ) (steps : Steps)
    → AllByRecursion (λ (s : Step). (s.limit ≤ top) × (s.wait ≤ 999)) steps → IsNoLess steps (lifted top seats waits steps)
lifted_no_less top seats waits [] all = refl
lifted_no_less top seats waits (s ∷ lower) all =
    (refl, omega (arith, all.0.0), omega (arith, all.0.1), lifted_no_less top seats waits lower all.1)

pub lifted_has_room : LiftedHasRoom
lifted_has_room top steps seats waits falls few held_few waits_few = record {
  within = lifted_within top seats waits steps held_few;
  not_rising = lifted_falls top seats waits steps falls;
  waits_there = λ class there. lifted_waits top seats waits steps class (waits_few class) there;
  no_less = lifted_no_less top seats waits steps few;
}

-- ---- who loses

-- SS without such a booking is KK where it fits
sells : (s : State) (line : ℕ) (locator : List ℕ) (place : Place) (class seats : ℕ)
    → booking_for s (ask_for locator place class seats Held) place ≡ None → nat_le seats (room_left s place class) ≡ true
    → (answer s line (Seats (ask_for locator place class seats Held))).reply ≡ codes "KK"
sells s line locator place class seats none fits = rw (none, fits) refl

pub who_loses_found_no_room : WhoLosesFoundNoRoom
who_loses_found_no_room s line b is none lost = cases (nat_le b.seats (room_left s b.place b.class)) refl where
  Sold : Status → Type 0
  Sold status = (answer s line (Seats (ask_for b.locator b.place b.class b.seats status))).reply ≡ codes "KK"

  cases : (t : Bool) → nat_le b.seats (room_left s b.place b.class) ≡ t → room_left s b.place b.class < b.seats
  cases true e = absurd (lost (subst Sold (sym is) (sells s line b.locator b.place b.class b.seats none e)))
  cases false e = grind (arith, nat_tests)
