-- Letters, and numbers of classes over legs.
use Rattle.std.proofs.Common.{arith, Bool, true, false, ◌≡◌, ℕ, ◌≤◌, Some, None, sym, ap, ◌∙◌, if◌then◌else◌}
use Rattle.std.proofs.lemmas.Bool.Decides.{nat_tests}
use Rattle.std.specs.Char.{is_ascii_uppercase}
use Rattle.ssim_flights.specs.declared.flight.DatedLeg.{DatedLeg}
use Rattle.ssim_flights.specs.declared.flight.Flight.{Flight as Flown}
use Rattle.seat_lists.specs.Picking.{keeps_flight}
use Rattle.seat_loads.specs.Legs.{is_kept}
use Rattle.seat_loads.specs.Sums.{on_flight, on_leg, on_legs}
use Rattle.seat_loads.specs.declared.loads.LoadsOf.{LoadsOf}

-- each of these letters is that of a class
pub is_letter : (letter : ℕ) → 65 ≤ letter → letter ≤ 90 → is_ascii_uppercase letter ≡ true
is_letter letter low high = grind (arith, nat_tests, low, high)

-- ---- a flight and a leg that are kept, and that are not

pub flight_left : (asked : LoadsOf) (count : ℕ → ℕ → ℕ) (i : ℕ) (flight : Flown) → keeps_flight asked.flight flight ≡ false
    → 0 ≡ on_flight asked count i flight
flight_left asked count i flight e = sym (ap (λ (b : Bool). if b then on_legs asked count i flight else 0) e)

pub flight_kept : (asked : LoadsOf) (count : ℕ → ℕ → ℕ) (i : ℕ) (flight : Flown) (n : ℕ) → keeps_flight asked.flight flight ≡ true
    → n ≡ on_legs asked count i flight → n ≡ on_flight asked count i flight
flight_kept asked count i flight n e is = is ∙ sym (ap (λ (b : Bool). if b then on_legs asked count i flight else 0) e)

pub leg_left : (asked : LoadsOf) (count : ℕ → ℕ → ℕ) (i j : ℕ) (leg : DatedLeg) → is_kept asked leg ≡ false
    → 0 ≡ on_leg asked count i j leg
leg_left asked count i j leg e = sym (ap (λ (b : Bool). if b then count i j else 0) e)

pub leg_kept : (asked : LoadsOf) (count : ℕ → ℕ → ℕ) (i j : ℕ) (leg : DatedLeg) (n : ℕ) → is_kept asked leg ≡ true
    → n ≡ count i j → n ≡ on_leg asked count i j leg
leg_kept asked count i j leg n e is = is ∙ sym (ap (λ (b : Bool). if b then count i j else 0) e)

-- ---- the class of a letter

pub same_class : (letter class : ℕ) (b : Bool) → b ≡ true → Some class ≡ (if b then Some letter else None) → class ≡ letter
same_class letter class true e is = cc
same_class letter class false e is = absurd cc
