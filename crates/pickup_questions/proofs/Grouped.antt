-- The rows of pickup, and the groups that they are of.
use Rattle.std.proofs.Common.{◌≡◌, ℕ, zero, suc, ◌+◌, ◌-◌, ◌<◌, ◌≤◌, ◌||◌, Bool, true, false, List, [], ◌∷◌, ◌++◌, length, min, max, slice_get, Option, Some, None, refl, sym, ap, subst, ◌∙◌, arith, if◌then◌else◌}
use Rattle.std.specs.Prelude.{nat_lt}
use Rattle.std.specs.List.{AllByRecursion}
use Rattle.ssim_flights.specs.declared.flight.DatedLeg.{DatedLeg}
use Rattle.ssim_flights.specs.declared.flight.Flight.{Flight as Flown}
use Rattle.seat_lists.specs.Picking.{keeps_flight}
use Rattle.seat_lists.specs.declared.picking.Designator.{Designator}
use Rattle.seat_pickup.specs.Pickups.{of_classes, of_flight, of_flights, of_letters, with_any}
use Rattle.seat_pickup.specs.declared.classes.Pickup.{Pickup}
use Rattle.table_questions.specs.SumRows.{day_count, days_from, earliest, earliest_of, latest, latest_of}
use Rattle.pickup_questions.specs.Groups.{start_group, start_groups}
use Rattle.pickup_questions.specs.Together.{HasLegs}

-- ---- what holds of each row

all_both : (P : Pickup → Type 0) (xs ys : List Pickup) → AllByRecursion P xs → AllByRecursion P ys → AllByRecursion P (xs ++ ys)
all_both P [] ys a b = b
all_both P (x ∷ xs) ys a b = (a.0, all_both P xs ys a.1 b)

all_if : (P : Pickup → Type 0) (b : Bool) (l : List Pickup) → AllByRecursion P l → AllByRecursion P (if b then l else [])
all_if P true l all = all
all_if P false l all = tt

all_any : (P : Pickup → Type 0) (p : Pickup) → P p → AllByRecursion P (with_any p)
all_any P p is = all_if P (nat_lt 0 p.before || nat_lt 0 p.sold || nat_lt 0 p.confirmed) (p ∷ []) (is, tt)

all_classes : (P : Pickup → Type 0) (of : ℕ → Pickup) (n class : ℕ) → ((k : ℕ) → class ≤ k → k < class + n → P (of k))
    → AllByRecursion P (of_classes of n class)
all_classes P of zero class is = tt
all_classes P of (suc n) class is =
    all_both P (with_any (of class)) (of_classes of n (class + 1)) (all_any P (of class) (is class (omega arith) (omega arith)))
    (all_classes P of n (class + 1) (λ k from to. is k (omega (arith, from)) (omega (arith, to))))

all_letters : (P : Pickup → Type 0) (of : ℕ → Pickup) → ((k : ℕ) → 65 ≤ k → k < 91 → P (of k)) → AllByRecursion P (of_letters of)
unfolding of_letters
all_letters P of is = all_classes P of 26 65 (λ k from to. is k from (omega (arith, to)))

pub all_flights : (P : Pickup → Type 0) (asked : Option Designator) (of : ℕ → Flown → ℕ → Pickup) (i : ℕ) (flights : List Flown)
    → ((j : ℕ) (flight : Flown) (k : ℕ) → slice_get flights j ≡ Some flight → 65 ≤ k → k < 91 → P (of (i + j) flight k))
    → AllByRecursion P (of_flights asked of i flights)
all_flights P asked of i [] is = tt
all_flights P asked of i (flight ∷ flights) is =
    all_both P (of_flight asked of i flight) (of_flights asked of (i + 1) flights)
    (all_if P (keeps_flight asked flight) (of_letters (of i flight)) (all_letters P (of i flight) here))
    (all_flights P asked of (i + 1) flights later)
  where
    here : (k : ℕ) → 65 ≤ k → k < 91 → P (of i flight k)
    here k from to =
        let same : i + 0 ≡ i = omega arith in
        subst (λ (m : ℕ). P (of m flight k)) same (is 0 flight k refl from to)

    later : (j : ℕ) (f : Flown) (k : ℕ) → slice_get flights j ≡ Some f → 65 ≤ k → k < 91 → P (of (i + 1 + j) f k)
    later j f k at from to =
        let same : i + suc j ≡ i + 1 + j = omega arith in
        subst (λ (m : ℕ). P (of m f k)) same (is (suc j) f k at from to)

-- ---- days

abbrev first_day : List DatedLeg → ℕ
first_day [] = 0
first_day (leg ∷ legs) = leg.day

earliest_within : (day : ℕ) (legs : List DatedLeg) → earliest day legs ≤ day
earliest_within day [] = omega arith
earliest_within day (leg ∷ legs) =
    let below : earliest (min day leg.day) legs ≤ min day leg.day = earliest_within (min day leg.day) legs in
    omega (arith, below)

latest_within : (day : ℕ) (legs : List DatedLeg) → day ≤ latest day legs
latest_within day [] = omega arith
latest_within day (leg ∷ legs) =
    let above : max day leg.day ≤ latest (max day leg.day) legs = latest_within (max day leg.day) legs in
    omega (arith, above)

earliest_of_within : (day : ℕ) (flights : List Flown) → earliest_of day flights ≤ day
earliest_of_within day [] = omega arith
earliest_of_within day (flight ∷ flights) =
    let below : earliest_of (earliest day flight.legs) flights ≤ earliest day flight.legs = earliest_of_within (earliest day flight.legs) flights in
    let own : earliest day flight.legs ≤ day = earliest_within day flight.legs in
    omega (arith, below, own)

latest_of_within : (day : ℕ) (flights : List Flown) → day ≤ latest_of day flights
latest_of_within day [] = omega arith
latest_of_within day (flight ∷ flights) =
    let above : latest day flight.legs ≤ latest_of (latest day flight.legs) flights = latest_of_within (latest day flight.legs) flights in
    let own : day ≤ latest day flight.legs = latest_within day flight.legs in
    omega (arith, above, own)

early_leg : (day : ℕ) (legs : List DatedLeg) → 0 < length legs → earliest day legs ≤ first_day legs
early_leg day [] some = absurd (omega (arith, some))
early_leg day (leg ∷ legs) some =
    let below : earliest (min day leg.day) legs ≤ min day leg.day = earliest_within (min day leg.day) legs in
    omega (arith, below)

late_leg : (day : ℕ) (legs : List DatedLeg) → 0 < length legs → first_day legs ≤ latest day legs
late_leg day [] some = absurd (omega (arith, some))
late_leg day (leg ∷ legs) some =
    let above : max day leg.day ≤ latest (max day leg.day) legs = latest_within (max day leg.day) legs in
    omega (arith, above)

early : (day : ℕ) (flights : List Flown) (j : ℕ) (flight : Flown) → slice_get flights j ≡ Some flight → 0 < length flight.legs
    → earliest_of day flights ≤ first_day flight.legs
early day [] j flight at some = absurd cc
early day (f ∷ flights) zero flight at some =
    let same : f ≡ flight = cc in
    let below : earliest_of (earliest day f.legs) flights ≤ earliest day f.legs = earliest_of_within (earliest day f.legs) flights in
    let has : 0 < length f.legs = subst (λ (g : Flown). 0 < length g.legs) (sym same) some in
    let own : earliest day f.legs ≤ first_day f.legs = early_leg day f.legs has in
    let day_is : first_day f.legs ≡ first_day flight.legs = ap (λ (g : Flown). first_day g.legs) same in
    omega (arith, below, own, day_is)
early day (f ∷ flights) (suc j) flight at some = early (earliest day f.legs) flights j flight at some

late : (day : ℕ) (flights : List Flown) (j : ℕ) (flight : Flown) → slice_get flights j ≡ Some flight → 0 < length flight.legs
    → first_day flight.legs ≤ latest_of day flights
late day [] j flight at some = absurd cc
late day (f ∷ flights) zero flight at some =
    let same : f ≡ flight = cc in
    let above : latest day f.legs ≤ latest_of (latest day f.legs) flights = latest_of_within (latest day f.legs) flights in
    let has : 0 < length f.legs = subst (λ (g : Flown). 0 < length g.legs) (sym same) some in
    let own : first_day f.legs ≤ latest day f.legs = late_leg day f.legs has in
    let day_is : first_day f.legs ≡ first_day flight.legs = ap (λ (g : Flown). first_day g.legs) same in
    omega (arith, above, own, day_is)
late day (f ∷ flights) (suc j) flight at some = late (latest day f.legs) flights j flight at some

start_is : (first : ℕ) (legs : List DatedLeg) → 0 < length legs → start_group first legs ≡ first_day legs - first
start_is first [] some = absurd (omega (arith, some))
start_is first (leg ∷ legs) some = refl

-- the group of a flight is one of the days
pub start_within : (flights : List Flown) (j : ℕ) (flight : Flown) → slice_get flights j ≡ Some flight → 0 < length flight.legs
    → start_group (days_from flights) flight.legs < day_count flights
start_within flights j flight at some =
    let from : days_from flights ≤ first_day flight.legs = early 84005 flights j flight at some in
    let to : first_day flight.legs ≤ latest_of 0 flights = late 0 flights j flight at some in
    let is : start_group (days_from flights) flight.legs ≡ first_day flight.legs - days_from flights = start_is (days_from flights) flight.legs some in
    omega (arith, from, to, is)

pub starts_at : (first : ℕ) (flights : List Flown) (j : ℕ) (flight : Flown) → slice_get flights j ≡ Some flight
    → slice_get (start_groups first flights) j ≡ Some (start_group first flight.legs)
starts_at first [] j flight at = absurd cc
starts_at first (f ∷ flights) zero flight at =
    let same : f ≡ flight = cc in
    ap (λ (g : Flown). Some (start_group first g.legs)) same
starts_at first (f ∷ flights) (suc j) flight at = starts_at first flights j flight at

pub has_legs_at : (flights : List Flown) (j : ℕ) (flight : Flown) → AllByRecursion HasLegs flights → slice_get flights j ≡ Some flight
    → 0 < length flight.legs
has_legs_at [] j flight all at = absurd cc
has_legs_at (f ∷ flights) zero flight all at =
    let same : f ≡ flight = cc in
    subst (λ (g : Flown). 0 < length g.legs) same all.0
has_legs_at (f ∷ flights) (suc j) flight all at = has_legs_at flights j flight all.1 at
