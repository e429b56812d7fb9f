-- The lifted limits have room for all that is carried, where no leg has too much.
use Rattle.std.proofs.Common.{◌≡◌, ◌==◌, ◌&&◌, ℕ, zero, suc, ◌+◌, ◌-◌, ◌<◌, ◌≤◌, Bool, true, false, if◌then◌else◌, nat_le, nat_lt, min, List, [], ◌∷◌, ◌++◌, length, Option, Some, inl, inr, arith, refl, ap, sym, subst, ◌∙◌}
use Rattle.std.specs.Prelude.{◌⊎◌, slice_get}
use Rattle.std.specs.List.{AllByRecursion, sum_by}
use Rattle.std.proofs.lemmas.Bool.{and_parts, cases_Bool, eqb-true, false≢true, leb-true, lt-ltb, true≢false}
use Rattle.std.proofs.lemmas.Bool.Decides.{nat_tests}
use Rattle.std.proofs.lemmas.List.Sums.{sum_by-cons}
use Rattle.std.proofs.lemmas.Option.{slice_get_within}
use Rattle.airline_base.specs.declared.place.Place.{Place}
use Rattle.ssim_flights.specs.declared.flight.DatedLeg.{DatedLeg}
use Rattle.ssim_flights.specs.declared.flight.Flight.{Flight as Flown}
use Rattle.seat_nesting.specs.Nesting.{ByClass, IsWithin, Ladders, Steps, covers, each_leg, has_class, held_from, is_open_on, ladder_at}
use Rattle.seat_nesting.proofs.CountChanges.{each_leg_at}
use Rattle.seat_nesting.proofs.Rooms.{held_same, within_same}
use Rattle.seat_rules.specs.Bookings.{IsApart, held, is_held, seats_of, waiting, waits_on}
use Rattle.seat_rules.specs.declared.booking.Booking.{Booking}
use Rattle.seat_rules.proofs.Flight.View.{each_leg_same}
use Rattle.seat_carrying.specs.Carrying.{HasRoomFor, sells, wait_of}
use Rattle.seat_carrying.specs.Lifting.{lifted, top_of}
use Rattle.seat_carrying.proofs.Lifted.{lifted_waits, lifted_within}
use Rattle.limit_changes.specs.Laws.{SameRanks}
use Rattle.limit_changes.specs.Legs.{each_from, named_leg}
use Rattle.limit_changes.specs.declared.legs.NamedLeg.{NamedLeg}
use Rattle.carry_limits.specs.ByFlight.{IsByFlight, Lists, list_at}
use Rattle.carry_limits.specs.Changes.{HasSeatsFor}
use Rattle.carry_limits.specs.Legs.{HasLegsOf}
use Rattle.carry_limits.specs.Lifting.{held_on, lifted_limits, lifted_on, waits_on as waiting_on}
use Rattle.carry_limits.specs.Overs.{all_held, flight_overs, leg_over, most_counted, over_on, overs, seats_at}
use Rattle.carry_limits.specs.Wanting.{wanted_on}
use Rattle.carry_limits.specs.declared.counting.Over.{Over}
use Rattle.carry_limits.specs.declared.wanting.Seasons.{Seasons}
use Rattle.carry_limits.proofs.Grids.{IsThere, there_or_none}
use Rattle.carry_limits.proofs.Parted.{held_on_flight, waiting_on_flight}
use Rattle.carry_limits.proofs.Ranked.{lifted_ranks, open_has, same_held, same_none, same_open, wanted_ranks}

-- ---- no leg has too much

none_of_both : {B : Type 0} (xs ys : List B) → xs ++ ys ≡ [] → (xs ≡ []) × (ys ≡ [])
none_of_both [] ys e = (refl, e)
none_of_both (x ∷ xs) ys e = absurd cc

part_none : {A B : Type 0} (part : ℕ → A → List B) (n i : ℕ) (xs : List A) (x : A) → slice_get xs i ≡ Some x → each_from part n xs ≡ []
    → part (n + i) x ≡ []
part_none part n i [] x at none = absurd cc
part_none {A = A} {B = B} part n zero (y ∷ xs) x at none =
    let same : y ≡ x = cc in
    let whole : n ≡ n + 0 = omega arith in
    let here : part n y ≡ [] = (none_of_both (part n y) (each_from part (n + 1) xs) none).0 in
    subst (λ (k : ℕ). part k x ≡ []) whole (subst (λ (z : A). part n z ≡ []) same here)
part_none part n (suc i) (y ∷ xs) x at none =
    let next : n + 1 + i ≡ n + suc i = omega arith in
    subst (λ (k : ℕ). part k x ≡ []) next (part_none part (n + 1) i xs x at (none_of_both (part n y) (each_from part (n + 1) xs) none).1)

none_here : (file : Ladders) (lists : Lists) (flights : List Flown) (flight leg : ℕ) (is : IsThere flights flight leg) → overs file lists flights ≡ []
    → over_on file lists (named_leg flight is.flown leg is.run) ≡ []
none_here file lists flights flight leg is none =
    let here : 0 + flight ≡ flight = omega arith in
    let there : 0 + leg ≡ leg = omega arith in
    let on : flight_overs file lists flight is.flown ≡ [] =
    subst (λ (n : ℕ). flight_overs file lists n is.flown ≡ []) here (part_none (flight_overs file lists) 0 flight flights is.flown is.flight_at none) in
    subst (λ (n : ℕ). over_on file lists (named_leg flight is.flown n is.run) ≡ []) there (part_none (leg_over file lists flight is.flown) 0 leg is.flown.legs is.run is.leg_at on)

pub few_here : (file : Ladders) (lists : Lists) (leg : NamedLeg) → over_on file lists leg ≡ [] → all_held file lists leg ≤ seats_at file leg
few_here file lists leg none = by (nat_lt (seats_at file leg) (all_held file lists leg)) refl none where
  by : (b : Bool) → nat_lt (seats_at file leg) (all_held file lists leg) ≡ b
      → ◌≡◌ {A = List Over} (if b
      then record { leg = leg; held = min most_counted (all_held file lists leg); seats = seats_at file leg } ∷ []
      else []) []
      → all_held file lists leg ≤ seats_at file leg
  by true e h = absurd cc
  by false e h = grind (arith, nat_tests)

-- ---- who waits has a class that is there

module _ (grid : Ladders) (flight leg class : ℕ) (shut : is_open_on (ladder_at grid flight leg) class ≡ false) where
  none_waits : (b : Booking) → sells grid b.place b.class ≡ true → waits_on flight leg class b ≡ 0
  none_waits b sold = by (is_held b.status) (covers flight leg b.place) (b.class == class) refl refl where
    open_there : covers flight leg b.place ≡ true → (b.class == class) ≡ true → is_open_on (ladder_at grid flight leg) class ≡ true
    open_there over same =
        let one = and_parts ((b.place.flight == flight) && nat_le b.place.from leg) (nat_le leg b.place.to) over in
        let two = and_parts (b.place.flight == flight) (nat_le b.place.from leg) one.0 in
        let all = and_parts (nat_le b.place.from b.place.to) (each_leg (λ l. is_open_on (ladder_at grid b.place.flight l) b.class) b.place.from (b.place.to - b.place.from)) sold in
        let from : b.place.from ≤ leg = leb-true b.place.from leg two.1 in
        let to : leg ≤ b.place.to = leb-true leg b.place.to one.1 in
        let here : is_open_on (ladder_at grid b.place.flight leg) b.class ≡ true =
        each_leg_at (λ l. is_open_on (ladder_at grid b.place.flight l) b.class) b.place.from (b.place.to - b.place.from) leg all.1 from (omega (arith, from, to)) in
        let mine : b.place.flight ≡ flight = eqb-true b.place.flight flight two.0 in
        let its : b.class ≡ class = eqb-true b.class class same in
        subst (λ (k : ℕ). is_open_on (ladder_at grid flight leg) k ≡ true) its
        (subst (λ (f : ℕ). is_open_on (ladder_at grid f leg) b.class ≡ true) mine here)

    by : (t u v : Bool) → covers flight leg b.place ≡ u → (b.class == class) ≡ v
        → (if t then 0 else (if u && v then b.seats else 0)) ≡ 0
    by true u v e g = refl
    by false true true e g = absurd (false≢true (sym shut ∙ open_there e g))
    by false true false e g = refl
    by false false v e g = refl

  nobody_waits : (bookings : List Booking) → AllByRecursion (λ b. sells grid b.place b.class ≡ true) bookings → waiting bookings flight leg class ≡ 0
  nobody_waits [] all = refl
  nobody_waits (b ∷ bs) all =
      sum_by-cons (waits_on flight leg class) b bs ∙ ap (λ (n : ℕ). n + sum_by (waits_on flight leg class) bs) (none_waits b all.0)
      ∙ ap (λ (n : ℕ). 0 + n) (nobody_waits bs all.1)

-- ---- room for all

module _ (s : Seasons) (lists : Lists) (live : List Booking) (behind : Ladders)
    (has : HasLegsOf s.file.now s.flights.now)
    (reached : (flight leg : ℕ) → ladder_at behind flight leg ≡ lifted_on s lists flight leg)
    (by_flight : IsByFlight lists (length s.flights.now) live)
    (placed : AllByRecursion (λ b. sells s.file.now b.place b.class ≡ true) live)
    (none : overs s.file.now lists s.flights.now ≡ []) where
  abbrev top : ℕ → ℕ → ℕ
  top flight leg = top_of (ladder_at s.file.now flight leg)

  held_by_all : (flight leg : ℕ) → flight < length s.flights.now → (class : ℕ) → held_on lists flight leg class ≡ held live flight leg class
  held_by_all flight leg inside class =
      ap (λ (bs : List Booking). held bs flight leg class) (by_flight.each flight inside) ∙ held_on_flight live flight leg class

  waits_by_all : (flight leg : ℕ) → flight < length s.flights.now → (class : ℕ) → waiting_on lists flight leg class ≡ waiting live flight leg class
  waits_by_all flight leg inside class =
      ap (λ (bs : List Booking). waiting bs flight leg class) (by_flight.each flight inside) ∙ waiting_on_flight live flight leg class

  is_inside : (flight leg : ℕ) → IsThere s.flights.now flight leg → flight < length s.flights.now
  is_inside flight leg is = slice_get_within s.flights.now flight is.flown is.flight_at

  -- a leg of which the file has no limits has none
  bare : (flight leg : ℕ) → ladder_at s.file.now flight leg ≡ [] → ladder_at behind flight leg ≡ []
  bare flight leg nothing =
      reached flight leg
      ∙ same_none (lifted_on s lists flight leg) (subst (λ (l : Steps). SameRanks l (lifted_on s lists flight leg)) nothing (lifted_ranks s lists flight leg))

  within : (flight leg : ℕ) → IsWithin (ladder_at behind flight leg) (held live flight leg)
  within flight leg = by (there_or_none s.file.now s.flights.now has flight leg) where
    by : IsThere s.flights.now flight leg ⊎ (ladder_at s.file.now flight leg ≡ []) → IsWithin (ladder_at behind flight leg) (held live flight leg)
    by (inr nothing) = subst (λ (l : Steps). IsWithin l (held live flight leg)) (sym (bare flight leg nothing)) tt
    by (inl is) =
        let enough : held_from (held_on lists flight leg) (wanted_on s flight leg) ≤ top flight leg =
        omega (
          arith,
          few_here s.file.now lists (named_leg flight is.flown leg is.run) (none_here s.file.now lists s.flights.now flight leg is none),
          same_held (held_on lists flight leg) (ladder_at s.file.now flight leg) (wanted_on s flight leg) (wanted_ranks s flight leg),
        ) in
        subst (λ (l : Steps). IsWithin l (held live flight leg)) (sym (reached flight leg))
        (within_same (lifted_on s lists flight leg) (held live flight leg) (held_on lists flight leg) (λ k. sym (held_by_all flight leg (is_inside flight leg is) k))
        (lifted_within (top flight leg) (held_on lists flight leg) (waiting_on lists flight leg) (wanted_on s flight leg) enough))

  open_behind : (flight leg class : ℕ) → is_open_on (ladder_at behind flight leg) class ≡ is_open_on (ladder_at s.file.now flight leg) class
  open_behind flight leg class =
      ap (λ (l : Steps). is_open_on l class) (reached flight leg)
      ∙ same_open (ladder_at s.file.now flight leg) (lifted_on s lists flight leg) class (lifted_ranks s lists flight leg)

  listed : ((flight leg class : ℕ) → waiting live flight leg class ≤ 999) → (flight leg class : ℕ)
      → waiting live flight leg class ≤ wait_of (ladder_at behind flight leg) class
  listed few flight leg class = by (is_open_on (ladder_at s.file.now flight leg) class) refl where
    nobody : is_open_on (ladder_at s.file.now flight leg) class ≡ false → waiting live flight leg class ≤ wait_of (ladder_at behind flight leg) class
    nobody e = omega (arith, nobody_waits s.file.now flight leg class e live placed)

    there : is_open_on (ladder_at s.file.now flight leg) class ≡ true → IsThere s.flights.now flight leg ⊎ (ladder_at s.file.now flight leg ≡ [])
        → waiting live flight leg class ≤ wait_of (ladder_at behind flight leg) class
    there e (inr nothing) = absurd (false≢true (ap (λ (l : Steps). is_open_on l class) (sym nothing) ∙ e))
    there e (inl is) =
        let wanted_has : has_class (wanted_on s flight leg) class ≡ true =
        open_has (wanted_on s flight leg) class (same_open (ladder_at s.file.now flight leg) (wanted_on s flight leg) class (wanted_ranks s flight leg) ∙ e) in
        let same : waiting_on lists flight leg class ≡ waiting live flight leg class = waits_by_all flight leg (is_inside flight leg is) class in
        let le : waiting_on lists flight leg class ≤ wait_of (lifted_on s lists flight leg) class =
        lifted_waits (top flight leg) (held_on lists flight leg) (waiting_on lists flight leg) (wanted_on s flight leg) class (omega (arith, same, few flight leg class)) wanted_has in
        omega (arith, same, le, ap (λ (l : Steps). wait_of l class) (reached flight leg))

    by : (b : Bool) → is_open_on (ladder_at s.file.now flight leg) class ≡ b → waiting live flight leg class ≤ wait_of (ladder_at behind flight leg) class
    by true e = there e (there_or_none s.file.now s.flights.now has flight leg)
    by false e = nobody e

  sold : (bookings : List Booking) → AllByRecursion (λ b. sells s.file.now b.place b.class ≡ true) bookings
      → AllByRecursion (λ b. sells behind b.place b.class ≡ true) bookings
  sold [] all = tt
  sold (b ∷ bs) all = (
    ap (λ (t : Bool). nat_le b.place.from b.place.to && t)
        (each_leg_same (λ l. is_open_on (ladder_at behind b.place.flight l) b.class) (λ l. is_open_on (ladder_at s.file.now b.place.flight l) b.class) b.place.from (b.place.to - b.place.from)
        (λ l. open_behind b.place.flight l b.class)) ∙ all.0,
    sold bs all.1,
  )

  pub seats_for_all : HasSeatsFor behind live
  seats_for_all = record { placed = sold live placed; within = within }

  pub room_for_all : IsApart live → ((flight leg class : ℕ) → waiting live flight leg class ≤ 999) → HasRoomFor behind live
  room_for_all apart few = record {
    apart = apart;
    placed = sold live placed;
    within = within;
    listed = listed few;
  }
