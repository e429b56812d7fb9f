-- Sums over flights and over the legs of a flight.
use Rattle.std.proofs.Common.{arith, Bool, true, false, ◌≡◌, ℕ, ◌+◌, ◌*◌, ◌≤◌, ◌<◌, List, [], ◌∷◌, length, drop, get_or, refl, sym, ap, ◌∙◌, subst, if◌then◌else◌}
use Rattle.std.proofs.Math.ListN.{drop_of_length-le}
use Rattle.ssim_flights.proofs.Walks.{drop_step}
use Rattle.seat_questions.proofs.Common.{DatedLeg, Flight, State}
use Rattle.seat_lists.specs.Picking.{keeps_flight}
use Rattle.seat_loads.specs.Legs.{held_on, is_kept, limit_on}
use Rattle.seat_loads.specs.Sums.{AddUp, AreFewLegs, AreLegSums, IsLegSum, IsLegSumOfFlight, IsLegSumOfLegs, on_flight, on_leg, on_legs, one, over_legs, sum_from}
use Rattle.seat_loads.specs.declared.loads.LoadsOf.{LoadsOf}
use Rattle.seat_loads.specs.declared.sums.LegSums.{LegSums}

module _ {A : Type 0} where
  drop_none : (xs : List A) → drop 0 xs ≡ xs
  drop_none [] = refl
  drop_none (x ∷ xs) = refl

  -- nothing is counted yet
  pub sum_none : (count : ℕ → A → ℕ) (xs : List A) (so_far : ℕ) → so_far ≡ 0
      → so_far + sum_from count 0 (drop 0 xs) ≡ sum_from count 0 xs
  sum_none count xs so_far e =
      let all : sum_from count 0 (drop 0 xs) ≡ sum_from count 0 xs = ap (λ (l : List A). sum_from count 0 l) (drop_none xs) in
      omega (arith, e, all)

  -- one item more is counted
  pub sum_more : (count : ℕ → A → ℕ) (i : ℕ) (xs : List A) (x : A) (so_far more new whole : ℕ)
      → so_far + sum_from count i (drop i xs) ≡ whole → i < length xs → x ≡ get_or xs i x → more ≡ count i x
      → new ≡ so_far + more → new + sum_from count (i + 1) (drop (i + 1) xs) ≡ whole
  sum_more count i xs x so_far more new whole before inside is counted added =
      let rest : sum_from count i (drop i xs) ≡ count i x + sum_from count (i + 1) (drop (i + 1) xs) =
      ap (λ (l : List A). sum_from count i l) (drop_step xs i x inside is) in
      omega (arith, before, rest, counted, added)

  -- all are counted
  pub sum_whole : (count : ℕ → A → ℕ) (i : ℕ) (xs : List A) (so_far whole : ℕ)
      → so_far + sum_from count i (drop i xs) ≡ whole → length xs ≤ i → so_far ≡ whole
  sum_whole count i xs so_far whole before over =
      let none : sum_from count i (drop i xs) ≡ 0 = ap (λ (l : List A). sum_from count i l) (drop_of_length-le xs over) in
      omega (arith, before, none)

-- ---- a leg

pub left_leg : (asked : LoadsOf) (s : State) (i j : ℕ) (leg : DatedLeg) (sums : LegSums) → is_kept asked leg ≡ false
    → sums.legs ≡ 0 → sums.seats ≡ 0 → sums.limits ≡ 0 → IsLegSum asked s i j leg sums
left_leg asked s i j leg sums e legs seats limits = record {
  legs = legs ∙ sym (none one);
  seats = seats ∙ sym (none (held_on s));
  limits = limits ∙ sym (none (limit_on s));
  one_leg = omega (arith, legs);
  few_seats = omega (arith, seats);
  few_limits = omega (arith, limits);
} where
  none : (count : ℕ → ℕ → ℕ) → on_leg asked count i j leg ≡ 0
  none count = ap (λ (b : Bool). if b then count i j else 0) e

pub kept_leg : (asked : LoadsOf) (s : State) (i j : ℕ) (leg : DatedLeg) (sums : LegSums) → is_kept asked leg ≡ true
    → sums.legs ≡ 1 → sums.seats ≡ held_on s i j → sums.seats ≤ 65535 → sums.limits ≡ limit_on s i j → sums.limits ≤ 65535
    → IsLegSum asked s i j leg sums
kept_leg asked s i j leg sums e legs seats few_seats limits few_limits = record {
  legs = legs ∙ sym (kept one);
  seats = seats ∙ sym (kept (held_on s));
  limits = limits ∙ sym (kept (limit_on s));
  one_leg = omega (arith, legs);
  few_seats = few_seats;
  few_limits = few_limits;
} where
  kept : (count : ℕ → ℕ → ℕ) → on_leg asked count i j leg ≡ count i j
  kept count = ap (λ (b : Bool). if b then count i j else 0) e

-- ---- the legs of a flight

-- the legs so far are counted, and those that are left make the sums whole
pub record LegsSoFar (asked : LoadsOf) (s : State) (i : ℕ) (all : List DatedLeg) (j : ℕ) (sums : LegSums) : Type 0 where
  pub legs : sums.legs + sum_from (on_leg asked one i) j (drop j all) ≡ sum_from (on_leg asked one i) 0 all
  pub seats : sums.seats + sum_from (on_leg asked (held_on s) i) j (drop j all) ≡ sum_from (on_leg asked (held_on s) i) 0 all
  pub limits : sums.limits + sum_from (on_leg asked (limit_on s) i) j (drop j all)
      ≡ sum_from (on_leg asked (limit_on s) i) 0 all
  pub few_legs : sums.legs ≤ j
  pub few_seats : sums.seats ≤ j * 65535
  pub few_limits : sums.limits ≤ j * 65535

pub no_legs : (asked : LoadsOf) (s : State) (i : ℕ) (all : List DatedLeg) (sums : LegSums)
    → sums.legs ≡ 0 → sums.seats ≡ 0 → sums.limits ≡ 0 → LegsSoFar asked s i all 0 sums
no_legs asked s i all sums legs seats limits = record {
  legs = sum_none (on_leg asked one i) all sums.legs legs;
  seats = sum_none (on_leg asked (held_on s) i) all sums.seats seats;
  limits = sum_none (on_leg asked (limit_on s) i) all sums.limits limits;
  few_legs = omega (arith, legs);
  few_seats = omega (arith, seats);
  few_limits = omega (arith, limits);
}

pub leg_more : (asked : LoadsOf) (s : State) (i : ℕ) (all : List DatedLeg) (j : ℕ) (leg : DatedLeg) (sums more new : LegSums)
    → LegsSoFar asked s i all j sums → j < length all → leg ≡ get_or all j leg
    → IsLegSum asked s i j leg more → AddUp sums more new → LegsSoFar asked s i all (j + 1) new
leg_more asked s i all j leg sums more new before inside is one_more added = record {
  legs = sum_more (on_leg asked one i) j all leg sums.legs more.legs new.legs _ before.legs inside is one_more.legs added.legs;
  seats = sum_more (on_leg asked (held_on s) i) j all leg sums.seats more.seats new.seats _ before.seats inside is one_more.seats added.seats;
  limits = sum_more (on_leg asked (limit_on s) i) j all leg sums.limits more.limits new.limits _ before.limits inside is one_more.limits added.limits;
  few_legs = omega (arith, before.few_legs, one_more.one_leg, added.legs);
  few_seats = omega (arith, before.few_seats, one_more.few_seats, added.seats);
  few_limits = omega (arith, before.few_limits, one_more.few_limits, added.limits);
}

pub all_of_flight : (asked : LoadsOf) (s : State) (i : ℕ) (flight : Flight) (all : List DatedLeg) (j : ℕ) (sums : LegSums)
    → all ≡ flight.legs → LegsSoFar asked s i all j sums → j ≤ length all → length all ≤ j → length flight.legs ≤ 8
    → IsLegSumOfLegs asked s i flight sums
all_of_flight asked s i flight all j sums same so_far below over few =
    let eight : length all ≤ 8 = subst (λ (l : List DatedLeg). length l ≤ 8) (sym same) few in
    record {
      legs = sum_whole (on_leg asked one i) j all sums.legs _ so_far.legs over ∙ ap (λ (l : List DatedLeg). sum_from (on_leg asked one i) 0 l) same;
      seats = sum_whole (on_leg asked (held_on s) i) j all sums.seats _ so_far.seats over ∙ ap (λ (l : List DatedLeg). sum_from (on_leg asked (held_on s) i) 0 l) same;
      limits = sum_whole (on_leg asked (limit_on s) i) j all sums.limits _ so_far.limits over ∙ ap (λ (l : List DatedLeg). sum_from (on_leg asked (limit_on s) i) 0 l) same;
      few_legs = omega (arith, so_far.few_legs, below, eight);
      few_seats = omega (arith, so_far.few_seats, below, eight);
      few_limits = omega (arith, so_far.few_limits, below, eight);
    }

-- a flight that is kept, and one that is not
pub kept_flight : (asked : LoadsOf) (s : State) (i : ℕ) (flight : Flight) (sums : LegSums)
    → keeps_flight asked.flight flight ≡ true → IsLegSumOfLegs asked s i flight sums → IsLegSumOfFlight asked s i flight sums
kept_flight asked s i flight sums e is = record {
  legs = is.legs ∙ sym (kept one);
  seats = is.seats ∙ sym (kept (held_on s));
  limits = is.limits ∙ sym (kept (limit_on s));
  few_legs = is.few_legs;
  few_seats = is.few_seats;
  few_limits = is.few_limits;
} where
  kept : (count : ℕ → ℕ → ℕ) → on_flight asked count i flight ≡ on_legs asked count i flight
  kept count = ap (λ (b : Bool). if b then on_legs asked count i flight else 0) e

pub left_flight : (asked : LoadsOf) (s : State) (i : ℕ) (flight : Flight) (sums : LegSums)
    → keeps_flight asked.flight flight ≡ false → sums.legs ≡ 0 → sums.seats ≡ 0 → sums.limits ≡ 0
    → IsLegSumOfFlight asked s i flight sums
left_flight asked s i flight sums e legs seats limits = record {
  legs = legs ∙ sym (none one);
  seats = seats ∙ sym (none (held_on s));
  limits = limits ∙ sym (none (limit_on s));
  few_legs = omega (arith, legs);
  few_seats = omega (arith, seats);
  few_limits = omega (arith, limits);
} where
  none : (count : ℕ → ℕ → ℕ) → on_flight asked count i flight ≡ 0
  none count = ap (λ (b : Bool). if b then on_legs asked count i flight else 0) e

-- ---- all flights

pub record FlightsSoFar (asked : LoadsOf) (s : State) (flights : List Flight) (i : ℕ) (sums : LegSums) : Type 0 where
  pub legs : sums.legs + sum_from (on_flight asked one) i (drop i flights) ≡ over_legs asked one flights
  pub seats : sums.seats + sum_from (on_flight asked (held_on s)) i (drop i flights) ≡ over_legs asked (held_on s) flights
  pub limits : sums.limits + sum_from (on_flight asked (limit_on s)) i (drop i flights)
      ≡ over_legs asked (limit_on s) flights
  pub few_legs : sums.legs ≤ i * 8
  pub few_seats : sums.seats ≤ i * 524280
  pub few_limits : sums.limits ≤ i * 524280

pub no_flights : (asked : LoadsOf) (s : State) (flights : List Flight) (sums : LegSums)
    → sums.legs ≡ 0 → sums.seats ≡ 0 → sums.limits ≡ 0 → FlightsSoFar asked s flights 0 sums
no_flights asked s flights sums legs seats limits = record {
  legs = sum_none (on_flight asked one) flights sums.legs legs;
  seats = sum_none (on_flight asked (held_on s)) flights sums.seats seats;
  limits = sum_none (on_flight asked (limit_on s)) flights sums.limits limits;
  few_legs = omega (arith, legs);
  few_seats = omega (arith, seats);
  few_limits = omega (arith, limits);
}

pub flight_more : (asked : LoadsOf) (s : State) (flights : List Flight) (i : ℕ) (flight : Flight) (sums more new : LegSums)
    → FlightsSoFar asked s flights i sums → i < length flights → flight ≡ get_or flights i flight
    → IsLegSumOfFlight asked s i flight more → AddUp sums more new → FlightsSoFar asked s flights (i + 1) new
flight_more asked s flights i flight sums more new before inside is one_more added = record {
  legs = sum_more (on_flight asked one) i flights flight sums.legs more.legs new.legs _ before.legs inside is one_more.legs added.legs;
  seats = sum_more (on_flight asked (held_on s)) i flights flight sums.seats more.seats new.seats _ before.seats inside is one_more.seats added.seats;
  limits = sum_more (on_flight asked (limit_on s)) i flights flight sums.limits more.limits new.limits _ before.limits inside is one_more.limits added.limits;
  few_legs = omega (arith, before.few_legs, one_more.few_legs, added.legs);
  few_seats = omega (arith, before.few_seats, one_more.few_seats, added.seats);
  few_limits = omega (arith, before.few_limits, one_more.few_limits, added.limits);
}

pub all_legs : (asked : LoadsOf) (s : State) (flights : List Flight) (i count : ℕ) (sums : LegSums)
    → FlightsSoFar asked s flights i sums → count ≡ length flights → count ≤ i → AreLegSums asked s flights sums
all_legs asked s flights i count sums so_far counted over =
    let past : length flights ≤ i = omega (arith, counted, over) in
    record {
      legs = sum_whole (on_flight asked one) i flights sums.legs _ so_far.legs past;
      seats = sum_whole (on_flight asked (held_on s)) i flights sums.seats _ so_far.seats past;
      limits = sum_whole (on_flight asked (limit_on s)) i flights sums.limits _ so_far.limits past;
    }

pub few_in_all : (asked : LoadsOf) (s : State) (flights : List Flight) (i : ℕ) (sums : LegSums)
    → FlightsSoFar asked s flights i sums → i ≤ 100000 → AreFewLegs sums
few_in_all asked s flights i sums so_far few = record {
  legs = omega (arith, so_far.few_legs, few);
  seats = omega (arith, so_far.few_seats, few);
  limits = omega (arith, so_far.few_limits, few);
}
