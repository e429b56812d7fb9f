-- Passengers over flights, over the bookings of a flight, and over the legs of a booking.
use Rattle.std.proofs.Common.{arith, Bool, true, false, ◌≡◌, ◌&&◌, ◌||◌, ℕ, ◌+◌, ◌*◌, ◌≤◌, ◌<◌, List, [], ◌∷◌, length, drop, get_or, refl, sym, ap, ◌∙◌, subst, if◌then◌else◌}
use Rattle.std.proofs.Math.ListN.{drop_of_length-le}
use Rattle.ssim_flights.proofs.Walks.{drop_step}
use Rattle.seat_questions.proofs.Common.{Booking, DatedLeg, Flight, State}
use Rattle.seat_rules.specs.Bookings.{is_held, is_waiting}
use Rattle.seat_rules.specs.Flights.{bookings_on}
use Rattle.seat_rules.specs.declared.booking.Status.{Status}
use Rattle.seat_lists.specs.Picking.{keeps_flight}
use Rattle.seat_loads.specs.Sums.{AreRiders, AreRidersOn, is_on, meets, most_riders, riders_of, riders_on, seats_among, sum_from}
use Rattle.seat_loads.specs.declared.loads.LoadsOf.{LoadsOf}
use Rattle.seat_loads.specs.declared.passengers.Riders.{Riders}
use Rattle.seat_loads.proofs.Adding.{sum_more, sum_none, sum_whole}

-- ---- all flights

-- the flights so far are counted, and those that are left make the numbers whole
pub record RidersSoFar (asked : LoadsOf) (s : State) (flights : List Flight) (i : ℕ) (riders : Riders) : Type 0 where
  pub held : riders.held + sum_from (riders_on asked is_held s) i (drop i flights) ≡ riders_of asked is_held s flights
  pub waiting : riders.waiting + sum_from (riders_on asked is_waiting s) i (drop i flights)
      ≡ riders_of asked is_waiting s flights
  pub few_held : riders.held ≤ i * 65534934465
  pub few_waiting : riders.waiting ≤ i * 65534934465

pub no_riders : (asked : LoadsOf) (s : State) (flights : List Flight) (riders : Riders)
    → riders.held ≡ 0 → riders.waiting ≡ 0 → RidersSoFar asked s flights 0 riders
no_riders asked s flights riders held waiting = record {
  held = sum_none (riders_on asked is_held s) flights riders.held held;
  waiting = sum_none (riders_on asked is_waiting s) flights riders.waiting waiting;
  few_held = omega (arith, held);
  few_waiting = omega (arith, waiting);
}

pub flight_more : (asked : LoadsOf) (s : State) (flights : List Flight) (i : ℕ) (flight : Flight) (riders more new : Riders)
    → RidersSoFar asked s flights i riders → i < length flights → flight ≡ get_or flights i flight
    → AreRidersOn asked s i flight more → new.held ≡ riders.held + more.held
    → new.waiting ≡ riders.waiting + more.waiting → RidersSoFar asked s flights (i + 1) new
flight_more asked s flights i flight riders more new before inside is one_more held waiting = record {
  held = sum_more (riders_on asked is_held s) i flights flight riders.held more.held new.held _ before.held inside is one_more.held held;
  waiting = sum_more (riders_on asked is_waiting s) i flights flight riders.waiting more.waiting new.waiting _ before.waiting inside is one_more.waiting waiting;
  few_held = omega (arith, before.few_held, one_more.few_held, held);
  few_waiting = omega (arith, before.few_waiting, one_more.few_waiting, waiting);
}

pub all_riders : (asked : LoadsOf) (s : State) (flights : List Flight) (i count : ℕ) (riders : Riders)
    → RidersSoFar asked s flights i riders → count ≡ length flights → count ≤ i → AreRiders asked s flights riders
all_riders asked s flights i count riders so_far counted over =
    let past : length flights ≤ i = omega (arith, counted, over) in
    record {
      held = sum_whole (riders_on asked is_held s) i flights riders.held _ so_far.held past;
      waiting = sum_whole (riders_on asked is_waiting s) i flights riders.waiting _ so_far.waiting past;
    }

-- a flight that is not kept, and one that is
pub left_riders : (asked : LoadsOf) (s : State) (i : ℕ) (flight : Flight) (riders : Riders)
    → keeps_flight asked.flight flight ≡ false → riders.held ≡ 0 → riders.waiting ≡ 0 → AreRidersOn asked s i flight riders
left_riders asked s i flight riders e held waiting = record {
  held = held ∙ sym (none is_held);
  waiting = waiting ∙ sym (none is_waiting);
  few_held = omega (arith, held);
  few_waiting = omega (arith, waiting);
} where
  none : (test : Status → Bool) → riders_on asked test s i flight ≡ 0
  none test = ap (λ (b : Bool). if b then seats_among asked test flight.legs (bookings_on i s.bookings) else 0) e

pub kept_riders : (asked : LoadsOf) (s : State) (i : ℕ) (flight : Flight) (riders : Riders) (legs : List DatedLeg)
    (bookings : List Booking) → keeps_flight asked.flight flight ≡ true → legs ≡ flight.legs
    → bookings ≡ bookings_on i s.bookings
    → riders.held ≡ seats_among asked is_held legs bookings → riders.held ≤ most_riders
    → riders.waiting ≡ seats_among asked is_waiting legs bookings → riders.waiting ≤ most_riders
    → AreRidersOn asked s i flight riders
kept_riders asked s i flight riders legs bookings e same own held few_held waiting few_waiting = record {
  held = held ∙ these is_held ∙ sym (kept is_held);
  waiting = waiting ∙ these is_waiting ∙ sym (kept is_waiting);
  few_held = few_held;
  few_waiting = few_waiting;
} where
  kept : (test : Status → Bool)
      → riders_on asked test s i flight ≡ seats_among asked test flight.legs (bookings_on i s.bookings)
  kept test = ap (λ (b : Bool). if b then seats_among asked test flight.legs (bookings_on i s.bookings) else 0) e

  these : (test : Status → Bool)
      → seats_among asked test legs bookings ≡ seats_among asked test flight.legs (bookings_on i s.bookings)
  these test =
      ap (λ (l : List DatedLeg). seats_among asked test l bookings) same ∙ ap (seats_among asked test flight.legs) own

-- ---- the legs of a booking

-- a leg that is none of them is passed over
pub leg_passed : (asked : LoadsOf) (b : Booking) (legs : List DatedLeg) (j : ℕ) (leg : DatedLeg) (whole : Bool)
    → is_on asked b j (drop j legs) ≡ whole → j < length legs → leg ≡ get_or legs j leg
    → meets asked b j leg ≡ false → is_on asked b (j + 1) (drop (j + 1) legs) ≡ whole
leg_passed asked b legs j leg whole so_far inside is e =
    let rest : is_on asked b j (drop j legs) ≡ (meets asked b j leg || is_on asked b (j + 1) (drop (j + 1) legs)) =
    ap (λ (l : List DatedLeg). is_on asked b j l) (drop_step legs j leg inside is) in
    sym (ap (λ (t : Bool). t || is_on asked b (j + 1) (drop (j + 1) legs)) e) ∙ sym rest ∙ so_far

-- one that is settles it
pub leg_met : (asked : LoadsOf) (b : Booking) (legs : List DatedLeg) (j : ℕ) (leg : DatedLeg) (whole : Bool)
    → is_on asked b j (drop j legs) ≡ whole → j < length legs → leg ≡ get_or legs j leg
    → meets asked b j leg ≡ true → true ≡ whole
leg_met asked b legs j leg whole so_far inside is e =
    let rest : is_on asked b j (drop j legs) ≡ (meets asked b j leg || is_on asked b (j + 1) (drop (j + 1) legs)) =
    ap (λ (l : List DatedLeg). is_on asked b j l) (drop_step legs j leg inside is) in
    sym (ap (λ (t : Bool). t || is_on asked b (j + 1) (drop (j + 1) legs)) e) ∙ sym rest ∙ so_far

-- and none is left
pub none_met : (asked : LoadsOf) (b : Booking) (legs : List DatedLeg) (j : ℕ) (whole : Bool)
    → is_on asked b j (drop j legs) ≡ whole → length legs ≤ j → false ≡ whole
none_met asked b legs j whole so_far over =
    sym (ap (λ (l : List DatedLeg). is_on asked b j l) (drop_of_length-le legs over)) ∙ so_far
