-- The sums of groups come to the line of sums.
use Rattle.std.proofs.Common.{◌≡◌, ℕ, ◌+◌, ◌-◌, ◌<◌, ◌≤◌, List, length, take, drop, slice_get, Option, Some, refl, sym, ap, subst, ◌∙◌, arith}
use Rattle.std.specs.Prelude.{unwrap_or}
use Rattle.std.specs.List.{AllByRecursion}
use Rattle.std.proofs.lemmas.Option.{slice_get_within}
use Rattle.ssim_flights.specs.declared.flight.Flight.{Flight as Flown}
use Rattle.seat_journal.specs.declared.entry.Entry.{Entry}
use Rattle.seat_nesting.specs.Nesting.{Ladders}
use Rattle.seat_rules.specs.Journal.{replay}
use Rattle.seat_lists.specs.declared.picking.Designator.{Designator}
use Rattle.seat_pickup.specs.Pickups.{of_class, pickups_of}
use Rattle.seat_pickup.specs.declared.classes.Pickup.{Pickup}
use Rattle.table_questions.specs.SumRows.{day_count, days_from}
use Rattle.pickup_questions.specs.Groups.{by_class, by_flight, by_given, start_group, start_groups}
use Rattle.pickup_questions.specs.Together.{AreTogether, GroupsComeToSums, HasLegs}
use Rattle.pickup_questions.proofs.Summing.{together}
use Rattle.pickup_questions.proofs.Grouped.{all_flights, has_legs_at, start_within, starts_at}

are_together : (group : Pickup → ℕ) (count : ℕ) (all : List Pickup) → AllByRecursion (λ (p : Pickup). group p < count) all
    → AreTogether group count all
are_together group count all within = record { each = λ of. together group count of all within }

pub groups_come_to_sums : GroupsComeToSums
groups_come_to_sums asked flights grid journal n have = record {
  each_flight = are_together by_flight (length flights) (pickups_of asked flights grid journal n)
      (all_flights (λ (p : Pickup). p.flight < length flights) asked (of_class (replay grid (take n journal)).bookings (drop n journal) (replay grid journal).bookings) 0 flights flown);
  each_class = are_together by_class 26 (pickups_of asked flights grid journal n)
      (all_flights (λ (p : Pickup). p.class - 65 < 26) asked (of_class (replay grid (take n journal)).bookings (drop n journal) (replay grid journal).bookings) 0 flights lettered);
  each_day = are_together (by_given (start_groups (days_from flights) flights)) (day_count flights) (pickups_of asked flights grid journal n)
      (all_flights (λ (p : Pickup). by_given (start_groups (days_from flights) flights) p < day_count flights) asked (of_class (replay grid (take n journal)).bookings (drop n journal) (replay grid journal).bookings) 0 flights dated);
}
  where
    flown : (j : ℕ) (flight : Flown) (k : ℕ) → slice_get flights j ≡ Some flight → 65 ≤ k → k < 91 → 0 + j < length flights
    flown j flight k at from to =
        let within : j < length flights = slice_get_within flights j flight at in
        omega (arith, within)

    lettered : (j : ℕ) (flight : Flown) (k : ℕ) → slice_get flights j ≡ Some flight → 65 ≤ k → k < 91 → k - 65 < 26
    lettered j flight k at from to = omega (arith, from, to)

    dated : (j : ℕ) (flight : Flown) (k : ℕ) → slice_get flights j ≡ Some flight → 65 ≤ k → k < 91
        → unwrap_or (slice_get (start_groups (days_from flights) flights) (0 + j)) 4294967295 < day_count flights
    dated j flight k at from to =
        let same : j ≡ 0 + j = omega arith in
        let is : slice_get (start_groups (days_from flights) flights) j ≡ Some (start_group (days_from flights) flight.legs) =
        starts_at (days_from flights) flights j flight at in
        let group : unwrap_or (slice_get (start_groups (days_from flights) flights) (0 + j)) 4294967295 ≡ start_group (days_from flights) flight.legs =
        ap (λ (m : ℕ). unwrap_or (slice_get (start_groups (days_from flights) flights) m) 4294967295) (sym same)
        ∙ ap (λ (o : Option ℕ). unwrap_or o 4294967295) is in
        let within : start_group (days_from flights) flight.legs < day_count flights =
        start_within flights j flight at (has_legs_at flights j flight have at) in
        omega (arith, group, within)
