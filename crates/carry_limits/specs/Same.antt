-- A carry onto the same season.
use Rattle.std.specs.Prelude.{◌≡◌, ◌≢◌, ◌≤◌, ◌<◌, ◌+◌, ℕ, true, false, List, [], length, Some, filter}
use Rattle.std.specs.List.{AllByRecursion}
use Rattle.ssim_flights.specs.Places.{place}
use Rattle.seat_journal.specs.declared.entry.Change.{Change}
use Rattle.seat_nesting.specs.Nesting.{Ladders, Steps, free, ladder_at}
use Rattle.seat_nesting.specs.Changing.{with_marks}
use Rattle.seat_rules.specs.Bookings.{held, waiting}
use Rattle.seat_rules.specs.Inventory.{Inventory, IsReplayed, state_now}
use Rattle.seat_rules.specs.declared.booking.Booking.{Booking}
use Rattle.seat_rules.specs.declared.booking.Status.TheVariants.{Waiting}
use Rattle.seat_carrying.specs.Carrying.{anew, in_turn, sells, wait_of}
use Rattle.seat_carrying.specs.Lifting.{top_of}
use Rattle.seat_carrying.specs.Owned.{bookings_of}
use Rattle.seat_carrying.specs.declared.owned.Owned.{Owned}
use Rattle.seat_moving.specs.Moving.{moved, target}
use Rattle.seat_moving.specs.declared.target.Target.TheVariants.{Onto}
use Rattle.limit_changes.specs.Laws.{AreLadders}
use Rattle.carry_lines.specs.Carried.{carried_lines}
use Rattle.carry_lines.specs.declared.mark.Mark.{Mark}
use Rattle.carry_limits.specs.ByFlight.{IsByFlight, Lists}
use Rattle.carry_limits.specs.Changes.{AreReached, HasRoomBehind}
use Rattle.carry_limits.specs.Legs.{HasLegsOf}
use Rattle.carry_limits.specs.Overs.{overs}
use Rattle.carry_limits.specs.Wanting.{old_leg}
use Rattle.carry_limits.specs.declared.wanting.Seasons.{Seasons}

-- the new season has the flights and the limits that the old one began with, its own journal's changes are wanted, and each leg with limits is the one
-- that its name finds
pub record IsSameSeason (s : Seasons) : Type 0 where
  pub flights : s.flights.now ≡ s.old.now
  pub file : s.file.now ≡ s.before.now.grid
  pub changes : s.fresh ≡ false
  pub named : (flight leg : ℕ) → ladder_at s.file.now flight leg ≢ [] → old_leg s.old.now s.flights.now flight leg ≡ Some (place flight leg leg)

-- what a journal left fits the limits that it began with: no highest rank was raised, no wait is below what waits, each booking's class is sold, and who waits
-- finds no seats, were each class open
pub record StandsOver (before : Inventory) : Type 0 where
  pub none_raised : (flight leg : ℕ) → top_of (ladder_at (state_now before).grid flight leg) ≤ top_of (ladder_at before.grid flight leg)
  pub listed : (flight leg class : ℕ) → waiting (state_now before).bookings flight leg class
      ≤ wait_of (ladder_at (state_now before).grid flight leg) class
  pub sold : AllByRecursion (λ b. sells before.grid b.place b.class ≡ true) (state_now before).bookings
  pub full : AllByRecursion
      (λ b. b.status ≡ Waiting → free (state_now before).grid (held (state_now before).bookings) b.place b.class < b.seats)
      (state_now before).bookings

-- nobody departed, and each place is the one that its name finds
abbrev pub AllStay : Seasons → ℕ → List Booking → Type 0
AllStay s today bookings = AllByRecursion (λ b. target s.old.now s.flights.now today b.place ≡ Onto b.place) bookings

-- the same bookings are held and wait, each under the number of its line, those who held first and each group in its order; and each leg has the limits that
-- it had, whichever of its classes are closed
pub record IsSame (before : Inventory) (ahead : ℕ) (after : Inventory) : Type 0 where
  pub bookings : (state_now after).bookings ≡ anew (ahead + 1) (in_turn (state_now before).bookings)
  pub limits : (flight leg : ℕ)
      → with_marks (ladder_at (state_now after).grid flight leg) (ladder_at (state_now before).grid flight leg)
      ≡ ladder_at (state_now before).grid flight leg

abbrev pub CarryIsSame : Type 0
CarryIsSame = (s : Seasons) (lists : Lists) (rows : List Change) (kept : List Owned) (marks : List Mark) (cap today : ℕ) (after : Inventory)
    → HasLegsOf s.file.now s.flights.now → AreLadders s.file.now → AreReached s lists rows → HasRoomBehind s lists rows
    → overs s.file.now lists s.flights.now ≡ [] → IsByFlight lists (length s.flights.now) (bookings_of kept)
    → kept ≡ filter (λ o. sells s.file.now o.booking.place o.booking.class)
    (moved s.before.now.journal s.old.now s.flights.now today (state_now s.before.now).bookings)
    → IsReplayed after s.file.now cap (carried_lines s.file.now rows kept marks)
    → IsSameSeason s → StandsOver s.before.now → AllStay s today (state_now s.before.now).bookings
    → IsSame s.before.now (length rows) after
