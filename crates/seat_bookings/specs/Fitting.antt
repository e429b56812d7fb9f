-- Which waiting booking fits, and what passes over most of them.
use Rattle.std.specs.Prelude.{◌≡◌, ℕ, ◌-◌, ◌≤◌, true, List, slice_index}
use Rattle.std.specs.List.{AllByRecursion}
use Rattle.seat_nesting.specs.Nesting.{Ladders, Table, room}
use Rattle.seat_rules.specs.declared.booking.Booking.{Booking}
use Rattle.seat_bookings.specs.declared.demands.Demand.{Demand}
use Rattle.seat_bookings.specs.Queues.{fits}

-- the most room of a class, where those of all classes stand from A on
abbrev pub most_of : List ℕ → ℕ → ℕ
most_of most class = slice_index most (class - 65)

-- no demand finds more room than is noted for its class
pub record IsMost (grid : Ladders) (seats : Table) (most : List ℕ) (demands : List Demand) : Type 0 where
  pub each : AllByRecursion (λ p. room grid seats p.place p.class ≤ most_of most p.class) demands

-- no booking that fits has more seats than is noted for its class
pub record IsMostFor (grid : Ladders) (seats : Table) (most : List ℕ) (bookings : List Booking) : Type 0 where
  pub each : AllByRecursion (λ b. fits grid seats b ≡ true → b.seats ≤ most_of most b.class) bookings
