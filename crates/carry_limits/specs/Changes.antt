-- The manager's changes that bring the file's limits to the lifted ones.
use Rattle.std.specs.Prelude.{◌≡◌, ◌≤◌, ℕ, true, List, [], ◌∷◌, codes, length, map}
use Rattle.std.specs.List.{AllByRecursion}
use Rattle.seat_journal.specs.declared.entry.Change.{Change}
use Rattle.seat_nesting.specs.Nesting.{IsWithin, Ladders, ladder_at}
use Rattle.seat_rules.specs.Bookings.{IsApart, held, waiting}
use Rattle.seat_rules.specs.Sequential.{State, set, state_of}
use Rattle.seat_rules.specs.declared.booking.Booking.{Booking}
use Rattle.seat_carrying.specs.Carrying.{HasRoomFor, sells}
use Rattle.limit_changes.specs.Laws.{change_in}
use Rattle.limit_changes.specs.Legs.{every_leg}
use Rattle.limit_changes.specs.Rows.{rows}
use Rattle.limit_changes.specs.declared.rows.Row.{Row}
use Rattle.carry_lines.specs.Carried.{limits_behind}
use Rattle.carry_limits.specs.ByFlight.{IsByFlight, Lists}
use Rattle.carry_limits.specs.Lifting.{lifted_limits}
use Rattle.carry_limits.specs.Overs.{overs}
use Rattle.carry_limits.specs.declared.wanting.Seasons.{Seasons}

-- over the file's limits, before anything is held
abbrev pub rows_for : Seasons → Lists → List Row
rows_for s lists = rows (lifted_limits s lists) (state_of s.file.now []) (every_leg s.flights.now)

abbrev pub changes_for : Seasons → Lists → List Change
changes_for s lists = map change_in (rows_for s lists)

-- each is answered OK, where those ahead of it are made
abbrev pub AreAllMade : State → List Change → Type 0
AreAllMade s [] = Unit {0}
AreAllMade s (c ∷ more) = ((set s c).reply ≡ codes "OK") × AreAllMade (set s c).state more

-- behind them each leg has its lifted limits
pub record AreReached (s : Seasons) (lists : Lists) (changes : List Change) : Type 0 where
  pub each : (flight leg : ℕ) → ladder_at (limits_behind s.file.now changes) flight leg ≡ ladder_at (lifted_limits s lists) flight leg

-- the limits sell the class of each of these bookings on each of its legs, and have seats for all that they hold
pub record HasSeatsFor (grid : Ladders) (bookings : List Booking) : Type 0 where
  pub placed : AllByRecursion (λ b. sells grid b.place b.class ≡ true) bookings
  pub within : (flight leg : ℕ) → IsWithin (ladder_at grid flight leg) (held bookings flight leg)

-- where no leg holds more than its file's highest rank has, there are seats behind them for all bookings whose class is on each of their legs; and room, where
-- at most 999 wait in each class of a leg
pub record HasRoomBehind (s : Seasons) (lists : Lists) (changes : List Change) : Type 0 where
  pub seats : (live : List Booking) → IsByFlight lists (length s.flights.now) live
      → AllByRecursion (λ b. sells s.file.now b.place b.class ≡ true) live → overs s.file.now lists s.flights.now ≡ []
      → HasSeatsFor (limits_behind s.file.now changes) live
  pub room : (live : List Booking) → IsByFlight lists (length s.flights.now) live → IsApart live
      → AllByRecursion (λ b. sells s.file.now b.place b.class ≡ true) live → overs s.file.now lists s.flights.now ≡ []
      → ((flight leg class : ℕ) → waiting live flight leg class ≤ 999)
      → HasRoomFor (limits_behind s.file.now changes) live
