-- What a planner is promised of a carry: who is asked for, that nobody loses where each leg has the seats, and that who loses found no room.
use Rattle.std.specs.Prelude.{◌≡◌, ◌≢◌, ◌≤◌, ◌<◌, ◌+◌, ℕ, List, [], ◌∷◌, ◌++◌, codes, length, slice_get, Some, true}
use Rattle.std.specs.List.{AllByRecursion}
use Rattle.ssim_flights.specs.declared.flight.Flight.{Flight as Flown}
use Rattle.seat_journal.specs.declared.entry.Change.{Change}
use Rattle.seat_journal.specs.declared.entry.Entry.{Entry}
use Rattle.seat_nesting.specs.Nesting.{Ladders}
use Rattle.seat_rules.specs.Bookings.{IsApart, waiting}
use Rattle.seat_rules.specs.Flights.{bookings_on}
use Rattle.seat_rules.specs.Inventory.{Inventory, state_now}
use Rattle.seat_rules.specs.Journal.{replay}
use Rattle.seat_rules.specs.Prefixes.{Begins}
use Rattle.seat_rules.specs.Sequential.{room_left}
use Rattle.seat_rules.specs.declared.booking.Booking.{Booking}
use Rattle.seat_rules.specs.declared.booking.Status.TheVariants.{Held}
use Rattle.seat_parts.specs.OwnLines.{of_flight}
use Rattle.seat_carrying.specs.Carrying.{AreCarried, anew, in_turn, sells, those_held}
use Rattle.seat_carrying.specs.Owned.{bookings_of, owned_in_turn}
use Rattle.seat_carrying.specs.declared.owned.Owned.{Owned}
use Rattle.carry_limits.specs.ByFlight.{Lists}
use Rattle.carry_limits.specs.Changes.{changes_for}
use Rattle.carry_limits.specs.Overs.{overs}
use Rattle.carry_lines.specs.Carried.{AreShut, HasLineEach, reply_for}
use Rattle.carry_limits.specs.declared.wanting.Seasons.{Seasons}
use Rattle.carry_limits.specs.Same.{AllStay, IsSame, IsSameSeason, StandsOver}
use Rattle.carry_protections.specs.declared.course.Course.{Course}
use Rattle.carry_plans.specs.Plans.{IsPlanned, marks_for}
use Rattle.carry_plans.specs.declared.asked.CarryAsked.{CarryAsked}

-- ---- who is asked for

-- each leg of the place where each of them goes sells its class; and no two are for the same
pub record AreAllThere (file : Ladders) (kept : List Owned) : Type 0 where
  pub sold : AllByRecursion (λ b. sells file b.place b.class ≡ true) (bookings_of kept)
  pub apart : IsApart (bookings_of kept)

-- ---- nobody loses

-- at most 999 wait in each class of each leg, as many as any wait lets
abbrev pub AtMostWait : List Booking → Type 0
AtMostWait bookings = (flight leg class : ℕ) → waiting bookings flight leg class ≤ 999

-- these bookings come first
abbrev pub ComeFirst : List Booking → List Booking → Type 0
ComeFirst [] all = Unit {0}
ComeFirst (b ∷ bs) [] = ⊥
ComeFirst (b ∷ bs) (x ∷ all) = (x ≡ b) × ComeFirst bs all

-- where no leg has fewer seats than are held there, those who held come first in the new inventory, each on its new place with its seats, and hold there;
-- and where at most 999 wait in each class of each leg, those who waited come behind them, in their order, each with its seats, and wait or hold
pub record NobodyLoses (news : List Flown) (file : Ladders) (lists : Lists) (kept : List Owned) (ahead : ℕ) (after : Inventory) : Type 0 where
  pub held : overs file lists news ≡ [] → ComeFirst (anew (ahead + 1) (those_held (bookings_of kept))) (state_now after).bookings
  pub all : overs file lists news ≡ [] → AtMostWait (bookings_of kept)
      → AreCarried (ahead + 1) (in_turn (bookings_of kept)) (state_now after).bookings

-- ---- who loses

-- the line of the new journal that asks for a booking in its turn: those who held are asked for first, and each group in its order
pub record IsLineOf (file : Ladders) (rows : List Change) (kept : List Owned) (after : Inventory) (o : Owned) (front : List Entry) (e : Entry)
    : Type 0 where
  pub turn : ℕ
  pub in_its_turn : slice_get (owned_in_turn kept) turn ≡ Some o
  pub line : Begins (front ++ e ∷ []) after.journal
  pub behind : length front ≡ length rows + turn

-- each who is asked for has its line, and is answered by the seats that those asked ahead of it left, and by what may wait; who held and is not confirmed found fewer seats
-- than its own; and what a flight has in the end its own lines leave
pub record EachByRoom (file : Ladders) (rows : List Change) (kept : List Owned) (after : Inventory) : Type 0 where
  pub turns : HasLineEach rows kept after.journal
  pub answered : (o : Owned) (front : List Entry) (e : Entry) → IsLineOf file rows kept after o front e
      → e.reply ≡ reply_for (replay file front) o.booking
  pub loses : (o : Owned) (front : List Entry) (e : Entry) → IsLineOf file rows kept after o front e
      → o.booking.status ≡ Held → e.reply ≢ codes "KK" → room_left (replay file front) o.booking.place o.booking.class < o.booking.seats
  pub own_lines : (flight : ℕ) → (replay file (of_flight flight after.journal)).bookings ≡ bookings_on flight (state_now after).bookings

-- ---- what was closed

-- each class that is closed again is closed by the last line that closes or opens it on its leg
abbrev pub ClosesAgain : CarryAsked → List Flown → Inventory → List Flown → Ladders → Inventory → Type 0
ClosesAgain asked olds before news file after = AreShut (marks_for asked.fresh_limits olds before news file) after.journal

-- ---- the same season

-- onto the season that it has, where no row says where bookings go, nobody comes first and no leg has fewer seats than are held there, the inventory is the
-- same: its bookings held and waiting, and its limits
pub record StaysSame (asked : CarryAsked) (courses : List Course) (s : Seasons) (lists : Lists) (ahead : ℕ) (after : Inventory) : Type 0 where
  pub same : courses ≡ [] → asked.order.now ≡ [] → overs s.file.now lists s.flights.now ≡ [] → IsSameSeason s → StandsOver s.before.now
      → AllStay s asked.today (state_now s.before.now).bookings → IsSame s.before.now ahead after

-- ---- all of it

-- the plan, and what is promised of it
pub record IsPromised (asked : CarryAsked) (olds : List Flown) (before : Inventory) (news : List Flown) (file : Ladders) (after : Inventory)
    (report : List ℕ) : Type 0 where
  pub planned : IsPlanned asked olds before news file after report
  pub there : AreAllThere file planned.kept
  pub nobody_loses : NobodyLoses news file planned.lists planned.kept (length (changes_for planned.seasons planned.lists)) after
  pub by_room : EachByRoom file (changes_for planned.seasons planned.lists) planned.kept after
  pub closes : ClosesAgain asked olds before news file after
  pub same : StaysSame asked planned.courses planned.seasons planned.lists (length (changes_for planned.seasons planned.lists)) after
