-- Live bookings with their sessions, and the lines by which they are asked for anew.
use Rattle.std.specs.Prelude.{◌≡◌, ◌<◌, ◌≤◌, ◌+◌, List, [], ◌∷◌, ◌++◌, filter, length, map}
use Rattle.seat_journal.specs.declared.entry.Entry.{Entry}
use Rattle.seat_journal.specs.declared.entry.Work.TheVariants.{Seats}
use Rattle.seat_nesting.specs.Nesting.{Ladders}
use Rattle.seat_rules.specs.declared.booking.Booking.{Booking}
use Rattle.seat_rules.specs.Bookings.{is_held, is_waiting}
use Rattle.seat_rules.specs.Inventory.{Inventory, state_now}
use Rattle.seat_rules.specs.Journal.{FitsCommand, calls_of, next_line}
use Rattle.seat_rules.specs.Sequential.{NoneFits, state_of}
use Rattle.seat_carrying.specs.Carrying.{AreCarried, HasRoomFor, anew, command_for, in_turn}
use Rattle.seat_carrying.specs.declared.owned.Owned.{Owned}

-- a session of an agent, and seats on legs that the limits have
pub record IsOwned (grid : Ladders) (o : Owned) : Type 0 where
  pub some : 1 ≤ o.session
  pub few : o.session ≤ 8
  pub fits : FitsCommand grid (command_for o.booking)

-- the next line of its session, which asks for it
abbrev pub line_for : Ladders → List Entry → Owned → Entry
line_for grid past o = next_line grid past o.session (calls_of past o.session + 1) (Seats (command_for o.booking))

-- these lines, and those that ask for one booking after the other
abbrev pub lines_after : Ladders → List Entry → List Owned → List Entry
lines_after grid past [] = past
lines_after grid past (o ∷ owned) = lines_after grid (past ++ line_for grid past o ∷ []) owned

-- those that are held, then those that wait
abbrev pub owned_in_turn : List Owned → List Owned
owned_in_turn owned = filter (λ o. is_held o.booking.status) owned ++ filter (λ o. is_waiting o.booking.status) owned

-- of these some that come first were asked for, and others are left
pub record AsksForFirst (grid : Ladders) (old new : List Entry) (owned : List Owned) : Type 0 where
  pub asked : List Owned
  pub left : List Owned
  pub parts : owned ≡ asked ++ left
  pub some : 0 < length left
  pub lines : new ≡ lines_after grid old asked

abbrev pub bookings_of : List Owned → List Booking
bookings_of owned = map (λ o. o.booking) owned

-- an inventory without bookings that has room for all of them has each of them then
pub record LosesNobody (old new : Inventory) (live : List Booking) : Type 0 where
  pub each : (state_now old).bookings ≡ [] → HasRoomFor (state_now old).grid live
      → AreCarried (length old.journal + 1) (in_turn live) (state_now new).bookings

-- and where none of those that wait fits beside those that are held, it has the very bookings
pub record HasTheVery (old new : Inventory) (live : List Booking) : Type 0 where
  pub same : (state_now old).bookings ≡ [] → HasRoomFor (state_now old).grid live → NoneFits (state_now old).grid live
      → state_now new ≡ state_of (state_now old).grid (anew (length old.journal + 1) (in_turn live))
