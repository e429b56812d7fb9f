-- The journal of a carry: changes of limits, live bookings asked for anew, and classes closed again.
use Rattle.std.specs.Prelude.{◌≡◌, ℕ, ◌+◌, nat_le, true, false, Bool, List, [], ◌∷◌, ◌++◌, codes, filter, length, map, slice_get, Some}
use Rattle.std.specs.List.{AllByRecursion}
use Rattle.seat_journal.specs.declared.entry.Change.{Change}
use Rattle.seat_journal.specs.declared.entry.Entry.{Entry}
use Rattle.seat_journal.specs.declared.entry.Work.{Work}
use Rattle.seat_journal.specs.declared.entry.Work.TheVariants.{Limit, Sale, Seats}
use Rattle.seat_nesting.specs.Nesting.{Ladders, may_wait}
use Rattle.seat_rules.specs.declared.booking.Booking.{Booking}
use Rattle.seat_rules.specs.declared.booking.Status.{Status}
use Rattle.seat_rules.specs.declared.booking.Status.TheVariants.{Held, Waiting}
use Rattle.seat_rules.specs.Bookings.{IsApart, waiting}
use Rattle.seat_rules.specs.Closing.{is_shut}
use Rattle.seat_rules.specs.Inventory.{Inventory, state_now}
use Rattle.seat_rules.specs.Journal.{replay}
use Rattle.seat_rules.specs.Prefixes.{Begins}
use Rattle.seat_rules.specs.Sequential.{NoneFits, State, room_left}
use Rattle.seat_carrying.specs.Carrying.{AreCarried, HasRoomFor, anew, command_for, in_turn}
use Rattle.seat_carrying.specs.Owned.{bookings_of, lines_after, owned_in_turn}
use Rattle.seat_carrying.specs.declared.owned.Owned.{Owned}
use Rattle.carry_lines.specs.Setting.{changes_of, closings_of, lines_set}
use Rattle.carry_lines.specs.declared.mark.Mark.{Mark}

-- ---- the lines

-- the manager changes the limits
abbrev pub changed_lines : Ladders → List Change → List Entry
changed_lines grid rows = lines_set grid [] (changes_of rows)

-- then the live bookings are asked for: those that are held, and those that wait
abbrev pub asked_lines : Ladders → List Change → List Owned → List Entry
asked_lines grid rows live = lines_after grid (changed_lines grid rows) (owned_in_turn live)

-- and last the manager closes classes
abbrev pub carried_lines : Ladders → List Change → List Owned → List Mark → List Entry
carried_lines grid rows live marks = lines_set grid (asked_lines grid rows live) (closings_of marks)

-- the limits behind the changes
abbrev pub limits_behind : Ladders → List Change → Ladders
limits_behind grid rows = (replay grid (changed_lines grid rows)).grid

-- ---- whose line is whose

-- the line asks for seats
abbrev pub asks_seats : Work → Bool
asks_seats (Seats c) = true
asks_seats (Limit c) = false
asks_seats (Sale c) = false

-- the numbers of so many lines, from the first on
abbrev pub numbers_from : ℕ → List Owned → List ℕ
numbers_from first [] = []
numbers_from first (o ∷ owned) = first ∷ numbers_from (first + 1) owned

-- each live booking has its own line, which asks for it in its session's name, and no other line asks for seats
pub record HasLineEach (rows : List Change) (live : List Owned) (journal : List Entry) : Type 0 where
  pub works : map (λ e. e.work) (filter (λ e. asks_seats e.work) journal) ≡ map (λ o. Seats (command_for o.booking)) (owned_in_turn live)
  pub sessions : map (λ e. e.session) (filter (λ e. asks_seats e.work) journal) ≡ map (λ o. o.session) (owned_in_turn live)
  pub numbers : map (λ e. e.number) (filter (λ e. asks_seats e.work) journal) ≡ numbers_from (length rows + 1) (owned_in_turn live)

-- ---- what becomes of the bookings

-- where the limits behind the changes have room for all, each live booking has its own line's in the end, and holds where it held
pub record LosesNobody (grid : Ladders) (rows : List Change) (live : List Owned) (new : Inventory) : Type 0 where
  pub each : HasRoomFor (limits_behind grid rows) (bookings_of live)
      → AreCarried (length rows + 1) (in_turn (bookings_of live)) (state_now new).bookings

-- and where none of those that wait fits beside those that are held, they are the very bookings
pub record HasTheVery (grid : Ladders) (rows : List Change) (live : List Owned) (new : Inventory) : Type 0 where
  pub same : HasRoomFor (limits_behind grid rows) (bookings_of live) → NoneFits (limits_behind grid rows) (bookings_of live)
      → (state_now new).bookings ≡ anew (length rows + 1) (in_turn (bookings_of live))

-- the bookings are those that there were behind the lines that asked for them: a closing takes nothing from anybody, and gives nobody anything
abbrev pub KeepsAll : Ladders → List Change → List Owned → Inventory → Type 0
KeepsAll grid rows live new = (state_now new).bookings ≡ (replay grid (asked_lines grid rows live)).bookings

-- ---- what each is answered

-- SS is confirmed where its seats fit, listed where they may wait, and else refused; LL is listed where they may wait, and else refused (AIRIMP)
abbrev pub reply_by : Status → Bool → Bool → List ℕ
reply_by Held true may = codes "KK"
reply_by Held false true = codes "US"
reply_by Held false false = codes "UC"
reply_by Waiting fits true = codes "HL"
reply_by Waiting fits false = codes "UC"

-- by the seats that are left for a booking, and that may wait
abbrev pub reply_for : State → Booking → List ℕ
reply_for s b =
    reply_by b.status (nat_le b.seats (room_left s b.place b.class)) (may_wait s.grid (waiting s.bookings) b.place b.class b.seats)

-- no two of them for the same, the line that asks for one is answered by what those ahead of it left: whoever held and holds nothing found no room
pub record AnswersByRoom (grid : Ladders) (rows : List Change) (live : List Owned) (new : Inventory) : Type 0 where
  pub each : (turn : ℕ) (o : Owned) (front : List Entry) (e : Entry) → IsApart (bookings_of live)
      → slice_get (owned_in_turn live) turn ≡ Some o → Begins (front ++ e ∷ []) new.journal → length front ≡ length rows + turn
      → e.reply ≡ reply_for (replay grid front) o.booking

-- ---- what is closed

-- of the lines that close or open each of these classes on its leg the last closes it
abbrev pub AreShut : List Mark → List Entry → Type 0
AreShut marks journal = AllByRecursion (λ m. is_shut m.flight m.leg m.class journal ≡ true) marks
