-- What a session knows, and what its calls leave.
use Rattle.std.specs.Prelude.{◌≡◌, ℕ, zero, suc, ◌+◌, ◌-◌, ◌<◌, ◌≤◌, List, [], ◌∷◌, ◌++◌, length, map, slice_get, take}
use Rattle.seat_nesting.specs.Nesting.{Ladders}
use Rattle.seat_journal.specs.declared.entry.Work.{Work}
use Rattle.seat_journal.specs.declared.entry.Entry.{Entry}
use Rattle.seat_rules.specs.Prefixes.{Begins}
use Rattle.seat_rules.specs.Inventory.{HoldsWithinLimits}
use Rattle.seat_rules.specs.Journal.{IsLegal}
use Rattle.seat_rules.specs.Histories.{of_session}
use Rattle.line_booking.specs.Receipts.{Kept}

-- what contracts see of a session: its number, which is 0 for the manager, the lines that it was given, and what it has seen
pub record Seat : Type 0 where
  pub id : ℕ
  pub receipts : List Entry
  pub front : List Entry

-- a session of which so many calls gave a line: its receipts are so many of its lines in what it has seen, from the first on
abbrev pub seat_of : ℕ → ℕ → List Entry → Seat
seat_of number calls front = record { id = number; receipts = take calls (of_session number front); front = front }

-- the numbers of lines
abbrev pub numbers_of : List Entry → List ℕ
numbers_of lines = map (λ (line : Entry). line.number) lines

-- what is kept of these lines: the number of each, and the last
pub record KeepsLines (kept : Kept) (lines : List Entry) : Type 0 where
  pub numbers : kept.numbers ≡ numbers_of lines
  pub last : kept.last ≡ slice_get lines (length lines - 1)

-- a session that goes on from these lines: it has seen them all, and has its own among them as receipts
abbrev pub seated : ℕ → List Entry → Seat
seated number past = record { id = number; receipts = of_session number past; front = past }

-- sessions 1 to n that go on from these lines
abbrev pub seated_sessions : ℕ → List Entry → List Seat
seated_sessions zero past = []
seated_sessions (suc n) past = seated_sessions n past ++ seated (suc n) past ∷ []

-- what holds of a session at any time, among n. Its receipts begin its own entries in its front
pub record Stands (grid : Ladders) (n : ℕ) (s : Seat) : Type 0 where
  pub number : (s.id ≤ n) × (n < 9)
  pub legal : IsLegal grid s.front
  pub own : Begins s.receipts (of_session s.id s.front)
  pub few : length s.receipts ≤ 1000000

-- the call gave one line more, of this session, its next call and this work. The session has then seen all lines so far, of which its receipts are its own, in order, and after which no leg holds more than authorised
pub record Booked (grid : Ladders) (work : Work) (s t : Seat) : Type 0 where
  pub line : Entry
  pub session : line.session ≡ s.id
  pub call : line.call ≡ length s.receipts + 1
  pub work_is : line.work ≡ work
  pub id : t.id ≡ s.id
  pub receipts : t.receipts ≡ s.receipts ++ line ∷ []
  pub before : Begins s.front t.front
  pub past : List Entry
  pub last : t.front ≡ past ++ line ∷ []
  pub own : of_session t.id t.front ≡ t.receipts
  pub legal : IsLegal grid t.front
  pub within : HoldsWithinLimits grid t.front

-- nothing but the front may have grown
pub record Waits (s t : Seat) : Type 0 where
  pub id : t.id ≡ s.id
  pub receipts : t.receipts ≡ s.receipts
  pub before : Begins s.front t.front
