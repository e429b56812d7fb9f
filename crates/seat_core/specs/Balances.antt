-- What lines have left, where the lines themselves are not kept.
use Rattle.std.specs.Prelude.{◌≡◌, ℕ, ◌+◌, List, [], ◌∷◌, ◌++◌, length}
use Rattle.seat_nesting.specs.Nesting.{Ladders}
use Rattle.seat_journal.specs.declared.entry.Entry.{Entry}
use Rattle.seat_journal.specs.declared.entry.Work.{Work}
use Rattle.seat_rules.specs.Journal.{calls_of, next_line, IsNext}
use Rattle.seat_bookings.specs.Books.{IsOfReplay}
use Rattle.seat_core.specs.declared.balance.Balance.{Balance}

-- the limits over which it was opened
abbrev pub grid_of : Balance → Ladders
grid_of b = b.opening

-- how many lines there were
abbrev pub count_of : Balance → ℕ
count_of b = b.lines

-- these lines leave this balance: its books, its calls and its counters are those of their replay
pub record Leave (past : List Entry) (b : Balance) : Type 0 where
  pub count : count_of b ≡ length past
  pub nine : length b.calls ≡ 9
  pub of_replay : IsOfReplay (grid_of b) 999999 past b.books.items b.calls b.counts

-- some lines leave it
abbrev pub IsLeft : Balance → Type 0
IsLeft b = (past : List Entry) × Leave past b

-- whatever lines leave the old balance leave the new one
pub record StaysLeft (old new : Balance) : Type 0 where
  pub grid : grid_of new ≡ grid_of old
  pub count : count_of new ≡ count_of old
  pub left : (past : List Entry) → Leave past old → Leave past new

-- whatever lines leave the balance, the entry is the next behind them, as the session's next call
pub record IsNextOf (b : Balance) (session : ℕ) (work : Work) (e : Entry) : Type 0 where
  pub line : (past : List Entry) → Leave past b
      → e ≡ next_line (grid_of b) past session (calls_of past session + 1) work

-- whatever lines leave the old balance, they and the entry leave the new one
pub record TakesIn (old new : Balance) (e : Entry) : Type 0 where
  pub grid : grid_of new ≡ grid_of old
  pub left : (past : List Entry) → Leave past old → Leave (past ++ e ∷ []) new

-- the entry is the next behind some lines that leave the balance
pub record MayFollow (b : Balance) (e : Entry) : Type 0 where
  pub past : List Entry
  pub left : Leave past b
  pub next : IsNext (grid_of b) past e

-- behind whatever lines of the old balance the entry is the next, they and it leave the new one
pub record Follows (old new : Balance) (e : Entry) : Type 0 where
  pub grid : grid_of new ≡ grid_of old
  pub left : (past : List Entry) → Leave past old → IsNext (grid_of old) past e → Leave (past ++ e ∷ []) new
