-- The sessions that are handed in, and what a settled host gives.
use Rattle.std.specs.Prelude.{◌≡◌, ℕ, zero, suc, ◌==◌, ◌&&◌, ◌≤◌, Bool, true, List, length}
use Rattle.std.specs.List.{list_any}
use Rattle.seat_journal.specs.declared.entry.Entry.{Entry}
use Rattle.seat_rules.specs.Prefixes.{Begins}
use Rattle.seat_rules.specs.Histories.{of_session}
use Rattle.seat_host.specs.Sessions.{Seat}

-- one of them has this number
abbrev pub has_id : ℕ → List Seat → Bool
has_id number sessions = list_any (λ (s : Seat). s.id == number) sessions

-- each number from 1 to n is among theirs
abbrev pub has_up_to : ℕ → List Seat → Bool
has_up_to zero sessions = true
has_up_to (suc n) sessions = has_id (suc n) sessions && has_up_to n sessions

-- their numbers are 1 to n, each once: they are n, and each number is among theirs
abbrev pub has_all : ℕ → List Seat → Bool
has_all n sessions = (length sessions == n) && has_up_to n sessions

-- the receipts of a session are its lines in the journal, in order, and its front is a beginning of the journal
pub record IsConfirmed (n : ℕ) (journal : List Entry) (s : Seat) : Type 0 where
  pub number : s.id ≤ n
  pub lines : s.receipts ≡ of_session s.id journal
  pub front : Begins s.front journal
