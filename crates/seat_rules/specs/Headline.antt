-- The headline: what a host, its manager and all its sessions come to, once they are gathered.
use Rattle.std.specs.Prelude.{◌≡◌, ℕ, ◌≤◌, List, length}
use Rattle.seat_nesting.specs.Nesting.{Ladders}
use Rattle.seat_journal.specs.declared.entry.Entry.{Entry}
use Rattle.seat_rules.specs.declared.totals.Totals.{Totals}
use Rattle.seat_rules.specs.Inventory.{HoldsWithinLimits}
use Rattle.seat_rules.specs.Journal.{IsLegal}
use Rattle.seat_rules.specs.Totals.{totals_of}
use Rattle.seat_rules.specs.Agreement.{receipts_in, totals_in, Agrees}
use Rattle.seat_rules.specs.Histories.{by_session, OnlyFirst}

pub record Headline (grid : Ladders) (cap n : ℕ) (journal : List Entry) (receipts : List (List Entry))
    (totals : Totals) : Type 0 where
  -- the state is what the sequential inventory reaches by the journal, and each recorded reply is the one given at that point
  pub legal : IsLegal grid journal
  pub capped : length journal ≤ cap
  -- no leg holds more seats in a class and those below it than authorised
  pub within : HoldsWithinLimits grid journal
  -- each line is the receipt of its session and call, and each receipt the line of its number
  pub each : Agrees receipts journal
  -- none is left out
  pub lines : receipts_in receipts ≡ length journal
  -- the receipts of a session are its lines, in order, and no session but the manager and the first n has any
  pub own : receipts ≡ by_session n journal
  pub only : OnlyFirst n journal
  -- the totals are those of the journal, and the seats of the receipts sum to them
  pub totals_are : totals ≡ totals_of journal
  pub sums : totals ≡ totals_in receipts
