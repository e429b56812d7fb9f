-- Requests that are booked in groups, one behind the other.
use Rattle.std.specs.Prelude.{◌≡◌, ℕ, Option, List, ◌++◌}
use Rattle.seat_nesting.specs.Nesting.{Ladders}
use Rattle.seat_journal.specs.declared.entry.Entry.{Entry}
use Rattle.seat_rules.specs.Prefixes.{Begins}
use Rattle.seat_serving.specs.Answering.{behind}
use Rattle.seat_serving.specs.Served.{Served}
use Rattle.seat_serving.specs.declared.asked.Asked.{Asked}
use Rattle.desk_answers.specs.Hosts.{IsReady}

-- the first of these requests, however many, have their lines
pub record IsBehindSome (grid : Ladders) (past : List Entry) (asked : List Asked) (journal : List Entry) : Type 0 where
  pub front : List Asked
  pub rest : List Asked
  pub parts : asked ≡ front ++ rest
  pub journal_is : journal ≡ behind grid past front

-- all but the rest are booked, on the disk and visible, and no call of the file has failed
pub record IsBooking {D : Type 0} (seen : D → Option (List ℕ)) (leaves : D → List ℕ → Type 0) (unsynced failures : D → ℕ)
    (old new : Served D) (asked rest : List Asked) : Type 0 where
  pub front : List Asked
  pub parts : asked ≡ front ++ rest
  pub journal_is : new.journal ≡ behind old.grid old.journal front
  pub is_ready : IsReady seen leaves unsynced new
  pub grows : Begins old.kept new.kept
  pub counted : failures new.tape ≡ failures old.tape
  pub grid_is : new.grid ≡ old.grid
  pub cap_is : new.cap ≡ old.cap
