-- What holds of every loaded grid.
use Rattle.std.specs.Prelude.{ℕ, List}
use Rattle.ssim_flights.specs.declared.flight.Flight.{Flight as Flown}
use Rattle.seat_nesting.specs.Nesting.{Ladders, HasLadders}
use Rattle.seat_journal.specs.declared.entry.Entry.{Entry}
use Rattle.seat_rules.specs.Inventory.{HoldsWithinLimits}
use Rattle.seat_desk.specs.Loading.{IsLoaded}

-- no leg of a loaded grid has a class twice
abbrev pub LoadedLaddersDiffer : Type 0
LoadedLaddersDiffer = (set limits : List ℕ) (first days : ℕ) (flights : List Flown) (grid : Ladders) →
    IsLoaded set limits first days flights grid → HasLadders grid

-- from a loaded grid no replay holds more seats in a class of a leg and those below it than the limit that it leaves
abbrev pub LoadedReplaysKeepLimits : Type 0
LoadedReplaysKeepLimits =
    (set limits : List ℕ) (first days : ℕ) (flights : List Flown) (grid : Ladders) (journal : List Entry) →
    IsLoaded set limits first days flights grid → HoldsWithinLimits grid journal
