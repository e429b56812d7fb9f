-- The one leg that a row of the manager is for, and what the row sets on it.
use Rattle.std.specs.Prelude.{List, [], ◌∷◌, Option, Some, None}
use Rattle.seat_journal.specs.declared.entry.Control.{Control}
use Rattle.seat_limits.specs.declared.change_row.ChangeRow.{ChangeRow}
use Rattle.seat_replies.specs.Changes.{changes_of}
use Rattle.ssim_flights.specs.declared.flight.Flight.{Flight as Flown}

-- what is set, where it is on one leg
abbrev pub the_one : List Control → Option Control
the_one [] = None
the_one (control ∷ []) = Some control
the_one (control ∷ other ∷ more) = None

abbrev pub one_of : Option (List Control) → Option Control
one_of None = None
one_of (Some controls) = the_one controls

-- what a row sets that is for exactly one leg
abbrev pub control_of : List Flown → ChangeRow → Option Control
control_of flights row = one_of (changes_of flights row)
