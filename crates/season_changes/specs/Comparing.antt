-- What the comparison of two seasons writes.
use Rattle.std.specs.Prelude.{◌≡◌, ℕ, Bool, List, ◌++◌}
use Rattle.ssim_flights.specs.declared.flight.Flight.{Flight as Flown}
use Rattle.seat_nesting.specs.Nesting.{Ladders}
use Rattle.seat_rules.specs.declared.booking.Booking.{Booking}
use Rattle.seat_desk.specs.FlightsDesk.{IsText}
use Rattle.season_changes.specs.Changes.{changes_of}
use Rattle.season_changes.specs.Lines.{IsChangePart}
use Rattle.season_changes.specs.Sums.{sums_text}
use Rattle.season_changes.specs.declared.changes.Change.{Change}
use Rattle.season_changes.specs.declared.comparing.Comparison.{Comparison}

-- a part for each change, and the line of sums
pub record AreChangesText (has_journal : Bool) (all : List Change) (text : List ℕ) : Type 0 where
  pub lines : List ℕ
  pub are_lines : IsText (λ n. IsChangePart has_journal) 0 all lines
  pub written : text ≡ lines ++ sums_text has_journal all

-- of what becomes of these flights and bookings
abbrev pub IsComparisonText : Comparison → List Flown → Ladders → List Booking → List ℕ → Type 0
IsComparisonText asked flights grid bookings text =
    AreChangesText asked.has_journal (changes_of asked flights grid bookings) text
