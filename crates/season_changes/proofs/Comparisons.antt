-- The text of a comparison.
use Rattle.std.proofs.Common.{◌≡◌, ℕ, Bool, List, [], ◌++◌, ap, subst, ◌∙◌}
use Rattle.ssim_flights.specs.declared.flight.Flight.{Flight as Flown}
use Rattle.seat_nesting.specs.Nesting.{Ladders}
use Rattle.seat_rules.specs.declared.booking.Booking.{Booking}
use Rattle.seat_desk.specs.FlightsDesk.{IsPut}
use Rattle.season_changes.specs.Changes.{changes_of}
use Rattle.season_changes.specs.Comparing.{AreChangesText, IsComparisonText}
use Rattle.season_changes.specs.Lines.{IsChangePart}
use Rattle.season_changes.specs.Sums.{sums_text}
use Rattle.season_changes.specs.declared.changes.Change.{Change}
use Rattle.season_changes.specs.declared.comparing.Comparison.{Comparison}

pub text_put : (has_journal : Bool) (all : List Change) (start mid new : List ℕ) → start ≡ []
    → IsPut (λ n. IsChangePart has_journal) 0 all start mid → new ≡ mid ++ sums_text has_journal all → AreChangesText has_journal all new
text_put has_journal all start mid new empty put summed =
    let lines : mid ≡ put.part = put.written ∙ ap (λ (l : List ℕ). l ++ put.part) empty in
    record {
      lines = put.part;
      are_lines = put.is_text;
      written = summed ∙ ap (λ (l : List ℕ). l ++ sums_text has_journal all) lines;
    }

pub of_changes : (asked : Comparison) (flights : List Flown) (grid : Ladders) (bookings : List Booking) (items all : List Change) (text : List ℕ)
    → items ≡ changes_of asked flights grid bookings → all ≡ items → AreChangesText asked.has_journal all text
    → IsComparisonText asked flights grid bookings text
of_changes asked flights grid bookings items all text are is written =
    subst (λ (cs : List Change). AreChangesText asked.has_journal cs text) (is ∙ are) written
