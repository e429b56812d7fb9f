-- The report of a carry.
use Rattle.std.specs.Prelude.{◌≡◌, ℕ, List, ◌++◌}
use Rattle.ssim_flights.specs.declared.flight.Flight.{Flight as Flown}
use Rattle.seat_desk.specs.FlightsDesk.{IsText}
use Rattle.carry_reports.specs.Lines.{IsFatedLine}
use Rattle.carry_reports.specs.Sums.{sums_text}
use Rattle.carry_reports.specs.declared.fating.Fated.{Fated}

-- a line for each live booking of journals that have so many lines, of none of which is said where there is one, and one line of sums
pub record IsReport (counts : List ℕ) (olds news : List Flown) (all : List Fated) (text : List ℕ) : Type 0 where
  pub lines : List ℕ
  pub are_lines : IsText (λ n. IsFatedLine counts olds news) 0 all lines
  pub written : text ≡ lines ++ sums_text all
