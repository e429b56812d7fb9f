-- The answer to a question for changes.
use Rattle.std.specs.Prelude.{◌≡◌, ◌++◌, ℕ, List}
use Rattle.ssim_flights.specs.declared.flight.Flight.{Flight as Flown}
use Rattle.seat_nesting.specs.Nesting.{Ladders}
use Rattle.seat_rules.specs.Sequential.{State}
use Rattle.seat_desk.specs.FlightsDesk.{IsText}
use Rattle.limit_changes.specs.Legs.{kept_legs, unnamed_legs}
use Rattle.limit_changes.specs.Lines.{IsRowLine, IsShortLine, IsUnnamedLine}
use Rattle.limit_changes.specs.Rows.{rows}
use Rattle.limit_changes.specs.Shorts.{shorts, unnamed}
use Rattle.limit_changes.specs.declared.legs.LegsAsked.{LegsAsked}
use Rattle.limit_changes.specs.declared.shorts.Short.{Short}

-- a line for each change, in order
abbrev pub IsChangesText : LegsAsked → List Flown → Ladders → State → List ℕ → Type 0
IsChangesText asked flights wanted s text = IsText (λ n. IsRowLine) 0 (rows wanted s (kept_legs asked flights)) text

-- a line for each of these, and behind them one for each of those of legs that no row names
pub record AreShortLines (short unnamed : List Short) (text : List ℕ) : Type 0 where
  pub first : List ℕ
  pub are_first : IsText (λ n. IsShortLine) 0 short first
  pub last : List ℕ
  pub are_last : IsText (λ n. IsUnnamedLine) 0 unnamed last
  pub written : text ≡ first ++ last

-- a line for each class whose limit does not come to what is wanted
abbrev pub IsShortsText : LegsAsked → List Flown → Ladders → State → List ℕ → Type 0
IsShortsText asked flights wanted s text =
    AreShortLines (shorts wanted s (kept_legs asked flights)) (unnamed wanted s (unnamed_legs asked flights)) text
